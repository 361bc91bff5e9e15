-- Chains as expressions.
use Rattle.std.proofs.Common.{◌≡◌, ℕ, List, [], ◌∷◌, ◌++◌, Option, Some, refl, ap, sym, ◌∙◌, append_assoc, append-nil}
use Rattle.wdl_base.specs.declared.name.Key.{Key}
use Rattle.wdl_value.specs.declared.ty.Ty.{Ty}
use Rattle.wdl_typed.specs.declared.expr.TExpr.{TExpr, fold-roll-TExpr}
use Rattle.wdl_typed.specs.declared.expr.TExpr.TheOpen as layer
use Rattle.wdl_typed.specs.declared.expr.TExpr.TheVariants as e
use Rattle.wdl_swaps.specs.declared.chain.Chain.{Chain}
use Rattle.wdl_swaps.specs.declared.chain.Hop.{Hop}
use Rattle.wdl_swaps.specs.declared.chain.Hop.TheVariants as hop
use Rattle.wdl_swaps.specs.Chains.{along, behind, chain, chain_of, chain_step, expr_of, hopped}

pub chain_get : (key : Key) → chain_of (e.Get key) ≡ Some (chain key [])
chain_get key = ap chain_of (sym (e.rolls-Get key)) ∙ fold-roll-TExpr (Option Chain) chain_step (layer.Get key)

pub chain_member : (a : TExpr) (name : List ℕ) → chain_of (e.Member a name) ≡ behind (hop.Member name) (chain_of a)
chain_member a name = ap chain_of (sym (e.rolls-Member a name)) ∙ fold-roll-TExpr (Option Chain) chain_step (layer.Member a name)

pub chain_cast : (a : TExpr) (t : Ty) → chain_of (e.Cast a t) ≡ behind (hop.Cast t) (chain_of a)
chain_cast a t = ap chain_of (sym (e.rolls-Cast a t)) ∙ fold-roll-TExpr (Option Chain) chain_step (layer.Cast a t)

chain_hopped : (a : TExpr) (h : Hop) → chain_of (hopped a h) ≡ behind h (chain_of a)
chain_hopped a (hop.Member name) = chain_member a name
chain_hopped a (hop.Cast t) = chain_cast a t

chain_along : (a : TExpr) (key : Key) (before hops : List Hop) → chain_of a ≡ Some (chain key before) → chain_of (along a hops) ≡ Some (chain key (before ++ hops))
chain_along a key before [] is = is ∙ ap (λ (hs : List Hop). Some (chain key hs)) (sym (append-nil before))
chain_along a key before (h ∷ hs) is =
    chain_along (hopped a h) key (before ++ h ∷ []) hs (chain_hopped a h ∙ ap (behind h) is)
    ∙ ap (λ (xs : List Hop). Some (chain key xs)) (append_assoc before (h ∷ []) hs)

-- the chain that the expression of a chain is
pub chain_expr : (c : Chain) → chain_of (expr_of c) ≡ Some c
chain_expr c = chain_along (e.Get c.key) c.key [] c.hops (chain_get c.key)

pub along_more : (a : TExpr) (hops : List Hop) (h : Hop) → along a (hops ++ h ∷ []) ≡ hopped (along a hops) h
along_more a [] h = refl
along_more a (k ∷ hops) h = along_more (hopped a k) hops h
