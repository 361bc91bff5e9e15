-- References with the members and casts behind them.
use Rattle.std.specs.Prelude.{ℕ, Bool, true, false, ◌&&◌, List, [], ◌∷◌, ◌++◌, Option, Some, None}
use Rattle.std.specs.Str.{bytes_eq}
use Rattle.wdl_base.specs.declared.name.Key.{Key}
use Rattle.wdl_typed.specs.declared.expr.TExpr.{TExpr, TExpr-F, fold-TExpr}
use Rattle.wdl_typed.specs.declared.expr.TExpr.TheOpen as layer
use Rattle.wdl_typed.specs.declared.expr.TExpr.TheVariants as e
use Rattle.wdl_swaps.specs.declared.chain.Chain.{Chain}
use Rattle.wdl_swaps.specs.declared.chain.Hop.{Hop}
use Rattle.wdl_swaps.specs.declared.chain.Hop.TheVariants as hop

abbrev pub chain : Key → List Hop → Chain
chain key hops = record { key = key; hops = hops }

abbrev pub behind : Hop → Option Chain → Option Chain
behind h None = None
behind h (Some c) = Some (chain c.key (c.hops ++ h ∷ []))

abbrev pub chain_step : TExpr-F (Option Chain) → Option Chain
chain_step (layer.Get key) = Some (chain key [])
chain_step (layer.Member c name) = behind (hop.Member name) c
chain_step (layer.Cast c t) = behind (hop.Cast t) c
chain_step y = None

-- the chain that an expression is, if it is one
abbrev pub chain_of : TExpr → Option Chain
chain_of = fold-TExpr (Option Chain) chain_step

abbrev pub hopped : TExpr → Hop → TExpr
hopped a (hop.Member name) = e.Member a name
hopped a (hop.Cast t) = e.Cast a t

abbrev pub along : TExpr → List Hop → TExpr
along a [] = a
along a (h ∷ hs) = along (hopped a h) hs

-- the expression that is the chain
abbrev pub expr_of : Chain → TExpr
expr_of c = along (e.Get c.key) c.hops

-- The hops are these members.
abbrev pub are_members : List Hop → List (List ℕ) → Bool
are_members [] [] = true
are_members (hop.Member n ∷ hs) (m ∷ ms) = bytes_eq n m && are_members hs ms
are_members hs ms = false
