-- What a chain that begins with a swapped reference was before.
use Rattle.std.proofs.Common.{◌≡◌, ℕ, List, [], ◌∷◌, ◌++◌, Option, Some, None, refl, ap, sym, ◌∙◌}
use Rattle.std.proofs.lemmas.Option.{same_Some, none-some}
use Rattle.wdl_base.specs.declared.name.Key.{Key}
use Rattle.wdl_value.specs.declared.ty.Ty.{Ty}
use Rattle.wdl_typed.specs.declared.expr.TExpr.{TExpr}
use Rattle.wdl_typed.specs.declared.expr.TExpr.TheVariants as e
use Rattle.wdl_swaps.specs.declared.chain.Chain.{Chain}
use Rattle.wdl_swaps.specs.declared.chain.Hop.{Hop}
use Rattle.wdl_swaps.specs.declared.chain.Hop.TheVariants as hop
use Rattle.wdl_swaps.specs.declared.swap.Swap.{Swap}
use Rattle.wdl_swaps.specs.Chains.{behind, chain, chain_of, expr_of, hopped}
use Rattle.wdl_swaps.specs.Swaps.{or_chain, swap_at, swap_chain, swapped}
use Rattle.wdl_swaps.proofs.Chained.{along_more, chain_cast, chain_expr, chain_get, chain_member}
use Rattle.wdl_swaps.proofs.SwapLaws.{swapped_cast, swapped_get, swapped_member}

-- No chain begins with a reference that has a place.
abbrev pub Roots : List Swap → Type 0
Roots ss = (key : Key) (hops : List Hop) (c : Chain) → swap_at ss key hops ≡ Some c → (hs : List Hop) → swap_at ss c.key hs ≡ None

-- Where an expression is now a chain that begins with a reference that has a place, it was that chain.
abbrev pub Unmoved : List Swap → TExpr → Type 0
Unmoved ss a = (c d : Chain) (hs : List Hop) → chain_of (swapped ss a) ≡ Some c → swap_at ss c.key hs ≡ Some d → a ≡ expr_of c

module _ (ss : List Swap) (roots : Roots ss) where
  roots_of : (o : Option Chain) (x : Chain) → swap_chain ss o ≡ Some x → (hs : List Hop) → swap_at ss x.key hs ≡ None
  roots_of None x at hs = absurd (none-some x at)
  roots_of (Some y) x at hs = roots y.key y.hops x at hs

  -- what was put into a place begins with no such reference
  put_in : (x c d : Chain) (hs : List Hop) → ((ks : List Hop) → swap_at ss x.key ks ≡ None) → chain_of (expr_of x) ≡ Some c → swap_at ss c.key hs ≡ Some d → ⊥
  put_in x c d hs none is found =
      let same : x ≡ c = same_Some x c (sym (chain_expr x) ∙ is) in
      none-some d (sym (none hs) ∙ ap (λ (y : Chain). swap_at ss y.key hs) same ∙ found)

  pub unmoved_get : (key : Key) → Unmoved ss (e.Get key)
  unmoved_get key c d hs is found = by_swap (swap_at ss key []) refl (sym (ap chain_of (swapped_get ss key)) ∙ is)
    where
      by_swap : (o : Option Chain) → swap_at ss key [] ≡ o → chain_of (or_chain (e.Get key) o) ≡ Some c → e.Get key ≡ expr_of c
      by_swap None at h = ap expr_of (same_Some (chain key []) c (sym (chain_get key) ∙ h))
      by_swap (Some x) at h = absurd (put_in x c d hs (roots key [] x at) h found)

  -- a chain with one hop more
  further : (a r : TExpr) (h : Hop) → ((c d : Chain) (hs : List Hop) → chain_of r ≡ Some c → swap_at ss c.key hs ≡ Some d → a ≡ expr_of c)
      → (o : Option Chain) → chain_of r ≡ o → (c d : Chain) (hs : List Hop) → behind h o ≡ Some c → swap_at ss c.key hs ≡ Some d → hopped a h ≡ expr_of c
  further a r h u None is c d hs more found = absurd (none-some c more)
  further a r h u (Some b) is c d hs more found =
      let same : chain b.key (b.hops ++ h ∷ []) ≡ c = same_Some (chain b.key (b.hops ++ h ∷ [])) c more in
      ap (λ (x : TExpr). hopped x h) (u b d hs is (ap (λ (y : Chain). swap_at ss y.key hs) same ∙ found))
      ∙ sym (along_more (e.Get b.key) b.hops h)
      ∙ ap expr_of same

  pub unmoved_member : (a : TExpr) (name : List ℕ) → Unmoved ss a → Unmoved ss (e.Member a name)
  unmoved_member a name u c d hs is found =
      by_swap (swap_chain ss (behind (hop.Member name) (chain_of (swapped ss a)))) refl (sym (ap chain_of (swapped_member ss a name)) ∙ is)
    where
      by_swap : (o : Option Chain) → swap_chain ss (behind (hop.Member name) (chain_of (swapped ss a))) ≡ o
          → chain_of (or_chain (e.Member (swapped ss a) name) o) ≡ Some c → e.Member a name ≡ expr_of c
      by_swap None at h = further a (swapped ss a) (hop.Member name) u (chain_of (swapped ss a)) refl c d hs (sym (chain_member (swapped ss a) name) ∙ h) found
      by_swap (Some x) at h = absurd (put_in x c d hs (roots_of (behind (hop.Member name) (chain_of (swapped ss a))) x at) h found)

  pub unmoved_cast : (a : TExpr) (t : Ty) → Unmoved ss a → Unmoved ss (e.Cast a t)
  unmoved_cast a t u c d hs is found =
      further a (swapped ss a) (hop.Cast t) u (chain_of (swapped ss a)) refl c d hs
      (sym (chain_cast (swapped ss a) t) ∙ sym (ap chain_of (swapped_cast ss a t)) ∙ is) found

  pub unmoved_other : (a : TExpr) → chain_of (swapped ss a) ≡ None → Unmoved ss a
  unmoved_other a none c d hs is found = absurd (none-some c (sym none ∙ is))
