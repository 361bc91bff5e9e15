-- A default that is a literal where something was replaced is the one that it was.
use Rattle.std.proofs.Common.{◌≡◌, ℤ, true, false, List, [], ◌∷◌, map, Option, Some, None, option_map, refl, ap, sym, ◌∙◌, subst}
use Rattle.std.specs.List.{list_all}
use Rattle.std.proofs.lemmas.Bool.{false≢true, and_parts}
use Rattle.wdl_value.specs.declared.ty.Ty.{Ty}
use Rattle.wdl_typed.specs.declared.expr.TExpr.{TExpr, TExpr-F, fold-roll-TExpr, ind-TExpr, map-TExpr, roll-TExpr}
use Rattle.wdl_typed.specs.declared.expr.TExpr.TheOpen as layer
use Rattle.wdl_typed.specs.declared.expr.TExpr.TheVariants as e
use Rattle.wdl_typed.specs.declared.task.TInput.{TInput}
use Rattle.wdl_typed.specs.KnownTypes.{is_some}
use Rattle.cwl_image.specs.declared.literal.Literal.{Literal}
use Rattle.cwl_image.specs.Expressions.{literal_of, literal_step, minus}
use Rattle.cwl_image.specs.Subset.{is_default}
use Rattle.wdl_swaps.specs.declared.chain.Chain.{Chain}
use Rattle.wdl_swaps.specs.declared.chain.Hop.{Hop}
use Rattle.wdl_swaps.specs.declared.chain.Hop.TheVariants as hop
use Rattle.wdl_swaps.specs.declared.swap.Swap.{Swap}
use Rattle.wdl_swaps.specs.Chains.{along, behind, chain_of, expr_of, hopped}
use Rattle.wdl_swaps.specs.Swaps.{or_chain, swap_at, swap_chain, swap_step, swapped, swapped_input}

literal_rolled : (y : TExpr-F TExpr) → literal_of (roll-TExpr y) ≡ literal_step (map-TExpr TExpr Literal literal_of y)
literal_rolled y = fold-roll-TExpr Literal literal_step y

-- ---- chains

-- neither a literal nor a number
abbrev IsNone : Literal → Type 0
IsNone l = (l.is_literal ≡ false) × (l.number ≡ None)

hop_none : (a : TExpr) (h : Hop) → IsNone (literal_of a) → IsNone (literal_of (hopped a h))
hop_none a (hop.Member name) n = let q = ap literal_of (sym (e.rolls-Member a name)) ∙ literal_rolled (layer.Member a name) in (ap (λ (l : Literal). l.is_literal) q, ap (λ (l : Literal). l.number) q)
hop_none a (hop.Cast t) n =
    let q = ap literal_of (sym (e.rolls-Cast a t)) ∙ literal_rolled (layer.Cast a t) in (ap (λ (l : Literal). l.is_literal) q ∙ n.0, ap (λ (l : Literal). l.number) q ∙ n.1)

along_none : (a : TExpr) (hs : List Hop) → IsNone (literal_of a) → IsNone (literal_of (along a hs))
along_none a [] n = n
along_none a (h ∷ hs) n = along_none (hopped a h) hs (hop_none a h n)

chain_none : (c : Chain) → IsNone (literal_of (expr_of c))
chain_none c =
    let q = ap literal_of (sym (e.rolls-Get c.key)) ∙ literal_rolled (layer.Get c.key) in
    along_none (e.Get c.key) c.hops (ap (λ (l : Literal). l.is_literal) q, ap (λ (l : Literal). l.number) q)

-- ---- literals

module _ (ss : List Swap) where
  -- What has become a literal or a number was so.
  pub record IsKept (a : TExpr) : Type 0 where
    pub literal : (literal_of (swapped ss a)).is_literal ≡ true → swapped ss a ≡ a
    pub number : is_some (literal_of (swapped ss a)).number ≡ true → swapped ss a ≡ a

  abbrev Known : Type 0
  Known = (a : TExpr) × IsKept a

  abbrev first : Known → TExpr
  first k = k.0

  abbrev plain : TExpr-F Known → TExpr-F TExpr
  plain = map-TExpr Known TExpr first

  abbrev again : TExpr-F TExpr → TExpr-F TExpr
  again = map-TExpr TExpr TExpr (swapped ss)

  opened : (y : TExpr-F TExpr) → swapped ss (roll-TExpr y) ≡ swap_step ss (again y)
  unfolding swapped
  opened y = fold-roll-TExpr TExpr (swap_step ss) y

  -- a form that is no literal
  no_literal : (a b : TExpr) → swapped ss a ≡ b → IsNone (literal_of b) → IsKept a
  no_literal a b q n =
      record {
        literal = λ h. absurd (false≢true (sym n.0 ∙ ap (λ z. (literal_of z).is_literal) (sym q) ∙ h));
        number = λ h. absurd (false≢true (sym (ap is_some n.1) ∙ ap (λ z. is_some (literal_of z).number) (sym q) ∙ h));
      }

  kept_as : (a : TExpr) → swapped ss a ≡ a → IsKept a
  kept_as a q = record { literal = λ h. q; number = λ h. q }

  lists_kept : (ks : List Known) → list_all (λ (l : Literal). l.is_literal) (map literal_of (map (swapped ss) (map first ks))) ≡ true → map (swapped ss) (map first ks) ≡ map first ks
  lists_kept [] h = refl
  lists_kept (k ∷ ks) h =
      let p = and_parts (literal_of (swapped ss k.0)).is_literal (list_all (λ (l : Literal). l.is_literal) (map literal_of (map (swapped ss) (map first ks)))) h in
      ap (λ (a : TExpr). a ∷ map (swapped ss) (map first ks)) (k.1.literal p.0) ∙ ap (λ (as_ : List TExpr). k.0 ∷ as_) (lists_kept ks p.1)

  or_itself : (a : TExpr) (o : Option Chain) → IsNone (literal_of a) → IsNone (literal_of (or_chain a o))
  or_itself a None n = n
  or_itself a (Some c) n = chain_none c

  -- the literal of the form with its parts swapped
  at_form : (y : TExpr-F Known) (b : TExpr) → swap_step ss (again (plain y)) ≡ b → IsNone (literal_of b) → IsKept (roll-TExpr (plain y))
  at_form y b q n = no_literal (roll-TExpr (plain y)) b (opened (plain y) ∙ q) n

  none_of : (y : TExpr-F TExpr) → literal_step (map-TExpr TExpr Literal literal_of y) ≡ record { number = None; is_literal = false; are_codes = false } → IsNone (literal_of (roll-TExpr y))
  none_of y h = let q = literal_rolled y ∙ h in (ap (λ (l : Literal). l.is_literal) q, ap (λ (l : Literal). l.number) q)

  by_layer : (y : TExpr-F Known) → IsKept (roll-TExpr (plain y))
  by_layer (layer.Lit x) = kept_as (roll-TExpr (layer.Lit x)) (opened (layer.Lit x))
  by_layer (layer.Get key) =
      let q = ap literal_of (sym (e.rolls-Get key)) ∙ literal_rolled (layer.Get key) in
      at_form (layer.Get key) (or_chain (e.Get key) (swap_at ss key [])) refl
      (or_itself (e.Get key) (swap_at ss key []) (ap (λ (l : Literal). l.is_literal) q, ap (λ (l : Literal). l.number) q))
  by_layer (layer.Member k name) =
      let a = swapped ss k.0 in
      let q = ap literal_of (sym (e.rolls-Member a name)) ∙ literal_rolled (layer.Member a name) in
      at_form (layer.Member k name) (or_chain (e.Member a name) (swap_chain ss (behind (hop.Member name) (chain_of a)))) refl
      (or_itself (e.Member a name) (swap_chain ss (behind (hop.Member name) (chain_of a))) (ap (λ (l : Literal). l.is_literal) q, ap (λ (l : Literal). l.number) q))
  by_layer (layer.Neg k) =
      let whole = opened (layer.Neg k.0) in
      let l = ap literal_of whole ∙ literal_rolled (layer.Neg (swapped ss k.0)) in
      let back : is_some (literal_of (swapped ss k.0)).number ≡ true → swapped ss (roll-TExpr (layer.Neg k.0)) ≡ roll-TExpr (layer.Neg k.0) =
      λ h. whole ∙ ap (λ z. roll-TExpr (layer.Neg z)) (k.1.number h) in
      record {
        literal = λ h. back (some_minus (literal_of (swapped ss k.0)).number (sym (ap (λ (z : Literal). z.is_literal) l) ∙ h));
        number = λ h. back (some_minus (literal_of (swapped ss k.0)).number (sym (ap (λ (z : Literal). is_some z.number) l) ∙ h));
      }
    where
      some_minus : (o : Option ℤ) → is_some (minus o) ≡ true → is_some o ≡ true
      some_minus None h = absurd (false≢true h)
      some_minus (Some n) h = refl
  by_layer (layer.ListOf ks) =
      let whole = opened (layer.ListOf (map first ks)) in
      let l = ap literal_of whole ∙ literal_rolled (layer.ListOf (map (swapped ss) (map first ks))) in
      record {
        literal = λ h. whole ∙ ap (λ z. roll-TExpr (layer.ListOf z)) (lists_kept ks (sym (ap (λ (z : Literal). z.is_literal) l) ∙ h));
        number = λ h. absurd (false≢true (sym (ap (λ (z : Literal). is_some z.number) l) ∙ h));
      }
  by_layer (layer.Cast k t) =
      let whole = opened (layer.Cast k.0 t) in
      let l = ap literal_of whole ∙ literal_rolled (layer.Cast (swapped ss k.0) t) in
      record {
        literal = λ h. whole ∙ ap (λ z. roll-TExpr (layer.Cast z t)) (k.1.literal (sym (ap (λ (z : Literal). z.is_literal) l) ∙ h));
        number = λ h. whole ∙ ap (λ z. roll-TExpr (layer.Cast z t)) (k.1.number (sym (ap (λ (z : Literal). is_some z.number) l) ∙ h));
      }
  by_layer y = at_form y (roll-TExpr (again (plain y))) refl (none_of (again (plain y)) refl)

  kept : (a : TExpr) → IsKept a
  kept = ind-TExpr IsKept (λ l y is. subst (λ (z : TExpr-F TExpr). IsKept (roll-TExpr z)) is (by_layer y))

  default_kept : (t : Ty) (o : Option TExpr) → is_default t (option_map (swapped ss) o) ≡ true → option_map (swapped ss) o ≡ o
  default_kept t None h = refl
  default_kept t (Some a) h = ap Some ((kept a).literal (and_parts _ (literal_of (swapped ss a)).is_literal h).1)

  -- An input of the subset is the one that it was.
  pub input_kept : (i : TInput) → is_default i.ty (swapped_input ss i).value ≡ true → swapped_input ss i ≡ i
  input_kept i h = ap (λ (o : Option TExpr). record { name = i.name; ty = i.ty; value = o; span = i.span }) (default_kept i.ty i.value h)
