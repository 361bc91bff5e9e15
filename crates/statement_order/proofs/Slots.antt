-- Items that are taken from their slots, position by position.
use Rattle.std.proofs.Common.{◌≡◌, ℕ, zero, suc, ◌+◌, ◌<◌, false, ◌==◌, List, [], ◌∷◌, ◌++◌, length, map, get_or, take, slice_get, Option, Some, None, refl, sym, ap, ◌∙◌, append-nil}
use Rattle.std.proofs.lemmas.Bool.{or_parts, eqb-false}
use Rattle.std.proofs.lemmas.Grind.{flat_map-append}
use Rattle.std.proofs.lemmas.List.{get_or-set_other, take_more}
use Rattle.std.proofs.lemmas.List.Concat.{flat_map-cons}
use Rattle.std.specs.List.{flat_map, slice_set}
use Rattle.wdl_order.proofs.Numbers.{has-append}
use Rattle.wdl_typed.specs.Lists.{has_number}
use Rattle.wdl_typed.specs.Order.{option_list, picked}

module _ {A : Type 0} where
  pub slot_at : (xs : List A) (k : ℕ) → get_or (map Some xs) k None ≡ slice_get xs k
  slot_at [] k = refl
  slot_at (x ∷ xs) zero = refl
  slot_at (x ∷ xs) (suc k) = slot_at xs k

  pub picked_more : (list : List A) (ps : List ℕ) (i : ℕ) → i < length ps
      → picked list (take (i + 1) ps) ≡ picked list (take i ps) ++ option_list (slice_get list (get_or ps i 0))
  picked_more list ps i l =
      let f : ℕ → List A = λ p. option_list (slice_get list p) in
      ap (flat_map f) (take_more ps i 0 l) ∙ flat_map-append f (take i ps) (get_or ps i 0 ∷ [])
      ∙ ap (λ xs. flat_map f (take i ps) ++ xs) (flat_map-cons f (get_or ps i 0) [] ∙ append-nil (f (get_or ps i 0)))

  pub slots_left : (list : List A) (slots : List (Option A)) (ps : List ℕ) (i : ℕ) (s : Option A) → i < length ps
      → ((k : ℕ) → has_number k (take i ps) ≡ false → get_or slots k None ≡ slice_get list k)
      → (k : ℕ) → has_number k (take (i + 1) ps) ≡ false → get_or (slice_set slots (get_or ps i 0) s) k None ≡ slice_get list k
  slots_left list slots ps i s l h k u =
      let at : ℕ = get_or ps i 0 in
      let p = or_parts (has_number k (take i ps)) (has_number k (at ∷ []))
      (sym (has-append k (take i ps) (at ∷ [])) ∙ ap (has_number k) (sym (take_more ps i 0 l)) ∙ u) in
      let q = or_parts (at == k) false p.1 in
      get_or-set_other slots at k s None (λ e. eqb-false at k q.0 (sym e)) ∙ h k p.0
