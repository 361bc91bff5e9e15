-- The parts of a value that fits a type, and lists of values that fit.
use Rattle.std.proofs.Common.{◌≡◌, ℕ, zero, suc, ◌<◌, Bool, true, false, cond, List, [], ◌∷◌, ◌++◌, length, map, get_or, Ok, ap, ◌∙◌, refl, arith}
use Rattle.std.proofs.lemmas.Bool.{and_parts, and_from}
use Rattle.std.specs.List.{filter}
use Rattle.wdl_value.specs.declared.ty.Ty.{Ty}
use Rattle.wdl_value.specs.declared.ty.Ty.TheVariants as ty
use Rattle.wdl_value.specs.declared.value.Value.{Value, Value-F, out-Value}
use Rattle.wdl_value.specs.declared.value.Value.TheVariants as v
use Rattle.wdl_value.specs.Fits.{Structs, is_int, fits}
use Rattle.wdl_value.specs.Parts.{int_at, int_in, items_at, items_in, rows_at, rows_in, left_at, left_in, right_at, right_in}
use Rattle.wdl_value.proofs.FitsForms.{all_fit, rows_fit, an_int, a_list, a_pair, a_map, list_fits}
use Rattle.wdl_stdlib.specs.Laws.{IsOfType}

module _ (structs : Structs) where
  -- ---- parts

  abbrev pub Fits : Value → Ty → Type 0
  Fits x t = fits structs x t ≡ true

  abbrev pub AllFit : List Value → Ty → Type 0
  AllFit xs t = all_fit structs xs t ≡ true

  pub number_fits : (x : Value) → Fits x ty.Int → is_int (int_in x) ≡ true
  number_fits x h = let p = an_int structs x h in ap (λ z. is_int (int_at (out-Value z))) p.1 ∙ ap (λ (l : Value-F Value). is_int (int_at l)) (v.outs-Int p.0) ∙ p.2

  pub items_fit : (x : Value) (t : Ty) (some : Bool) → Fits x (ty.Array t some) → AllFit (items_in x) t
  items_fit x t some h = let p = a_list structs x t some h in ap (λ (l : Value-F Value). all_fit structs (items_at l) t) p.2 ∙ p.3

  pub entries_fit : (x : Value) (t u : Ty) → Fits x (ty.Map t u) → rows_fit structs (rows_in x) t u ≡ true
  entries_fit x t u h = let p = a_map structs x t u h in ap (λ (l : Value-F Value). rows_fit structs (rows_at l) t u) p.2 ∙ p.3

  pub left_fits : (x : Value) (t u : Ty) → Fits x (ty.Pair t u) → Fits (left_in x) t
  left_fits x t u h = let p = a_pair structs x t u h in ap (λ (l : Value-F Value). fits structs (left_at x l) t) p.3 ∙ p.4

  pub right_fits : (x : Value) (t u : Ty) → Fits x (ty.Pair t u) → Fits (right_in x) u
  right_fits x t u h = let p = a_pair structs x t u h in ap (λ (l : Value-F Value). fits structs (right_at x l) u) p.3 ∙ p.5

  -- ---- lists

  pub all_made : {A : Type 0} (f : A → Value) (t : Ty) → ((x : A) → Fits (f x) t) → (xs : List A) → AllFit (map f xs) t
  all_made f t h [] = refl
  all_made f t h (x ∷ xs) = and_from (fits structs (f x) t) _ (h x) (all_made f t h xs)

  pub all_mapped : (f : Value → Value) (t u : Ty) → ((x : Value) → Fits x t → Fits (f x) u) → (xs : List Value) → AllFit xs t → AllFit (map f xs) u
  all_mapped f t u h [] k = refl
  all_mapped f t u h (x ∷ xs) k = let p = and_parts (fits structs x t) (all_fit structs xs t) k in and_from (fits structs (f x) u) _ (h x p.0) (all_mapped f t u h xs p.1)

  pub all_joined : (xs ys : List Value) (t : Ty) → AllFit xs t → AllFit ys t → AllFit (xs ++ ys) t
  all_joined [] ys t h k = k
  all_joined (x ∷ xs) ys t h k = let p = and_parts (fits structs x t) (all_fit structs xs t) h in and_from (fits structs x t) _ p.0 (all_joined xs ys t p.1 k)

  pub all_filtered : (f : Value → Bool) (xs : List Value) (t : Ty) → AllFit xs t → AllFit (filter f xs) t
  all_filtered f [] t h = refl
  all_filtered f (x ∷ xs) t h =
      let p = and_parts (fits structs x t) (all_fit structs xs t) h in
      let rest = all_filtered f xs t p.1 in
      elim (f x) as (λ b. all_fit structs (cond b (x ∷ filter f xs) (filter f xs)) t ≡ true) [ true ↦ and_from (fits structs x t) _ p.0 rest | false ↦ rest ]

  pub item_fits : (xs : List Value) (k : ℕ) (d : Value) (t : Ty) → k < length xs → AllFit xs t → Fits (get_or xs k d) t
  item_fits [] k d t l h = absurd (omega arith)
  item_fits (x ∷ xs) zero d t l h = (and_parts (fits structs x t) (all_fit structs xs t) h).0
  item_fits (x ∷ xs) (suc k) d t l h = item_fits xs k d t (omega arith) (and_parts (fits structs x t) (all_fit structs xs t) h).1

  pub array : (xs : List Value) (t : Ty) → AllFit xs t → IsOfType structs (ty.Array t false) (Ok (v.List xs))
  array xs t h = list_fits structs xs t h
