-- Lists that are gone through from the front or the back.
use Rattle.std.proofs.Common.{◌≡◌, ℕ, ◌<◌, List, [], ◌∷◌, ◌++◌, Some, None, option_map, Bor, length, get_or, slice_get, take, drop, map, refl, sym, ap, ◌∙◌, append_assoc}
use Rattle.std.specs.Prelude.{reverse}
use Rattle.std.specs.Slice.{IsItemAt}
use Rattle.std.proofs.lemmas.Option.{slice_get-map, slice_get_past, slice_get_read}
use Rattle.std.proofs.lemmas.List.{get_or_default, reverse-append}
use Rattle.std.proofs.Math.Seq.{drop-append_seam, take-append_seam}

pub map-map : {A B C : Type 0} (f : A → B) (g : B → C) (xs : List A) → map g (map f xs) ≡ map (λ (a : A). g (f a)) xs
map-map f g [] = refl
map-map f g (x ∷ xs) = ap (λ ys. g (f x) ∷ ys) (map-map f g xs)

-- a list from its last item
pub reverse_last : {A : Type 0} (xs : List A) (x : A) → reverse (xs ++ x ∷ []) ≡ x ∷ reverse xs
reverse_last xs x = reverse-append xs (x ∷ [])

-- the last item goes from one list to the front of the other
pub moved_last : {A : Type 0} (all front back rest more : List A) (x : A) → front ≡ rest ++ x ∷ [] → more ≡ back ++ x ∷ []
    → front ++ reverse back ≡ all → rest ++ reverse more ≡ all
moved_last all front back rest more x is pushed whole =
    ap (λ ys. rest ++ ys) (ap reverse pushed ∙ reverse_last back x)
    ∙ sym (append_assoc rest (x ∷ []) (reverse back))
    ∙ ap (λ ys. ys ++ reverse back) (sym is)
    ∙ whole

pub take_front : {A : Type 0} (front back all : List A) (count : ℕ) → front ++ back ≡ all → length front ≡ count → take count all ≡ front
take_front front back all count whole long = ap (take count) (sym whole) ∙ ap (λ n. take n (front ++ back)) (sym long) ∙ take-append_seam front back

pub drop_front : {A : Type 0} (front back all : List A) (count : ℕ) → front ++ back ≡ all → length front ≡ count → drop count all ≡ back
drop_front front back all count whole long = ap (drop count) (sym whole) ∙ ap (λ n. drop n (front ++ back)) (sym long) ∙ drop-append_seam front back

-- ---- what a place of a slice has

pub not_there : {X : Type 0} (xs : List X) (i : ℕ) → IsItemAt xs i None → slice_get xs i ≡ None
not_there xs i h = slice_get_past xs i h.3

pub there : {X : Type 0} (xs : List X) (i : ℕ) (x : Bor X) → IsItemAt xs i (Some x) → slice_get xs i ≡ Some x.now
there xs i x h = slice_get_read xs (length xs) i x.now refl h.3.0 h.1

pub mapped_none : {X Y : Type 0} (f : X → Y) (xs : List X) (i : ℕ) → slice_get xs i ≡ None → slice_get (map f xs) i ≡ None
mapped_none f xs i e = slice_get-map f xs i ∙ ap (option_map f) e

pub position_read : (ps : List ℕ) (i : ℕ) → i < length ps → get_or ps i 0 ≡ get_or ps i (get_or ps i 0)
position_read ps i within = get_or_default ps i 0 (get_or ps i 0) within
