-- Tests of lists.
use Rattle.std.proofs.Common.{◌≡◌, ◌⊎◌, inl, inr, Bool, true, List, [], ◌∷◌, ◌++◌, map, Contains, sym, subst, ap, ◌∙◌, refl}
use Rattle.std.proofs.lemmas.Bool.{and_from, and_parts}
use Rattle.std.proofs.lemmas.List.Elements.{Contains-append_cases}
use Rattle.std.specs.List.{list_all}
use Rattle.cwl_model.proofs.Rounds.{first_is, first_or_later, later_is, none_is}

-- what passes one test passes another
pub all_kept : {A : Type 0} (f g : A → Bool) (xs : List A) → ((x : A) → Contains xs x → f x ≡ true → g x ≡ true) → list_all f xs ≡ true → list_all g xs ≡ true
all_kept f g [] k h = refl
all_kept f g (x ∷ xs) k h =
    let p = and_parts (f x) (list_all f xs) h in
    and_from (g x) (list_all g xs) (k x (first_is x xs) p.0) (all_kept f g xs (λ y c. k y (later_is x xs y c)) p.1)

pub all_at : {A : Type 0} (f : A → Bool) (xs : List A) → list_all f xs ≡ true → (x : A) → Contains xs x → f x ≡ true
all_at f [] h x c = absurd (none_is x c)
all_at f (y ∷ xs) h x c =
    let p = and_parts (f y) (list_all f xs) h in
    by_case (λ d. all_at f xs p.1 x d) p.0 (first_or_later y xs x c)
  where
    by_case : (Contains xs x → f x ≡ true) → f y ≡ true → (y ≡ x) ⊎ Contains xs x → f x ≡ true
    by_case rest here (inl e) = ap f (sym e) ∙ here
    by_case rest here (inr d) = rest d

pub map_takes : {A B : Type 0} (f : A → B) (xs : List A) (x : A) → Contains xs x → Contains (map f xs) (f x)
map_takes f [] x c = absurd (none_is x c)
map_takes f (y ∷ xs) x c = by_case (λ d. map_takes f xs x d) (first_or_later y xs x c)
  where
    by_case : (Contains xs x → Contains (map f xs) (f x)) → (y ≡ x) ⊎ Contains xs x → Contains (map f (y ∷ xs)) (f x)
    by_case rest (inl e) = subst (λ z. Contains (map f (y ∷ xs)) (f z)) e (first_is (f y) (map f xs))
    by_case rest (inr d) = later_is (f y) (map f xs) (f x) (rest d)

pub first_or_rest : {A : Type 0} (P : A → Type 0) (x : A) (xs : List A) → P x → ((y : A) → Contains xs y → P y) → (y : A) → Contains (x ∷ xs) y → P y
first_or_rest P x xs h rest y c = by_case (first_or_later x xs y c)
  where
    by_case : (x ≡ y) ⊎ Contains xs y → P y
    by_case (inl e) = subst P e h
    by_case (inr d) = rest y d

pub either_side : {A : Type 0} (P : A → Type 0) (xs ys : List A) → ((y : A) → Contains xs y → P y) → ((y : A) → Contains ys y → P y) → (y : A) → Contains (xs ++ ys) y → P y
either_side P xs ys h k y c = by_case (Contains-append_cases xs ys y c)
  where
    by_case : Contains xs y ⊎ Contains ys y → P y
    by_case (inl d) = h y d
    by_case (inr d) = k y d

pub all_behind : {A : Type 0} (f : A → Bool) (xs ys : List A) → list_all f (xs ++ ys) ≡ true → list_all f ys ≡ true
all_behind f [] ys h = h
all_behind f (x ∷ xs) ys h = all_behind f xs ys (and_parts (f x) (list_all f (xs ++ ys)) h).1

pub all_before : {A : Type 0} (f : A → Bool) (xs ys : List A) → list_all f (xs ++ ys) ≡ true → list_all f xs ≡ true
all_before f [] ys h = refl
all_before f (x ∷ xs) ys h = let p = and_parts (f x) (list_all f (xs ++ ys)) h in and_from (f x) (list_all f xs) p.0 (all_before f xs ys p.1)
