-- Lists whose elements are all in another list.
use Rattle.std.proofs.Common.{List, [], ◌∷◌, ◌++◌, Contains, ◌⊎◌, inl, inr, arith}
use Rattle.std.proofs.lemmas.List.Elements.{Contains-append_cases, Contains-append_left, Contains-append_right}
use Rattle.flow_laws.specs.Below.{IsWithin}

pub within_itself : {A : Type 0} (xs : List A) → IsWithin xs xs
within_itself xs x h = h

pub within_nothing : {A : Type 0} (ys : List A) → IsWithin [] ys
within_nothing ys x h = absurd (omega (arith, h.1))

pub within_both : {A : Type 0} (xs ys zs ws : List A) → IsWithin xs ys → IsWithin zs ws → IsWithin (xs ++ zs) (ys ++ ws)
within_both xs ys zs ws h j x c = by_case (Contains-append_cases xs zs x c)
  where
    by_case : Contains xs x ⊎ Contains zs x → Contains (ys ++ ws) x
    by_case (inl a) = Contains-append_left ys ws x (h x a)
    by_case (inr b) = Contains-append_right ys ws x (j x b)

pub within_more : {A : Type 0} (x : A) (xs ys : List A) → IsWithin xs ys → IsWithin (x ∷ xs) (x ∷ ys)
within_more x xs ys h = within_both (x ∷ []) (x ∷ []) xs ys (within_itself (x ∷ [])) h
