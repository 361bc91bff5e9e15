-- Paths by the numbers of documents.
use Rattle.std.proofs.Common.{◌≡◌, ℕ, List, [], ◌∷◌, ◌++◌, Some, length, slice_get, sym, subst, refl}

pub last_is : {A : Type 0} (xs : List A) (x : A) (n : ℕ) → n ≡ length xs → slice_get (xs ++ x ∷ []) n ≡ Some x
last_is [] x n e = subst (λ k. slice_get (x ∷ []) k ≡ Some x) (sym e) refl
last_is (y ∷ xs) x n e = subst (λ k. slice_get (y ∷ (xs ++ x ∷ [])) k ≡ Some x) (sym e) (last_is xs x (length xs) refl)
