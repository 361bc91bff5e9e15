-- What five pushes in a row have added.
use Rattle.std.proofs.Common.{◌≡◌, List, [], ◌∷◌, ◌++◌, ap, ◌∙◌, append_assoc}

pub framed : {A : Type 0} (x y z w : A) (zs a b c d f g : List A) → b ≡ a ++ x ∷ [] → c ≡ b ++ y ∷ [] → d ≡ c ++ z ∷ [] → f ≡ d ++ zs → g ≡ f ++ w ∷ []
    → g ≡ a ++ x ∷ y ∷ z ∷ (zs ++ w ∷ [])
framed x y z w zs a b c d f g p q r s t =
    t ∙ ap (λ v. v ++ w ∷ []) (s ∙ ap (λ v. v ++ zs) (r ∙ ap (λ v. v ++ z ∷ []) (q ∙ ap (λ v. v ++ y ∷ []) p))) ∙ simp append_assoc
