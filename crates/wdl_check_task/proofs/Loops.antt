-- What a loop over a list reads at a turn, and what is left.
use Rattle.std.proofs.Common.{◌≡◌, ℕ, ◌+◌, ◌<◌, ◌≤◌, List, [], ◌∷◌, drop, get_or, length, map, ap}
use Rattle.std.proofs.lemmas.List.{drop_all}
use Rattle.wdl_check_rules.proofs.MemberLaws.{at_front as left}

pub turn : {A B : Type 0} (f : A → B) (xs : List A) (i : ℕ) (x : A) → i < length xs → x ≡ get_or xs i x → map f (drop i xs) ≡ f x ∷ map f (drop (i + 1) xs)
turn f xs i x within is = ap (map f) (left xs i x within is)

pub ended : {A B : Type 0} (f : A → B) (xs : List A) (i : ℕ) → length xs ≤ i → map f (drop i xs) ≡ []
ended f xs i past = ap (map f) (drop_all i xs past)
