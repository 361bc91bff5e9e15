-- What the first input of a name gives.
use Rattle.std.proofs.Common.{◌≡◌, ℕ, Bool, true, false, cond, List, [], ◌∷◌, Some, option_map, refl}
use Rattle.std.specs.List.{find}
use Rattle.std.specs.Str.{bytes_eq}
use Rattle.wdl_typed.specs.declared.task.TInput.{TInput}
use Rattle.wdl_typed.specs.Bodies.{input_type}

pub input_type-find : (is : List TInput) (name : List ℕ) → input_type is name ≡ option_map (λ (i : TInput). i.ty) (find (λ i. bytes_eq i.name name) is)
input_type-find [] name = refl
input_type-find (i ∷ is) name = by_test (bytes_eq i.name name) (input_type-find is name)
  where
    by_test : (b : Bool) → input_type is name ≡ option_map (λ (j : TInput). j.ty) (find (λ j. bytes_eq j.name name) is)
        → cond b (Some i.ty) (input_type is name)
        ≡ option_map (λ (j : TInput). j.ty) (cond b (Some i) (find (λ j. bytes_eq j.name name) is))
    by_test true rest = refl
    by_test false rest = rest
