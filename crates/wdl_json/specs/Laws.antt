-- A law of the definitions.
use Rattle.std.specs.Prelude.{◌≡◌, ◌≤◌, ⊤, true, Bool, List, [], ◌∷◌, Some}
use Rattle.wdl_typed.specs.declared.task.TInput.{TInput}
use Rattle.wdl_json.specs.Inputs.{first_of}

-- each input of the list that passes the test begins there or behind it
abbrev pub NoneBefore : (TInput → Bool) → TInput → List TInput → Type 0
NoneBefore test i [] = ⊤
NoneBefore test i (j ∷ js) = (test j ≡ true → i.span.start ≤ j.span.start) × NoneBefore test i js

-- The input passes the test, and none of the list that passes it begins before.
abbrev pub FirstsAreFirst : Type 0
FirstsAreFirst = (test : TInput → Bool) (is : List TInput) (i : TInput) → first_of test is ≡ Some i → (test i ≡ true) × NoneBefore test i is
