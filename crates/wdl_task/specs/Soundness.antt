-- Soundness of tasks: what is asked and what is told fits the declared types.
use Rattle.std.specs.Prelude.{◌≡◌, ℕ, true, List, [], ◌∷◌, Ok}
use Rattle.wdl_base.specs.declared.answer.Answer.{Answer}
use Rattle.wdl_base.specs.declared.name.Key.{Key}
use Rattle.wdl_value.specs.declared.env.Bind.{Bind}
use Rattle.wdl_value.specs.Fits.{Structs, fits}
use Rattle.wdl_typed.specs.declared.scope.Bound.{Bound}
use Rattle.wdl_typed.specs.declared.task.TDecl.{TDecl}
use Rattle.wdl_typed.specs.declared.task.TaskDef.{TaskDef}
use Rattle.wdl_typed.specs.Declarations.{plain_key, private_names, task_typed}
use Rattle.wdl_typed.specs.Requests.{Asked, asks, tells}
use Rattle.wdl_typed.specs.Scope.{lookup, type_in}
use Rattle.wdl_eval.specs.Ready.{IsGiven}
use Rattle.wdl_task.specs.Readiness.{are_given}

-- Each name has a value that fits its type.
abbrev pub HasAll : Structs → List Bound → List Bind → Type 0
HasAll structs names env = (key : Key) → IsGiven structs (type_in names key) (lookup env key)

-- the outputs in their order, each with a value that fits its type
abbrev pub AreOutputs : Structs → List TDecl → List Bind → Type 0
AreOutputs structs [] [] = Unit {0}
AreOutputs structs [] (b ∷ bs) = ⊥
AreOutputs structs (d ∷ ds) [] = ⊥
AreOutputs structs (d ∷ ds) (b ∷ bs) = (b.key ≡ plain_key d.name) × (fits structs b.value d.ty ≡ true) × AreOutputs structs ds bs

abbrev pub AskedFit : Type 0
AskedFit = (structs : Structs) (t : TaskDef) (given : List Bind) (a : Asked) → task_typed structs t ≡ true → are_given structs t.inputs given ≡ true
    → asks t given ≡ Ok a → HasAll structs (private_names t) a.env

abbrev pub ToldFit : Type 0
ToldFit = (structs : Structs) (t : TaskDef) (given : List Bind) (a : Asked) (dir : List ℕ) (answer : Answer) (outs : List Bind)
    → task_typed structs t ≡ true → are_given structs t.inputs given ≡ true
    → asks t given ≡ Ok a → tells structs t a dir answer ≡ Ok outs → AreOutputs structs t.outputs outs
