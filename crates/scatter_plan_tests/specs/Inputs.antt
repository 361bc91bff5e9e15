-- The inputs of the main workflow.
use Rattle.std.specs.Prelude.{◌≡◌, ℕ, true, List, Some, slice_get}
use Rattle.wdl_typed.specs.declared.checked.Checked.{Checked}
use Rattle.wdl_typed.specs.declared.flow.FlowDef.{FlowDef}
use Rattle.wdl_typed.specs.Journal.{inputs_fit}
use Rattle.wdl_value.specs.declared.env.Bind.{Bind}

-- They fit what the main workflow, if there is one, declares.
abbrev pub AreInputsOf : Checked → List Bind → Type 0
AreInputsOf checked inputs =
    (k : ℕ) (main : FlowDef) → checked.main ≡ Some k → slice_get checked.flows k ≡ Some main → inputs_fit checked.structs main.inputs inputs ≡ true
