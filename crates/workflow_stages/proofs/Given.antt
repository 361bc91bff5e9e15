-- From the text of the inputs to the inputs of the main workflow.
use Rattle.std.proofs.Common.{◌≡◌, true, ℕ, List, Option, Some, Result, Ok, Err, IfOk}
use Rattle.wdl_value.specs.declared.env.Bind.{Bind}
use Rattle.report_text.specs.declared.status.Status.{Status}
use Rattle.report_text.specs.declared.status.Status.TheVariants as status
use Rattle.wdl_typed.specs.declared.checked.Checked.{Checked}
use Rattle.wdl_typed.specs.declared.flow.FlowDef.{FlowDef}
use Rattle.wdl_typed.specs.Journal.{inputs_fit}
use Rattle.wdl_json.specs.Inputs.{main_of}
use Rattle.workflow_stages.specs.Documents.{Tells}
use Rattle.workflow_stages.specs.Preparing.{GiveInStops, GivesIn, GivesInputs, GiveStops, IsInputsText}

module _ (tells : Tells) (refused : List ℕ → Type 0) (rose : Type 0) (inputs : Option (List ℕ)) (c : Checked) (text : List ℕ) (is_text : IsInputsText tells inputs text) where
  stops : (f : FlowDef) → main_of c.flows c.main ≡ Some f → (s : Status) → GiveStops c f text s → GiveInStops tells refused rose inputs c s
  stops f main (status.Inputs code name) h = record { flow = f; main = main; text = text; is_text = is_text; refused = h }
  stops f main status.NoMemory h = tt
  stops f main status.Ok h = absurd h
  stops f main (status.Failed fault) h = absurd h
  stops f main status.Usage h = absurd h
  stops f main (status.Document code span) h = absurd h
  stops f main (status.Read path) h = absurd h
  stops f main status.Write h = absurd h
  stops f main (status.NotInSubset rule span) h = absurd h
  stops f main (status.Launch place) h = absurd h
  stops f main status.Keep h = absurd h
  stops f main status.TooMany h = absurd h

  pub gives_in : (r : Result (List Bind) Status) → ((f : FlowDef) → main_of c.flows c.main ≡ Some f → GivesInputs c f text r)
      → ((f : FlowDef) → main_of c.flows c.main ≡ Some f → IfOk r (λ env. inputs_fit c.structs f.inputs env ≡ true)) → GivesIn tells refused rose inputs c r
  gives_in (Ok given) value fit = λ f main. record { flow = f; main = main; text = text; is_text = is_text; reads = value f main; fit = fit f main }
  gives_in (Err s) value fit = λ f main. stops f main s (value f main)
