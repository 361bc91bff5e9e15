-- The form of the inputs of a document's main workflow.
use Rattle.std.proofs.Common.{◌≡◌, ℕ, List, Option, Some, None, IsSome, sym, subst, refl}
use Rattle.wdl_typed.specs.declared.checked.Checked.{Checked}
use Rattle.wdl_typed.specs.declared.flow.FlowDef.{FlowDef}
use Rattle.wdl_json.specs.Inputs.{main_of}
use Rattle.workflow_stages.specs.declared.ended.Work.{Work}
use Rattle.workflow_stages.specs.declared.ended.Work.TheVariants as work
use Rattle.workflow_stages.specs.Documents.{HasMain, MainStops, Tells}
use Rattle.workflow_texts.specs.Forming.{FormWork, WritesForm}

pub is_there : (o : Option FlowDef) (f : FlowDef) → o ≡ Some f → IsSome o
is_there None f h = cc
is_there (Some g) f h = refl

module _ (tells : Tells) (refused : List ℕ → Type 0) (rose : Type 0) (file : List ℕ) (c : Checked) (all : List (List ℕ)) where
  pub writes_form : (m : (number : ℕ) × (f : FlowDef) × HasMain tells file c number f all) (w : Work) → ((f : FlowDef) → main_of c.flows c.main ≡ Some f → FormWork f w)
      → WritesForm tells refused rose file w
  writes_form m (work.Text text) h = record { checked = c; number = m.0; flow = m.1; paths = all; source = m.2; line = h m.1 m.2.main }
  writes_form m (work.Stop stop) h = subst (λ s. MainStops tells file refused rose s stop.paths) (sym (h m.1 m.2.main)) tt
