-- The checked form of a library, where it has one.
use Rattle.std.specs.Prelude.{ℕ, ◌<◌, List, [], ◌∷◌, Option, Some, None, Result, Ok, Err}
use Rattle.wdl_value.specs.Fits.{Structs}
use Rattle.wdl_typed.specs.declared.checked.Checked.{Checked}
use Rattle.wdl_typed.specs.declared.checked.CheckedParts.{CheckedParts}
use Rattle.wdl_typed.specs.declared.flow.FlowDef.{FlowDef}
use Rattle.wdl_typed.specs.declared.task.TaskDef.{TaskDef}
use Rattle.wdl_ast.specs.declared.workflow.Workflow.{Workflow}
use Rattle.wdl_library.specs.declared.doc.Doc.{Doc}
use Rattle.wdl_check_rules.specs.declared.fault.CheckFault.{CheckFault}
use Rattle.wdl_check_rules.specs.declared.fault.CheckFault.TheVariants.{Bad, NoMemory}
use Rattle.wdl_check_types.specs.Outcome.{Outcome, done, then_}
use Rattle.wdl_check_doc.specs.Flows.{flows_nest, flows_typed}
use Rattle.wdl_check_doc.specs.Outcomes.{AnswersAs, all, each}
use Rattle.wdl_check_doc.specs.Parts.{Part, parts_from}
use Rattle.wdl_check_doc.specs.Runnables.{names_typed, task_in, tasks_of, workflows_in}
use Rattle.wdl_check_doc.specs.Structs.{structs_typed}

-- workflow 0 is that of document 0, where that has one
abbrev pub first_among : List Workflow → Option ℕ
first_among [] = None
first_among (f ∷ fs) = Some 0

abbrev pub main_of : List Part → Option ℕ
main_of [] = None
main_of (p ∷ ps) = first_among (workflows_in p.sections)

abbrev pub checked_parts : Structs → List TaskDef → List FlowDef → Option ℕ → CheckedParts
checked_parts structs tasks flows main = record { structs = structs; tasks = tasks; flows = flows; main = main }

abbrev pub runnables_typed : Structs → List Part → Outcome CheckedParts
runnables_typed structs ps =
    then_ (each (task_in structs) [] (tasks_of ps)) (λ tasks.
    then_ (flows_typed structs ps tasks) (λ flows.
    then_ (flows_nest flows) (λ u. done (checked_parts structs tasks flows (main_of ps)))))

abbrev pub parts_typed : Structs → List Part → Outcome CheckedParts
parts_typed structs ps = then_ (structs_typed structs ps) (λ u. then_ (all names_typed ps) (λ v. runnables_typed structs ps))

-- The structs, and the tasks and workflows of all documents by document number and in the order of the text, with all types; or
-- each code with each span at which its condition holds.
unfoldable pub typed : List Doc → Structs → Outcome CheckedParts
typed docs structs = parts_typed structs (parts_from 0 docs)

-- ---- what is answered

abbrev pub parts_of : Checked → CheckedParts
parts_of c = record { structs = c.structs; tasks = c.tasks; flows = c.flows; main = c.main }

-- the checked form; or a code with a span at which its condition holds, where there is none
abbrev pub IsTyped : Outcome CheckedParts → Result Checked CheckFault → Type 0
IsTyped o result = AnswersAs o result parts_of

-- a fault stands in one of that many documents
abbrev pub IsPlaced : ℕ → Result Checked CheckFault → Type 0
IsPlaced count (Ok c) = Unit {0}
IsPlaced count (Err (Bad code s)) = s.doc < count
IsPlaced count (Err NoMemory) = Unit {0}
