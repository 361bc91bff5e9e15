-- Workflows (OpenWDL 1.1, "Workflow Definition"): what calls of them see, and then their statements and outputs.
use Rattle.std.specs.Prelude.{ℕ, List, [], ◌∷◌, ◌++◌, Option, Some, None, map}
use Rattle.wdl_base.specs.declared.span.Span.{Span}
use Rattle.wdl_value.specs.declared.ty.Member.{Member}
use Rattle.wdl_ast.specs.declared.section.Declaration.{Declaration}
use Rattle.wdl_ast.specs.declared.section.InputDeclaration.{InputDeclaration}
use Rattle.wdl_ast.specs.declared.workflow.Statement.{Statement}
use Rattle.wdl_ast.specs.declared.workflow.Workflow.{Workflow}
use Rattle.wdl_typed.specs.declared.task.TInput.{TInput}
use Rattle.wdl_typed.specs.Bodies.{Seen}
use Rattle.wdl_typed.specs.Declarations.{inputs_bound}
use Rattle.wdl_typed.specs.Order.{picked}
use Rattle.wdl_check_types.specs.Outcome.{Outcome, done, refused, then_}
use Rattle.wdl_check_types.specs.Places.{declaration_span}
use Rattle.wdl_check_types.specs.Written.{written}
use Rattle.wdl_check_order.specs.Needs.{declaration_needing}
use Rattle.wdl_check_order.specs.Ordered.{ordered}
use Rattle.wdl_check_decls.specs.declared.standing.Standing.TheVariants.{Body}
use Rattle.wdl_check_decls.specs.Declarations.{decls_typed, inputs_typed}
use Rattle.wdl_check_decls.specs.Expressions.{World}
use Rattle.wdl_check_flow.specs.declared.flow.FlowHead.{FlowHead}
use Rattle.wdl_check_flow.specs.declared.flow.FlowRest.{FlowRest}
use Rattle.wdl_check_flow.specs.Bodies.{Typed_body, statements_typed}
use Rattle.wdl_check_flow.specs.Nesting.{first_deep, too_deep}
use Rattle.wdl_check_flow.specs.Sections.{inputs_of, outputs_of, repeated, statements_of}
use Rattle.wdl_check_flow.specs.Targets.{Place, world_at}

-- ---- what calls of a workflow see

abbrev pub result_typed : World → Declaration → Outcome Member
result_typed w d = then_ (written w.locals d.ty) (λ t. done (record { name = d.name.name; ty = t }))

abbrev pub results_behind : World → List Member → List Declaration → Outcome (List Member)
results_behind w before [] = done before
results_behind w before (d ∷ ds) = then_ (result_typed w d) (λ m. results_behind w (before ++ m ∷ []) ds)

-- the names and types of outputs, in their dependency order
abbrev pub results_typed : World → List Declaration → Outcome (List Member)
results_typed w ds =
    then_ (ordered (map declaration_needing ds) (map declaration_span ds)) (λ ps. results_behind w [] (picked ds ps))

abbrev pub unless_at : ℕ → Option Span → Outcome (Unit {0})
unless_at code (Some span) = refused code span
unless_at code None = done tt

-- 328: more than 24 blocks and calls in one another; 321: a name twice
abbrev pub shape_typed : List InputDeclaration → List Statement → List Declaration → Outcome (Unit {0})
shape_typed is ss ds = then_ (unless_at 328 (first_deep (map too_deep ss) 24)) (λ _. unless_at 321 (repeated is ss ds))

abbrev pub head : List TInput → List Member → FlowHead
head inputs outputs = record { inputs = inputs; outputs = outputs }

abbrev pub head_typed : World → Workflow → Outcome FlowHead
head_typed w f =
    then_ (shape_typed (inputs_of f.elements) (statements_of f.elements) (outputs_of f.elements)) (λ _.
    then_ (inputs_typed w (inputs_of f.elements)) (λ is.
    then_ (results_typed w (outputs_of f.elements)) (λ os. done (head is os))))

-- ---- statements and outputs

abbrev pub inputs_seen : List TInput → Seen
inputs_seen inputs = record { names = inputs_bound inputs; calls = [] }

-- outputs see the inputs and what the statements give out
abbrev pub rest_typed : Place → List TInput → Workflow → Outcome FlowRest
rest_typed p inputs f =
    then_ (statements_typed p (statements_of f.elements) (inputs_seen inputs)) (λ (b : Typed_body).
    then_ (decls_typed Body (world_at p b.given) (inputs_bound inputs ++ b.given.names) (outputs_of f.elements)) (λ os.
    done (record { body = b.statements; outputs = os })))
