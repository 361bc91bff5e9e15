-- What is true of every workflow that is typed: it is well typed over a library that has what its calls may name.
use Rattle.std.specs.Prelude.{◌≡◌, ◌≤◌, ◌+◌, ℕ, true, List, [], Some, length, map}
use Rattle.wdl_base.specs.declared.span.Span.{Span}
use Rattle.wdl_value.specs.declared.ty.Member.{Member}
use Rattle.wdl_ast.specs.declared.workflow.CallTarget.{CallTarget}
use Rattle.wdl_ast.specs.declared.workflow.Statement.{Statement}
use Rattle.wdl_ast.specs.declared.workflow.Workflow.{Workflow}
use Rattle.wdl_ast.specs.DocumentWords.{workflow_words}
use Rattle.wdl_typed.specs.declared.flow.FlowDef.{FlowDef}
use Rattle.wdl_typed.specs.declared.task.TDecl.{TDecl}
use Rattle.wdl_typed.specs.declared.task.TInput.{TInput}
use Rattle.wdl_typed.specs.Bodies.{Library, Seen, Signature, body_gives, is_numbered, items_differ, signature}
use Rattle.wdl_typed.specs.Declarations as well
use Rattle.wdl_typed.specs.Kept.{count_statements, flow_names, inputs_seen, outputs_typed}
use Rattle.wdl_typed.specs.Lists.{are_distinct}
use Rattle.wdl_check_decls.specs.Laws.{IsKnown}
use Rattle.wdl_check_flow.specs.declared.flow.FlowHead.{FlowHead}
use Rattle.wdl_check_flow.specs.declared.flow.FlowRest.{FlowRest}
use Rattle.wdl_check_flow.specs.Bodies.{Typed_body, statements_typed}
use Rattle.wdl_check_flow.specs.Flows.{head_typed, rest_typed}
use Rattle.wdl_check_flow.specs.Targets.{Offer, Place, target_of}

abbrev pub member_of : TDecl → Member
member_of d = record { name = d.name; ty = d.ty }

-- a task or a workflow of the library, with its inputs, and the names and types of its outputs
pub record IsOffered (lib : Library) (o : Offer) : Type 0 where
  pub has : Signature
  pub found : signature lib o.target ≡ Some has
  pub inputs : has.inputs ≡ o.inputs
  pub outputs : map member_of has.outputs ≡ o.outputs

-- what a document sees is of the library
pub record IsOf (lib : Library) (p : Place) : Type 0 where
  pub structs : p.world.structs ≡ lib.structs
  pub known : IsKnown p.world
  pub offered : (t : CallTarget) (o : Offer) → target_of p.reach t ≡ Some o → IsOffered lib o

-- the statements of a body are well typed, and give out what they are said to give
abbrev pub BodiesGive : Type 0
BodiesGive = (lib : Library) (p : Place) (ss : List Statement) (seen : Seen) (b : Typed_body)
    → IsOf lib p → (statements_typed p ss seen).typed ≡ Some b → body_gives lib b.statements seen ≡ Some b.given

abbrev pub flow_of : List ℕ → Span → FlowHead → FlowRest → FlowDef
flow_of name span h r = record { name = name; inputs = h.inputs; body = r.body; outputs = r.outputs; span = span }

-- what calls see of a workflow is what it has
abbrev pub HeadsFit : Type 0
HeadsFit = (p : Place) (f : Workflow) (h : FlowHead) (r : FlowRest)
    → (head_typed p.world f).typed ≡ Some h → (rest_typed p h.inputs f).typed ≡ Some r → map member_of r.outputs ≡ h.outputs

-- the inputs, statements and outputs of a workflow are well typed
abbrev pub ListsTyped : Library → FlowDef → Type 0
ListsTyped lib f =
    (well.inputs_typed lib.structs [] f.inputs ≡ true) × (outputs_typed lib.structs f (body_gives lib f.body (inputs_seen f)) ≡ true)

abbrev pub FlowsTyped : Type 0
FlowsTyped = (lib : Library) (p : Place) (f : Workflow) (h : FlowHead) (r : FlowRest) (name : List ℕ) (span : Span)
    → IsOf lib p → (head_typed p.world f).typed ≡ Some h → (rest_typed p h.inputs f).typed ≡ Some r → ListsTyped lib (flow_of name span h r)

-- a workflow has no more statements than its text has tokens
abbrev pub FlowsCounted : Type 0
FlowsCounted = (p : Place) (f : Workflow) (is : List TInput) (r : FlowRest)
    → (rest_typed p is f).typed ≡ Some r → 1 + count_statements r.body ≤ length (workflow_words f)

-- names differ where one can see the other, and blocks are numbered
abbrev pub FlowsNamed : Type 0
FlowsNamed = (p : Place) (f : Workflow) (h : FlowHead) (r : FlowRest) (name : List ℕ) (span : Span)
    → (head_typed p.world f).typed ≡ Some h → (rest_typed p h.inputs f).typed ≡ Some r
    → (are_distinct (flow_names (flow_of name span h r)) ≡ true) × (items_differ r.body (flow_names (flow_of name span h r)) ≡ true) × (is_numbered r.body ≡ true)
