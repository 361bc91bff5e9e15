-- What the calls of a document may name (OpenWDL 1.1, "Call Statement").
use Rattle.std.specs.Prelude.{ℕ, List, Option, Some, None, map, option_and_then}
use Rattle.std.specs.List.{find}
use Rattle.std.specs.Str.{bytes_eq}
use Rattle.wdl_value.specs.declared.ty.Member.{Member}
use Rattle.wdl_ast.specs.declared.leaf.Ident.{Ident}
use Rattle.wdl_ast.specs.declared.workflow.CallTarget.{CallTarget}
use Rattle.wdl_ast.specs.declared.workflow.TargetMember.{TargetMember}
use Rattle.wdl_typed.specs.declared.flow.Target.{Target}
use Rattle.wdl_typed.specs.declared.task.TInput.{TInput}
use Rattle.wdl_typed.specs.Bodies.{Seen}
use Rattle.wdl_check_decls.specs.Expressions.{World, with_calls, world}
use Rattle.wdl_check_flow.specs.declared.context.Callable.{Callable}
use Rattle.wdl_check_flow.specs.declared.context.Context.{Context}
use Rattle.wdl_check_flow.specs.declared.context.Namespace.{Namespace}
use Rattle.wdl_check_flow.specs.declared.context.Targets.{Targets}

-- a task or a workflow, with its inputs, and the names and types of its outputs
pub record Offer : Type 0 where
  pub name : List ℕ
  pub target : Target
  pub inputs : List TInput
  pub outputs : List Member

-- an import, with what its document has
pub record Space : Type 0 where
  pub name : List ℕ
  pub offers : List Offer

-- the tasks of the document, and its imports
pub record Reach : Type 0 where
  pub own : List Offer
  pub spaces : List Space

abbrev pub offer_of : Callable → Offer
offer_of c = record { name = c.name.now; target = c.target; inputs = c.inputs.now; outputs = c.outputs.now }

abbrev pub space_of : Namespace → Space
space_of n = record { name = n.name.now; offers = map offer_of n.callables.now }

abbrev pub reach_of : Targets → Reach
reach_of t = record { own = map offer_of t.own.now; spaces = map space_of t.namespaces.now }

abbrev pub offer_named : List Offer → List ℕ → Option Offer
offer_named offers name = find (λ (o : Offer). bytes_eq o.name name) offers

abbrev pub space_named : List Space → List ℕ → Option Space
space_named spaces name = find (λ (s : Space). bytes_eq s.name name) spaces

abbrev pub named_in : Reach → Ident → Option TargetMember → Option Offer
named_in r first None = offer_named r.own first.name
named_in r first (Some m) = option_and_then (λ (s : Space). offer_named s.offers m.name.name) (space_named r.spaces first.name)

-- a task of the same document, or a task or the workflow of an import
abbrev pub target_of : Reach → CallTarget → Option Offer
target_of r t = named_in r t.first t.second

-- what statements see besides names
pub record Place : Type 0 where
  pub world : World
  pub reach : Reach

abbrev pub place_of : Context → Place
place_of c = record { world = world c.seeing; reach = reach_of c.targets }

-- what expressions see besides names
abbrev pub world_at : Place → Seen → World
world_at p seen = with_calls p.world seen.calls
