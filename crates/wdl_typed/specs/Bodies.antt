-- Which bodies of workflows are well typed, and what they give out (OpenWDL 1.1, "Workflow Definition"). The statements of a
-- body are in dependency order: each sees what those before it give out.
use Rattle.std.specs.Prelude.{ℕ, zero, suc, Bool, true, false, not, ◌&&◌, ◌||◌, List, [], ◌∷◌, ◌++◌, Option, Some, None, option_and_then, if◌then◌else◌, map, slice_get}
use Rattle.std.specs.List.{list_all}
use Rattle.std.specs.Str.{bytes_eq}
use Rattle.wdl_value.specs.declared.ty.Ty.{Ty, Ty-F, out-Ty}
use Rattle.wdl_value.specs.declared.ty.Ty.TheVariants as ty
use Rattle.wdl_value.specs.declared.ty.Ty.TheOpen as type
use Rattle.wdl_value.specs.Bare.{is_optional}
use Rattle.wdl_value.specs.Fits.{Structs}
use Rattle.wdl_value.specs.Kinds.{is_bool}
use Rattle.wdl_typed.specs.declared.expr.TExpr.{TExpr}
use Rattle.wdl_typed.specs.declared.expr.TField.{TField}
use Rattle.wdl_typed.specs.declared.flow.FlowDef.{FlowDef}
use Rattle.wdl_typed.specs.declared.flow.Statement.{Statement, Statement-F, fold-Statement, out-Statement}
use Rattle.wdl_typed.specs.declared.flow.Statement.TheOpen as layer
use Rattle.wdl_typed.specs.declared.flow.TCall.{TCall}
use Rattle.wdl_typed.specs.declared.flow.Target.{Target}
use Rattle.wdl_typed.specs.declared.flow.Target.TheVariants as target
use Rattle.wdl_typed.specs.declared.scope.Bound.{Bound}
use Rattle.wdl_typed.specs.declared.task.TDecl.{TDecl}
use Rattle.wdl_typed.specs.declared.task.TInput.{TInput}
use Rattle.wdl_typed.specs.declared.task.TaskDef.{TaskDef}
use Rattle.wdl_typed.specs.Declarations.{bound, in_body}
use Rattle.wdl_typed.specs.KnownTypes.{is_some, is_written}
use Rattle.wdl_typed.specs.Lists.{are_counted, are_distinct, has_name}
use Rattle.wdl_typed.specs.Typing.{is_type}

-- what a call can name: the structs, the tasks and the workflows
pub record Library : Type 0 where
  pub structs : Structs
  pub tasks : List TaskDef
  pub flows : List FlowDef

abbrev pub library : Structs → List TaskDef → List FlowDef → Library
library structs tasks flows = record { structs = structs; tasks = tasks; flows = flows }

-- the names with their types, and the calls, which `after` may name
pub record Seen : Type 0 where
  pub names : List Bound
  pub calls : List (List ℕ)

abbrev pub joined : Seen → Seen → Seen
joined s t = record { names = s.names ++ t.names; calls = s.calls ++ t.calls }

-- what a statement gives out, if it is well typed where this is seen
abbrev pub Giving : Type 0
Giving = Seen → Option Seen

-- ---- calls

-- the inputs and the outputs of a target
pub record Signature : Type 0 where
  pub inputs : List TInput
  pub outputs : List TDecl

abbrev pub task_signature : TaskDef → Signature
task_signature t = record { inputs = t.inputs; outputs = t.outputs }

abbrev pub flow_signature : FlowDef → Signature
flow_signature f = record { inputs = f.inputs; outputs = f.outputs }

abbrev pub signature : Library → Target → Option Signature
signature lib (target.Task k) = option_and_then (λ t. Some (task_signature t)) (slice_get lib.tasks k)
signature lib (target.Flow k) = option_and_then (λ f. Some (flow_signature f)) (slice_get lib.flows k)

abbrev pub input_type : List TInput → List ℕ → Option Ty
input_type [] name = None
input_type (i ∷ is) name = if bytes_eq i.name name then Some i.ty else input_type is name

-- the arguments are inputs of the target, of exactly their types
abbrev pub arg_typed : Option Ty → Option Ty → Bool
arg_typed None t = false
arg_typed (Some u) t = is_type t u

abbrev pub args_typed : Structs → List Bound → List TInput → List (TField TExpr) → Bool
args_typed structs names inputs [] = true
args_typed structs names inputs (a ∷ as_) =
    arg_typed (input_type inputs a.name) (in_body structs names a.value) && args_typed structs names inputs as_

abbrev pub arg_names : List (TField TExpr) → List (List ℕ)
arg_names = map (λ (a : TField TExpr). a.name)

-- An input without a default that is not optional is required.
abbrev pub is_required : TInput → Bool
is_required i = not (is_some i.value) && not (is_optional (out-Ty i.ty))

abbrev pub all_given : List TInput → List (List ℕ) → Bool
all_given [] given = true
all_given (i ∷ is) given = (not (is_required i) || has_name i.name given) && all_given is given

abbrev pub all_seen : List (List ℕ) → List (List ℕ) → Bool
all_seen calls [] = true
all_seen calls (name ∷ names) = has_name name calls && all_seen calls names

abbrev pub output_bound : List ℕ → TDecl → Bound
output_bound call d = record { key = record { first = call; second = Some d.name }; ty = d.ty }

abbrev pub call_gives : List ℕ → List TDecl → Seen
call_gives name outputs = record { names = map (output_bound name) outputs; calls = name ∷ [] }

abbrev pub call_by : Structs → TCall → Seen → Signature → Option Seen
call_by structs c seen s =
    if args_typed structs seen.names s.inputs c.args
    && are_distinct (arg_names c.args)
    && all_given s.inputs (arg_names c.args)
    && all_seen seen.calls c.after
    then Some (call_gives c.name s.outputs) else None

abbrev pub call_step : Library → TCall → Giving
call_step lib c seen = option_and_then (call_by lib.structs c seen) (signature lib c.target)

-- ---- declarations and blocks

abbrev pub decl_step : Structs → TDecl → Giving
decl_step structs d seen =
    if is_written structs d.ty && is_type (in_body structs seen.names d.value) d.ty
    then Some (record { names = bound d.name d.ty ∷ []; calls = [] }) else None

-- the statements of a body, from the first to the last
abbrev pub body_step : List Giving → Giving
body_step [] seen = Some (record { names = []; calls = [] })
body_step (g ∷ gs) seen =
    option_and_then (λ first. option_and_then (λ rest. Some (joined first rest)) (body_step gs (joined seen first))) (g seen)

abbrev pub retyped : (Ty → Ty) → Seen → Seen
retyped f s = record { names = map (λ (b : Bound). record { key = b.key; ty = f b.ty }) s.names; calls = s.calls }

abbrev pub with_item : Seen → List ℕ → Ty → Seen
with_item seen item t = record { names = seen.names ++ bound item t ∷ []; calls = seen.calls }

-- Outside a scatter a name is an array, with `+` where the collection has it.
abbrev pub scatter_over : List ℕ → Giving → Seen → Ty-F Ty → Option Seen
scatter_over item body seen (type.Array t some) = option_and_then (λ s. Some (retyped (λ u. ty.Array u some) s)) (body (with_item seen item t))
scatter_over item body seen t = None

abbrev pub optional : Ty → Ty
optional t = if is_optional (out-Ty t) then t else ty.Opt t

-- Outside a condition a name is optional.
abbrev pub if_over : Giving → Seen → Ty → Option Seen
if_over body seen t = if is_bool t then option_and_then (λ s. Some (retyped optional s)) (body seen) else None

abbrev pub statement_step : Library → Statement-F Giving → Giving
statement_step lib (layer.Decl d) seen = decl_step lib.structs d seen
statement_step lib (layer.Call c) seen = call_step lib c seen
statement_step lib (layer.Scatter s) seen =
    option_and_then (λ t. scatter_over s.item (body_step s.body) seen (out-Ty t)) (in_body lib.structs seen.names s.over)
statement_step lib (layer.If i) seen = option_and_then (if_over (body_step i.body) seen) (in_body lib.structs seen.names i.cond)

abbrev pub gives : Library → Statement → Giving
gives lib = fold-Statement Giving (statement_step lib)

-- what the statements give out together, if they are well typed
abbrev pub body_gives : Library → List Statement → Giving
body_gives lib ss = body_step (map (gives lib) ss)

-- ---- names

abbrev pub append_all : List (List (List ℕ)) → List (List ℕ)
append_all [] = []
append_all (ns ∷ more) = ns ++ append_all more

abbrev pub names_step : Statement-F (List (List ℕ)) → List (List ℕ)
names_step (layer.Decl d) = d.name ∷ []
names_step (layer.Call c) = c.name ∷ []
names_step (layer.Scatter s) = append_all s.body
names_step (layer.If i) = append_all i.body

-- the declarations and calls of a statement and of the bodies in it
abbrev pub declared : Statement → List (List ℕ)
declared = fold-Statement (List (List ℕ)) names_step

abbrev pub all_declared : List Statement → List (List ℕ)
all_declared ss = append_all (map declared ss)

-- whether the items of scatters differ from all these names and from the items round them
abbrev pub Differing : Type 0
Differing = List (List ℕ) → Bool

abbrev pub all_differ : List Differing → Differing
all_differ [] taken = true
all_differ (d ∷ ds) taken = d taken && all_differ ds taken

abbrev pub items_step : Statement-F Differing → Differing
items_step (layer.Decl d) taken = true
items_step (layer.Call c) taken = true
items_step (layer.Scatter s) taken = not (has_name s.item taken) && all_differ s.body (s.item ∷ taken)
items_step (layer.If i) taken = all_differ i.body taken

abbrev pub items_differ : List Statement → Differing
items_differ ss = all_differ (map (fold-Statement Differing items_step) ss)

-- ---- numbers of blocks

-- a statement's number, if it is a scatter or a condition, and whether the bodies in it are numbered
pub record Numbered : Type 0 where
  pub scatter : List ℕ
  pub condition : List ℕ
  pub inside : Bool

abbrev pub append_numbers : List (List ℕ) → List ℕ
append_numbers [] = []
append_numbers (ns ∷ more) = ns ++ append_numbers more

-- The scatters of a body are numbered from 0 on, and so are its conditions.
abbrev pub body_numbered : List Numbered → Bool
body_numbered ns =
    are_counted (append_numbers (map (λ (n : Numbered). n.scatter) ns))
    && are_counted (append_numbers (map (λ (n : Numbered). n.condition) ns))
    && list_all (λ (n : Numbered). n.inside) ns

abbrev pub numbered_step : Statement-F Numbered → Numbered
numbered_step (layer.Decl d) = record { scatter = []; condition = []; inside = true }
numbered_step (layer.Call c) = record { scatter = []; condition = []; inside = true }
numbered_step (layer.Scatter s) = record { scatter = s.number ∷ []; condition = []; inside = body_numbered s.body }
numbered_step (layer.If i) = record { scatter = []; condition = i.number ∷ []; inside = body_numbered i.body }

abbrev pub is_numbered : List Statement → Bool
is_numbered ss = body_numbered (map (fold-Statement Numbered numbered_step) ss)

-- ---- depths

abbrev pub flow_nests : (List Statement → Bool) → Option FlowDef → Bool
flow_nests body None = false
flow_nests body (Some f) = body f.body

abbrev pub target_nests : (List Statement → Bool) → List FlowDef → Target → Bool
target_nests body flows (target.Task k) = true
target_nests body flows (target.Flow k) = flow_nests body (slice_get flows k)

abbrev pub nests_at : (List Statement → Bool) → List FlowDef → Statement-F Statement → Bool
nests_at body flows (layer.Decl d) = true
nests_at body flows (layer.Call c) = target_nests body flows c.target
nests_at body flows (layer.Scatter s) = body s.body
nests_at body flows (layer.If i) = body i.body

abbrev pub is_decl : Statement-F Statement → Bool
is_decl (layer.Decl d) = true
is_decl y = false

-- At most that many blocks and calls stand on each path through the statement and the workflows that it calls. Workflows
-- that call each other in a circle have a path that is longer.
unfoldable pub nests : List FlowDef → ℕ → Statement-F Statement → Bool
nests flows zero y = is_decl y
nests flows (suc n) y = nests_at (list_all (λ (s : Statement). nests flows n (out-Statement s))) flows y

abbrev pub body_nests : List FlowDef → ℕ → List Statement → Bool
body_nests flows n = list_all (λ (s : Statement). nests flows n (out-Statement s))
