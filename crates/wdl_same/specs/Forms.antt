-- Checked forms that are the same but for spans, what their main workflows do not call, and the names and numbers of tasks,
-- as a test.
use Rattle.std.specs.Prelude.{ℕ, Bool, true, false, ◌&&◌, ◌==◌, List, [], ◌∷◌, Option, Some, None, option_and_then, map, slice_get}
use Rattle.std.specs.Str.{bytes_eq}
use Rattle.wdl_typed.specs.declared.flow.FlowDef.{FlowDef}
use Rattle.wdl_typed.specs.declared.flow.Statement.{Statement, Statement-F, fold-Statement, out-Statement}
use Rattle.wdl_typed.specs.declared.flow.Statement.TheOpen as layer
use Rattle.wdl_typed.specs.declared.flow.TCall.{TCall}
use Rattle.wdl_typed.specs.declared.flow.Target.{Target}
use Rattle.wdl_typed.specs.declared.flow.Target.TheVariants as target
use Rattle.wdl_typed.specs.declared.task.TaskDef.{TaskDef}
use Rattle.wdl_typed.specs.Bodies.{Library}
use Rattle.wdl_same.specs.Exprs.{same_expr, same_fields}
use Rattle.wdl_same.specs.Lists.{alike}
use Rattle.wdl_same.specs.Partners.{all_called, is_partner, partners_of, same_partners}
use Rattle.wdl_same.specs.Tasks.{same_decl, same_decls, same_inputs, same_structs}

abbrev pub same_names : List (List ℕ) → List (List ℕ) → Bool
same_names = alike bytes_eq

-- ---- calls

-- Two calls of tasks name the same where each task is the partner of the other; two of workflows never do.
abbrev pub same_target : List (Option ℕ) → List (Option ℕ) → Target → Target → Bool
same_target partners owners (target.Task k) (target.Task j) = is_partner partners k j && is_partner owners j k
same_target partners owners t u = false

abbrev pub same_call : List (Option ℕ) → List (Option ℕ) → TCall → TCall → Bool
same_call partners owners c d =
    bytes_eq c.name d.name
    && same_names c.after d.after
    && same_fields c.args d.args
    && same_target partners owners c.target d.target

-- ---- statements

abbrev pub StatementTest : Type 0
StatementTest = Statement → Bool

abbrev pub all_same : List StatementTest → List Statement → Bool
all_same [] [] = true
all_same [] (s ∷ ss) = false
all_same (f ∷ fs) [] = false
all_same (f ∷ fs) (s ∷ ss) = f s && all_same fs ss

abbrev pub same_at : List (Option ℕ) → List (Option ℕ) → Statement-F StatementTest → Statement-F Statement → Bool
same_at partners owners (layer.Decl d) (layer.Decl e) = same_decl d e
same_at partners owners (layer.Call c) (layer.Call d) = same_call partners owners c d
same_at partners owners (layer.Scatter s) (layer.Scatter t) =
    s.number == t.number && bytes_eq s.item t.item && same_expr s.over t.over && all_same s.body t.body
same_at partners owners (layer.If i) (layer.If j) = i.number == j.number && same_expr i.cond j.cond && all_same i.body j.body
same_at partners owners x y = false

abbrev pub same_statement : List (Option ℕ) → List (Option ℕ) → Statement → Statement → Bool
same_statement partners owners = fold-Statement StatementTest (λ x s. same_at partners owners x (out-Statement s))

abbrev pub same_body : List (Option ℕ) → List (Option ℕ) → List Statement → List Statement → Bool
same_body partners owners ss = all_same (map (same_statement partners owners) ss)

-- ---- workflows

-- two workflows whose calls name these tasks, in their order
abbrev pub same_by : List TaskDef → List TaskDef → List ℕ → List ℕ → FlowDef → FlowDef → Bool
same_by tasks others calls other_calls f g =
    bytes_eq f.name g.name
    && same_inputs f.inputs g.inputs
    && same_body (partners_of tasks calls other_calls) (partners_of others other_calls calls) f.body g.body
    && same_decls f.outputs g.outputs
    && same_partners others tasks (partners_of tasks calls other_calls)

abbrev pub same_flow : List TaskDef → List TaskDef → FlowDef → FlowDef → Bool
same_flow tasks others f g = same_by tasks others (all_called f.body) (all_called g.body) f g

abbrev pub same_mains : List TaskDef → List TaskDef → Option FlowDef → Option FlowDef → Bool
same_mains tasks others None None = true
same_mains tasks others None (Some g) = false
same_mains tasks others (Some f) None = false
same_mains tasks others (Some f) (Some g) = same_flow tasks others f g

-- the main workflow, if there is one
abbrev pub main_of : List FlowDef → Option ℕ → Option FlowDef
main_of flows main = option_and_then (slice_get flows) main

-- Both have the same structs and the same main workflow: spans aside, its statements are the same one by one, and for each task that
-- the one calls there is one task that the other calls, the same but for its name, which stands for it at each call. Nothing is said of
-- tasks and workflows that it does not call, and a main workflow that calls a workflow is the same as none.
unfoldable pub same_but_names : Library → Option ℕ → Library → Option ℕ → Bool
same_but_names a main b other =
    same_structs a.structs b.structs && same_mains a.tasks b.tasks (main_of a.flows main) (main_of b.flows other)
