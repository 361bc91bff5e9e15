-- The subset of checked forms that have a CWL process: the places where a rule is broken. The rules have numbers.
--   601 an argument of a call is a reference: an input, a scatter item, or an output of a call
--   602 a workflow declares nothing in its body
--   603 collections and conditions are references
--   604 no call has `after`
--   605 inputs, declarations and outputs have the types Int, String, Boolean, File, and arrays and optionals of these
--   606 casts make T to `T?` and `Array[T]+` to `Array[T]` alone, also inside arrays and optionals
--   607 a default is a literal, at the type Int, String, Boolean or an array of these
--   608 a task has no private declarations
--   609 a placeholder of a command is one input of type Int, String, Boolean or File, without an option
--   610 a command has more than blank space, no backslash, and no `$` before `(`, `{` or a placeholder
--   611 an output of a task has the type File, and is `stdout()` or the name of a file of the job's directory
--   612 an output of a workflow is a reference to an output of a call
--   613 a task has no `maxRetries`, and its `returnCodes` is absent, `"*"`, 0, or a list of at most 256 numbers with 0
use Rattle.std.specs.Prelude.{ℕ, zero, suc, ◌==◌, Bool, true, false, not, ◌&&◌, ◌||◌, List, [], ◌∷◌, ◌++◌, Option, Some, None, if◌then◌else◌, map, slice_get}
use Rattle.std.specs.List.{list_any}
use Rattle.wdl_base.specs.declared.name.Key.{Key}
use Rattle.wdl_base.specs.declared.span.Span.{Span}
use Rattle.wdl_value.specs.declared.ty.Ty.{Ty, Ty-F, out-Ty}
use Rattle.wdl_value.specs.declared.ty.Ty.TheOpen as type
use Rattle.wdl_value.specs.declared.ty.Ty.TheVariants as ty
use Rattle.wdl_value.specs.Fits.{Structs}
use Rattle.wdl_value.specs.Kinds.{is_scalar}
use Rattle.wdl_typed.specs.declared.expr.Choice.{Choice}
use Rattle.wdl_typed.specs.declared.expr.Choice.TheVariants as choice
use Rattle.wdl_typed.specs.declared.expr.TExpr.{TExpr}
use Rattle.wdl_typed.specs.declared.expr.TField.{TField}
use Rattle.wdl_typed.specs.declared.expr.THole.{THole}
use Rattle.wdl_typed.specs.declared.expr.TPart.{TPart}
use Rattle.wdl_typed.specs.declared.expr.TPart.TheVariants as part
use Rattle.wdl_typed.specs.declared.flow.FlowDef.{FlowDef}
use Rattle.wdl_typed.specs.declared.flow.Statement.{Statement, Statement-F, fold-Statement}
use Rattle.wdl_typed.specs.declared.flow.Statement.TheOpen as layer
use Rattle.wdl_typed.specs.declared.flow.TCall.{TCall}
use Rattle.wdl_typed.specs.declared.flow.Target.{Target}
use Rattle.wdl_typed.specs.declared.flow.Target.TheVariants as target
use Rattle.wdl_typed.specs.declared.scope.Bound.{Bound}
use Rattle.wdl_typed.specs.declared.task.TCodes.{TCodes}
use Rattle.wdl_typed.specs.declared.task.TCodes.TheVariants as status
use Rattle.wdl_typed.specs.declared.task.TDecl.{TDecl}
use Rattle.wdl_typed.specs.declared.task.TInput.{TInput}
use Rattle.wdl_typed.specs.declared.task.TaskDef.{TaskDef}
use Rattle.wdl_typed.specs.Bodies.{Library, Signature, append_all, optional, output_bound, signature}
use Rattle.wdl_typed.specs.Declarations.{bound, decls_bound, in_body, inputs_bound, private_names}
use Rattle.wdl_typed.specs.KnownTypes.{is_some}
use Rattle.wdl_typed.specs.Scope.{type_in}
use Rattle.cwl_image.specs.declared.broken.Broken.{Broken}
use Rattle.cwl_image.specs.Expressions.{are_allowed, default_allowed, is_file, is_file_type, is_simple, is_zero, literal_of, output_allowed, refers, refers_to_output, takes_default}
use Rattle.cwl_image.specs.Image.{reference}

-- The rule is broken at the place unless the test holds.
unfoldable pub unless : Bool → ℕ → Span → List Broken
unless holds rule span = if holds then [] else record { rule = rule; span = span } ∷ []

abbrev pub each_broken : {A : Type 0} → (A → List Broken) → List A → List Broken
each_broken f [] = []
each_broken f (a ∷ as_) = f a ++ each_broken f as_

-- ---- inputs, declarations and outputs

abbrev pub is_default : Ty → Option TExpr → Bool
is_default t None = true
is_default t (Some e) = takes_default t && (literal_of e).is_literal

abbrev pub input_broken : Structs → List Bound → TInput → List Broken
input_broken structs names i =
    unless (is_simple i.ty) 605 i.span
    ++ unless (default_allowed structs names i.value) 606 i.span
    ++ unless (is_default i.ty i.value) 607 i.span

abbrev pub private_broken : Structs → List Bound → TDecl → List Broken
private_broken structs names d =
    unless (is_simple d.ty) 605 d.span ++ unless (are_allowed structs names d.value false) 606 d.span ++ unless false 608 d.span

abbrev pub task_output_broken : Structs → List Bound → TDecl → List Broken
task_output_broken structs names d =
    unless (is_simple d.ty) 605 d.span
    ++ unless (output_allowed structs names d.value) 606 d.span
    ++ unless (is_file_type d.ty && is_file d.value) 611 d.span

abbrev pub flow_output_broken : Structs → List Bound → TDecl → List Broken
flow_output_broken structs names d =
    unless (is_simple d.ty) 605 d.span
    ++ unless (are_allowed structs names d.value false) 606 d.span
    ++ unless (refers_to_output structs names d.value) 612 d.span

-- ---- commands

abbrev pub is_plain_choice : Choice → Bool
is_plain_choice choice.Plain = true
is_plain_choice c = false

abbrev pub some_scalar : Option Ty → Bool
some_scalar None = false
some_scalar (Some t) = is_scalar t

-- one of these names, of type Int, String, Boolean or File
abbrev pub is_scalar_name : List Bound → Option Key → Bool
is_scalar_name names None = false
is_scalar_name names (Some k) = some_scalar (type_in names k)

abbrev pub is_input_hole : Structs → List Bound → List Bound → THole TExpr → Bool
is_input_hole structs names inputs h =
    is_plain_choice h.choice && is_scalar_name inputs (reference h.expr) && are_allowed structs names h.expr true

abbrev pub are_input_holes : Structs → List Bound → List Bound → List (TPart TExpr) → Bool
are_input_holes structs names inputs [] = true
are_input_holes structs names inputs (part.Chars s ∷ parts) = are_input_holes structs names inputs parts
are_input_holes structs names inputs (part.Hole h ∷ parts) =
    is_input_hole structs names inputs h && are_input_holes structs names inputs parts

abbrev pub command_allowed : Structs → List Bound → List (TPart TExpr) → Bool
command_allowed structs names [] = true
command_allowed structs names (part.Chars s ∷ parts) = command_allowed structs names parts
command_allowed structs names (part.Hole h ∷ parts) = are_allowed structs names h.expr true && command_allowed structs names parts

-- the characters of a command, and None for each placeholder
abbrev pub command_marks : List (TPart TExpr) → List (Option ℕ)
command_marks [] = []
command_marks (part.Chars s ∷ parts) = map (λ (c : ℕ). Some c) s ++ command_marks parts
command_marks (part.Hole h ∷ parts) = None ∷ command_marks parts

-- a blank, a tab, a newline or a carriage return
abbrev pub is_blank : ℕ → Bool
is_blank c = c == 32 || c == 9 || c == 10 || c == 13

abbrev pub is_dark : Option ℕ → Bool
is_dark None = false
is_dark (Some c) = not (is_blank c)

-- `(`, `{` or a placeholder comes next
abbrev pub opens : List (Option ℕ) → Bool
opens [] = false
opens (None ∷ ms) = true
opens (Some c ∷ ms) = c == 40 || c == 123

-- no backslash, and no `$` directly before `(`, `{` or a placeholder
abbrev pub is_verbatim : List (Option ℕ) → Bool
is_verbatim [] = true
is_verbatim (None ∷ ms) = is_verbatim ms
is_verbatim (Some c ∷ ms) = not (c == 92) && not (c == 36 && opens ms) && is_verbatim ms

abbrev pub is_command : List (TPart TExpr) → Bool
is_command parts = list_any is_dark (command_marks parts) && is_verbatim (command_marks parts)

-- ---- tasks

abbrev pub codes_allowed : Structs → List Bound → TCodes → Bool
codes_allowed structs names status.Zero = true
codes_allowed structs names status.Any = true
codes_allowed structs names (status.One e) = are_allowed structs names e false
codes_allowed structs names (status.Many e) = are_allowed structs names e false

abbrev pub run_allowed : Structs → List Bound → TaskDef → Bool
run_allowed structs names t =
    codes_allowed structs names t.codes && default_allowed structs names t.retries && command_allowed structs names t.command

abbrev pub are_codes : TCodes → Bool
are_codes status.Zero = true
are_codes status.Any = true
are_codes (status.One e) = is_zero (literal_of e).number
are_codes (status.Many e) = (literal_of e).are_codes

abbrev pub run_broken : Structs → List Bound → TaskDef → List Broken
run_broken structs names t =
    unless (run_allowed structs names t) 606 t.span
    ++ unless (are_input_holes structs names (inputs_bound t.inputs) t.command) 609 t.span
    ++ unless (is_command t.command) 610 t.span
    ++ unless (not (is_some t.retries) && are_codes t.codes) 613 t.span

-- all names of a task
abbrev pub task_scope : TaskDef → List Bound
task_scope t = private_names t ++ decls_bound t.outputs

abbrev pub task_broken : Structs → TaskDef → List Broken
task_broken structs t =
    each_broken (input_broken structs (task_scope t)) t.inputs
    ++ each_broken (private_broken structs (task_scope t)) t.privates
    ++ run_broken structs (task_scope t) t
    ++ each_broken (task_output_broken structs (task_scope t)) t.outputs

-- ---- bodies

abbrev pub declared_step : Statement-F (List (List ℕ)) → List (List ℕ)
declared_step (layer.Decl d) = d.name ∷ []
declared_step (layer.Call c) = []
declared_step (layer.Scatter s) = append_all s.body
declared_step (layer.If i) = append_all i.body

-- the names that statements and the bodies in them declare
abbrev pub declared_by : List Statement → List (List ℕ)
declared_by ss = append_all (map (fold-Statement (List (List ℕ)) declared_step) ss)

-- the names that a statement gives out, with their types, and the places where it breaks a rule
pub record Walked : Type 0 where
  pub given : List Bound
  pub broken : List Broken

-- by the names that are seen
abbrev pub Walk : Type 0
Walk = List Bound → Walked

abbrev pub nothing : Walked
nothing = record { given = []; broken = [] }

abbrev pub followed : Walked → Walked → Walked
followed v w = record { given = v.given ++ w.given; broken = v.broken ++ w.broken }

-- the statements of a body, each seeing what those before it give out
abbrev pub body_walk : List Walk → Walk
body_walk [] names = nothing
body_walk (w ∷ ws) names = followed (w names) (body_walk ws (names ++ (w names).given))

abbrev pub args_refer : Structs → List (List ℕ) → List Bound → List (TField TExpr) → Bool
args_refer structs declared names [] = true
args_refer structs declared names (a ∷ as_) = refers structs declared names a.value && args_refer structs declared names as_

abbrev pub args_allowed : Structs → List Bound → List (TField TExpr) → Bool
args_allowed structs names [] = true
args_allowed structs names (a ∷ as_) = are_allowed structs names a.value false && args_allowed structs names as_

abbrev pub is_empty : {A : Type 0} → List A → Bool
is_empty [] = true
is_empty (a ∷ as_) = false

abbrev pub call_broken : Structs → List (List ℕ) → List Bound → TCall → List Broken
call_broken structs declared names c =
    unless (args_refer structs declared names c.args) 601 c.span
    ++ unless (is_empty c.after) 604 c.span
    ++ unless (args_allowed structs names c.args) 606 c.span

abbrev pub outputs_bound : List ℕ → Option Signature → List Bound
outputs_bound call None = []
outputs_bound call (Some s) = map (output_bound call) s.outputs

abbrev pub decl_broken : Structs → List Bound → TDecl → List Broken
decl_broken structs names d =
    unless (is_simple d.ty) 605 d.span ++ unless (are_allowed structs names d.value false) 606 d.span ++ unless false 602 d.span

-- the collection or condition of a block
abbrev pub block_broken : Structs → List (List ℕ) → List Bound → TExpr → Span → List Broken
block_broken structs declared names e span =
    unless (refers structs declared names e) 603 span ++ unless (are_allowed structs names e false) 606 span

abbrev pub retyped_bound : (Ty → Ty) → List Bound → List Bound
retyped_bound f = map (λ (b : Bound). record { key = b.key; ty = f b.ty })

-- A scatter's item is seen in its body alone. Outside a name is an array, with `+` where the collection has it.
abbrev pub scatter_at : List ℕ → Walk → List Bound → Ty-F Ty → Walked
scatter_at item body names (type.Array t some) =
    let inside = body (names ++ bound item t ∷ []) in
    record { given = retyped_bound (λ u. ty.Array u some) inside.given; broken = inside.broken }
scatter_at item body names t = nothing

abbrev pub scatter_over : List ℕ → Walk → List Bound → Option Ty → Walked
scatter_over item body names None = nothing
scatter_over item body names (Some t) = scatter_at item body names (out-Ty t)

-- Outside a condition a name is optional.
abbrev pub if_over : Walk → Walk
if_over body names = record { given = retyped_bound optional (body names).given; broken = (body names).broken }

abbrev pub after_block : List Broken → Walked → Walked
after_block head w = record { given = w.given; broken = head ++ w.broken }

abbrev pub walk_step : Library → List (List ℕ) → Statement-F Walk → Walk
walk_step lib declared (layer.Decl d) names =
    record { given = bound d.name d.ty ∷ []; broken = decl_broken lib.structs names d }
walk_step lib declared (layer.Call c) names =
    record { given = outputs_bound c.name (signature lib c.target); broken = call_broken lib.structs declared names c }
walk_step lib declared (layer.Scatter s) names =
    after_block (block_broken lib.structs declared names s.over s.span)
    (scatter_over s.item (body_walk s.body) names (in_body lib.structs names s.over))
walk_step lib declared (layer.If i) names =
    after_block (block_broken lib.structs declared names i.cond i.span) (if_over (body_walk i.body) names)

abbrev pub walk : Library → List (List ℕ) → Statement → Walk
walk lib declared = fold-Statement Walk (walk_step lib declared)

abbrev pub walk_body : Library → List (List ℕ) → List Statement → Walk
walk_body lib declared ss = body_walk (map (walk lib declared) ss)

-- ---- workflows

abbrev pub walk_flow : Library → FlowDef → Walked
walk_flow lib f = walk_body lib (declared_by f.body) f.body (inputs_bound f.inputs)

-- all names that the outputs see
abbrev pub output_scope : Library → FlowDef → List Bound
output_scope lib f = inputs_bound f.inputs ++ (walk_flow lib f).given ++ decls_bound f.outputs

-- where a workflow breaks a rule itself
abbrev pub flow_broken : Library → FlowDef → List Broken
flow_broken lib f =
    each_broken (input_broken lib.structs (inputs_bound f.inputs)) f.inputs
    ++ (walk_flow lib f).broken
    ++ each_broken (flow_output_broken lib.structs (output_scope lib f)) f.outputs

abbrev pub task_at : Structs → Option TaskDef → List Broken
task_at structs None = []
task_at structs (Some t) = task_broken structs t

abbrev pub target_broken : Library → (ℕ → List Broken) → Target → List Broken
target_broken lib flows (target.Task k) = task_at lib.structs (slice_get lib.tasks k)
target_broken lib flows (target.Flow k) = flows k

abbrev pub all_broken : List (List Broken) → List Broken
all_broken [] = []
all_broken (bs ∷ more) = bs ++ all_broken more

abbrev pub called_step : (Target → List Broken) → Statement-F (List Broken) → List Broken
called_step targets (layer.Decl d) = []
called_step targets (layer.Call c) = targets c.target
called_step targets (layer.Scatter s) = all_broken s.body
called_step targets (layer.If i) = all_broken i.body

-- where what the statements call breaks a rule
abbrev pub called_broken : (Target → List Broken) → List Statement → List Broken
called_broken targets ss = all_broken (map (fold-Statement (List Broken) (called_step targets)) ss)

abbrev pub flow_at : Library → (ℕ → List Broken) → Option FlowDef → List Broken
flow_at lib flows None = []
flow_at lib flows (Some f) = flow_broken lib f ++ called_broken (target_broken lib flows) f.body

-- a workflow, and what it calls, to a depth
unfoldable pub reached : Library → ℕ → ℕ → List Broken
reached lib zero k = []
reached lib (suc depth) k = flow_at lib (reached lib depth) (slice_get lib.flows k)

-- The places where main and what it reaches break a rule. Calls form no circle, and at most 24 stand on one path.
abbrev pub broken_in : Library → ℕ → List Broken
broken_in lib main = reached lib 25 main

abbrev pub places_of : ℕ → List Broken → List Span
places_of n [] = []
places_of n (b ∷ bs) = (if b.rule == n then b.span ∷ [] else []) ++ places_of n bs

-- the places where the rule is broken
abbrev pub rule : ℕ → Library → ℕ → List Span
rule n lib main = places_of n (broken_in lib main)

-- No rule is broken.
abbrev pub in_subset : Library → ℕ → Bool
in_subset lib main = is_empty (broken_in lib main)
