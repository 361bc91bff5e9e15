-- Calls (OpenWDL 1.1, "Call Statement").
use Rattle.std.specs.Prelude.{ℕ, false, List, [], ◌∷◌, ◌++◌, Option, Some, None, if◌then◌else◌}
use Rattle.std.specs.List.{find}
use Rattle.std.specs.Str.{bytes_eq}
use Rattle.wdl_base.specs.declared.span.Span.{Span}
use Rattle.wdl_ast.specs.declared.expr.Expr.{Expr}
use Rattle.wdl_ast.specs.declared.expr.Expr.TheVariants as expr
use Rattle.wdl_ast.specs.declared.leaf.Ident.{Ident}
use Rattle.wdl_ast.specs.declared.leaf.ListItem.{ListItem}
use Rattle.wdl_ast.specs.declared.section.Assigned.{Assigned}
use Rattle.wdl_ast.specs.declared.workflow.After.{After}
use Rattle.wdl_ast.specs.declared.workflow.Argument.{Argument}
use Rattle.wdl_ast.specs.declared.workflow.Call.{Call}
use Rattle.wdl_ast.specs.declared.workflow.CallTarget.{CallTarget}
use Rattle.wdl_ast.specs.declared.workflow.TargetMember.{TargetMember}
use Rattle.wdl_typed.specs.declared.expr.TExpr.{TExpr}
use Rattle.wdl_typed.specs.declared.expr.TField.{TField}
use Rattle.wdl_typed.specs.declared.flow.Statement.{Statement}
use Rattle.wdl_typed.specs.declared.flow.Statement.TheVariants as form
use Rattle.wdl_typed.specs.declared.flow.TCall.{TCall}
use Rattle.wdl_typed.specs.declared.task.TInput.{TInput}
use Rattle.wdl_typed.specs.Bodies.{Seen, all_given, arg_names}
use Rattle.wdl_typed.specs.Lists.{has_name}
use Rattle.wdl_check_rules.specs.Spans.{joined}
use Rattle.wdl_check_types.specs.Outcome.{Outcome, done, refused, then_, or_refused}
use Rattle.wdl_check_types.specs.Places.{call_ident, call_span}
use Rattle.wdl_check_order.specs.Needs.{after_names, call_arguments}
use Rattle.wdl_check_decls.specs.Expressions.{expr_as}
use Rattle.wdl_check_flow.specs.Given.{call_gives}
use Rattle.wdl_check_flow.specs.Targets.{Offer, Place, target_of, world_at}

-- a typed statement, and what it gives out
pub record Stated : Type 0 where
  pub statement : Statement
  pub given : Seen

-- ---- arguments

-- an argument without a value is the name itself
abbrev pub value_of : Ident → Option Assigned → Expr
value_of n None = expr.Name n
value_of n (Some a) = a.value

abbrev pub input_named : List TInput → List ℕ → Option TInput
input_named inputs name = find (λ (i : TInput). bytes_eq i.name name) inputs

abbrev pub field : List ℕ → TExpr → TField TExpr
field name e = record { name = name; value = e }

-- 324: an argument that is no input
abbrev pub argument_typed : Place → Seen → Offer → Argument → Outcome (TField TExpr)
argument_typed p seen o a =
    then_ (or_refused 324 a.name.span (input_named o.inputs a.name.name)) (λ (i : TInput).
    then_ (expr_as (world_at p seen) seen.names false (value_of a.name a.value) i.ty) (λ e. done (field a.name.name e)))

-- 321: an argument that stands before
abbrev pub next_argument : Place → Seen → Offer → List (List ℕ) → Argument → Outcome (TField TExpr)
next_argument p seen o given a = if has_name a.name.name given then refused 321 a.name.span else argument_typed p seen o a

-- the arguments behind those before
abbrev pub arguments_behind : Place → Seen → Offer → List (TField TExpr) → List (ListItem Argument) → Outcome (List (TField TExpr))
arguments_behind p seen o before [] = done before
arguments_behind p seen o before (a ∷ as_) =
    then_ (next_argument p seen o (arg_names before) a.item) (λ f. arguments_behind p seen o (before ++ f ∷ []) as_)

-- 323: a required input that is not given
abbrev pub required_given : Span → Offer → List (List ℕ) → Outcome (Unit {0})
required_given span o given = if all_given o.inputs given then done tt else refused 323 span

-- ---- `after`

-- where the first name stands that is no call that is seen
abbrev pub first_unseen : List (List ℕ) → List After → Option Span
first_unseen calls [] = None
first_unseen calls (a ∷ as_) = if has_name a.name.name calls then first_unseen calls as_ else Some a.name.span

-- 301: no call that is seen
abbrev pub after_unless : Option Span → List After → Outcome (List (List ℕ))
after_unless (Some span) as_ = refused 301 span
after_unless None as_ = done (after_names as_)

abbrev pub after_typed : Seen → List After → Outcome (List (List ℕ))
after_typed seen as_ = after_unless (first_unseen seen.calls as_) as_

-- ---- the call

abbrev pub span_with : Ident → Option TargetMember → Span
span_with n None = n.span
span_with n (Some m) = joined n.span m.name.span

abbrev pub target_span : CallTarget → Span
target_span t = span_with t.first t.second

abbrev pub call_with : Call → Offer → List (TField TExpr) → List (List ℕ) → TCall
call_with c o args after = record { name = (call_ident c).name; target = o.target; args = args; after = after; span = call_span c }

abbrev pub stated_call : Offer → TCall → Stated
stated_call o t = record { statement = form.Call t; given = call_gives t.name o.outputs }

-- the call of what was found
abbrev pub call_to : Place → Seen → Offer → Call → Outcome TCall
call_to p seen o c =
    then_ (arguments_behind p seen o [] (call_arguments c)) (λ args.
    then_ (required_given (call_span c) o (arg_names args)) (λ _.
    then_ (after_typed seen c.after) (λ after. done (call_with c o args after))))

-- 322: no such target
abbrev pub call_typed : Place → Seen → Call → Outcome Stated
call_typed p seen c =
    then_ (or_refused 322 (target_span c.target) (target_of p.reach c.target)) (λ (o : Offer).
    then_ (call_to p seen o c) (λ (t : TCall). done (stated_call o t)))
