-- What the checker answers is what the contract of `check_expr` and `check_as` says.
use Rattle.std.proofs.Common.{Option, Result, Ok, Err, subst}
use Rattle.wdl_value.specs.declared.ty.Ty.{Ty}
use Rattle.wdl_ast.specs.declared.expr.Expr.{Expr}
use Rattle.wdl_typed.specs.declared.expr.TExpr.{TExpr}
use Rattle.wdl_check_rules.specs.declared.fault.CheckFault.{CheckFault}
use Rattle.wdl_check_rules.specs.declared.fault.CheckFault.TheVariants.{Bad, NoMemory}
use Rattle.wdl_check_rules.specs.Scopes.{Scope}
use Rattle.wdl_check_rules.specs.declared.typed.Typed.{Typed}
use Rattle.wdl_check_rules.specs.Checked.{Checked, Gives, checked, checked_as, or_bad}
use Rattle.wdl_check_rules.specs.Conditions.{Conditions, Answers, at, unless, conditions, conditions_as}
use Rattle.wdl_check_rules.specs.Rules.{coerced}
use Rattle.wdl_check_rules.specs.Spans.{span_of}
use Rattle.wdl_check_rules.specs.Typed.{typed, typed_as}
use Rattle.wdl_check_laws.proofs.Agreeing.{Agrees, or_bad_agrees, bind_agrees}
use Rattle.wdl_check_laws.proofs.CheckedMeaning.{checked_agrees}

answered : {A : Type 0} (r : Checked A) (o : Option A) (fs : Conditions) (result : Result A CheckFault) → Agrees r o fs → Gives r result → Answers o fs result
answered {A} r o fs (Ok a) h g = subst (λ (z : Checked A). Agrees z o fs) g h
answered {A} r o fs (Err NoMemory) h g = tt
answered {A} r o fs (Err (Bad code span)) h g = subst (λ (z : Checked A). Agrees z o fs) (g (λ e. cc)) h

pub expr_answered : (s : Scope) (e : Expr) (result : Result Typed CheckFault) → Gives (checked s e s.placeholder) result → Answers (typed s e) (conditions s e) result
expr_answered s e result g = answered (checked s e s.placeholder) (typed s e) (conditions s e) result (checked_agrees s e s.placeholder) g

pub cast_answered : (s : Scope) (e : Expr) (t : Ty) (result : Result TExpr CheckFault) → Gives (checked_as s e t) result → Answers (typed_as s e t) (conditions_as s e t) result
cast_answered s e t result g =
    answered (checked_as s e t) (typed_as s e t) (conditions_as s e t) result
    (bind_agrees (checked s e s.placeholder) (typed s e) (conditions s e) (λ x. or_bad 303 (span_of e) (coerced x t)) (λ x. coerced x t) (λ x. unless (coerced x t) (at 303 (span_of e))) (checked_agrees s e s.placeholder) (λ x. or_bad_agrees 303 (span_of e) (coerced x t)))
    g
