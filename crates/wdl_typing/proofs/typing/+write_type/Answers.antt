use Rattle.std.proofs.Common.{◌≡◌, Option, IfOk, ap, subst, sym, ◌∙◌}
use Rattle.wdl_value.specs.declared.ty.Ty.{Ty}
use Rattle.wdl_typed.specs.declared.expr.TExpr.{TExpr, fold-TExpr}
use Rattle.wdl_typed.specs.Declarations.{Placed, placed_step}
use Rattle.wdl_typing.specs.Types.{context_of, write_call}
use Rattle.wdl_typing.proofs.PlainTypes.{write-Apply}
use Rattle.wdl_typing.proofs.typing.+write_type.Goals as goal

pub returns-in-Apply : goal.returns-in-Apply
returns-in-Apply t c =
    subst (λ (r : Option Ty). IfOk c.write_call.result (λ u. u ≡ r))
    (ap (λ es. write_call (context_of c.args.seen.now) c.in-Apply.f es c.args.placeholder) c.as_slice.ensures
    ∙ sym (ap (λ (e : TExpr). (fold-TExpr Placed (placed_step (context_of c.args.seen.now)) e).write c.args.placeholder) c.in-Apply.is
    ∙ write-Apply (context_of c.args.seen.now) c.in-Apply.f c.in-Apply.es c.args.placeholder))
    c.write_call.ensures
