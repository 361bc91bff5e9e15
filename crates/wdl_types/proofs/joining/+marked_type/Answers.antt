use Rattle.std.proofs.Common.{sym, ap, ◌∙◌}
use Rattle.wdl_value.specs.declared.ty.Ty.{Ty}
use Rattle.wdl_value.specs.declared.ty.Ty.TheVariants as ty
use Rattle.wdl_value.specs.Join.{marked, marked-Opt, marked-other}
use Rattle.wdl_types.proofs.joining.+marked_type.Goals as goal

pub returns-in_ok-new-in-Opt : goal.returns-in_ok-new-in-Opt
returns-in_ok-new-in-Opt t c =
    ap ty.Opt (c.in_ok-new-in-Opt.ensures ∙ c.in_ok-t-in-Opt.ensures ∙ ap (λ (u : Ty). marked u c.args.t) c.get.ensures)
    ∙ sym (ap (λ (u : Ty). marked u c.args.t) c.in-Opt.is ∙ marked-Opt c.in-Opt.v c.args.t)

pub returns-in_default : goal.returns-in_default
returns-in_default t c = marked-other c.args.u.now c.args.t c.in_default.not-Opt
