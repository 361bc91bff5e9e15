use Rattle.std.proofs.Common.{sym, ap, ◌∙◌}
use Rattle.wdl_value.specs.Bare.{bare, bare-Opt, bare-other}
use Rattle.wdl_value.proofs.bare.+bare_type.Goals as goal

pub returns-in-Opt : goal.returns-in-Opt
returns-in-Opt t c = c.bare_type.ensures ∙ ap bare c.get.ensures ∙ sym (ap bare c.in-Opt.is ∙ bare-Opt c.in-Opt.inner)

pub returns-in_default : goal.returns-in_default
returns-in_default t c = bare-other c.args.t.now c.in_default.not-Opt
