use Rattle.std.proofs.Common.{sym, ap, ◌∙◌}
use Rattle.wdl_value.specs.declared.ty.Ty.{Ty, out-Ty}
use Rattle.wdl_value.specs.declared.ty.Ty.TheVariants as ty
use Rattle.wdl_value.specs.Fits.{int_fits}
use Rattle.wdl_value.proofs.ValueTextLemmas.{is_int-fits}
use Rattle.wdl_value.proofs.fitting.takes_int.Goals as goal

pub returns-in-Int : goal.returns-in-Int
returns-in-Int c = sym (ap (λ (k : Ty). int_fits c.args.n (out-Ty k)) c.in-Int.is ∙ ap (int_fits c.args.n) ty.outs-Int ∙ is_int-fits c.args.n c.ranges.n)
