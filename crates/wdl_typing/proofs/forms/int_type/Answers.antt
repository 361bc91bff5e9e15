use Rattle.std.proofs.Common.{ap, sym}
use Rattle.wdl_value.specs.declared.ty.Ty.TheVariants as ty
use Rattle.wdl_value.proofs.ValueTextLemmas.{is_int-fits}
use Rattle.wdl_typed.specs.Typing.{when}
use Rattle.wdl_typing.proofs.forms.int_type.Goals as goal

pub returns : goal.returns
returns c = sym (ap (λ b. when b ty.Int) (is_int-fits c.args.n c.ranges.n))
