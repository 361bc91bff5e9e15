-- The equation of `widens`.
use Rattle.std.proofs.Common.{◌≡◌, ap}
use Rattle.wdl_value.specs.declared.ty.Ty.{Ty, map-Ty, out-Ty}
use Rattle.wdl_value.specs.declared.ty.Ty.TheVariants as ty
use Rattle.wdl_value.specs.RecurType.{recur_type_out}
use Rattle.wdl_value.specs.SameType.{TypeTest}
use Rattle.cwl_image.specs.Expressions.{widens, widens_step}

pub widens_out : (t u : Ty) → widens t u ≡ widens_step t (map-Ty Ty TypeTest widens (out-Ty t)) u
unfolding widens
widens_out t u = ap (λ (f : TypeTest). f u) (recur_type_out TypeTest widens_step t)

-- what a proof of code about `widens` uses
pub ruleset widens_steps = (
  widens_out,
  ty.outs-Bool,
  ty.outs-Int,
  ty.outs-Str,
  ty.outs-File,
  ty.outs-Array,
  ty.outs-Map,
  ty.outs-Pair,
  ty.outs-Struct,
  ty.outs-Opt,
  ty.outs-Absent,
  ty.outs-Empty,
)
