-- The equation of `cast`.
use Rattle.std.specs.Prelude.{◌≡◌}
use Rattle.std.proofs.Common.{ap}
use Rattle.wdl_value.specs.declared.value.Value.{Value, out-Value, map-Value}
use Rattle.wdl_value.specs.declared.ty.Ty.{Ty, out-Ty}
use Rattle.wdl_value.specs.declared.value.Value.TheVariants as v
use Rattle.wdl_value.specs.declared.ty.Ty.TheVariants as ty
use Rattle.wdl_value.specs.Recur.{recur_out}
use Rattle.wdl_value.specs.Bare.{bare}
use Rattle.wdl_value.specs.Cast.{Caster, cast, cast_at}

pub cast_out : (x : Value) (t : Ty) → cast x t ≡ cast_at x (map-Value Value Caster cast (out-Value x)) (out-Ty (bare t))
unfolding cast
cast_out x t = ap (λ (f : Caster). f t) (recur_out Caster (λ x parts t. cast_at x parts (out-Ty (bare t))) x)

-- what a proof of code about `cast` uses
pub ruleset cast_steps = (cast_out, v.outs-Bool, v.outs-Int, v.outs-Str, v.outs-File, v.outs-List, v.outs-Pair, v.outs-Map, ty.outs-Str, ty.outs-File, ty.outs-Array, ty.outs-Pair, ty.outs-Map)
