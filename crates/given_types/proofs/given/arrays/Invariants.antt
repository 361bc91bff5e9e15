use Rattle.std.proofs.Common.{◌≡◌, take}
use Rattle.wdl_value.specs.declared.ty.Ty.TheVariants as ty
use Rattle.given_types.specs.Types.{retyped_names}
use Rattle.given_types.proofs.given.arrays.Given as goal

abbrev pub invariant-loop-bound : goal.invariant-loop-bound
invariant-loop-bound l = l.arrays ≡ retyped_names (λ u. ty.Array u l.some) (take l.bound-index l.names)
