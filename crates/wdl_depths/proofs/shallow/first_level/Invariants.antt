use Rattle.std.proofs.Common.{◌≡◌, zero, map, take}
use Rattle.wdl_value.specs.declared.ty.StructDef.{StructDef}
use Rattle.wdl_typed.specs.KnownTypes.{is_shallow}
use Rattle.wdl_depths.proofs.shallow.first_level.Given as goal

abbrev pub invariant-loop-def : goal.invariant-loop-def
invariant-loop-def l = l.table ≡ map (λ (d : StructDef). is_shallow zero l.structs d.name) (take l._def-index l._def-items)
