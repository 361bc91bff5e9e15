use Rattle.std.proofs.Common.{◌≡◌, suc, map, take}
use Rattle.wdl_value.specs.declared.ty.StructDef.{StructDef}
use Rattle.wdl_typed.specs.KnownTypes.{is_shallow}
use Rattle.wdl_depths.proofs.shallow.next_level.Given as goal

abbrev pub invariant-loop-def : goal.invariant-loop-def
invariant-loop-def l = l.next ≡ map (λ (d : StructDef). is_shallow (suc l.level) l.structs d.name) (take l.def-index l.def-items)
