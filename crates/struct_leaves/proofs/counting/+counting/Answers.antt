use Rattle.std.proofs.Common.{◌-◌, Some, None, arith}
use Rattle.leaf_image.specs.Leaves.{all_structs, structs_at}
use Rattle.struct_leaves.proofs.CountLaws.{one_less, structs_struct}
use Rattle.struct_leaves.proofs.counting.+counting.Goals as goal

pub left_beside-returns-in-Some : goal.left_beside-returns-in-Some
left_beside-returns-in-Some t c =
    one_less c.left_beside_all.result c.args.left (structs_at c.args.structs.now c.args.level c.args.ty.now) (all_structs (structs_at c.args.structs.now (c.args.level - 1)) c.in-Some.members.now)
    (omega (arith, c.if-left-eq0.false))
    (structs_struct c.args.structs.now c.args.level c.args.ty.now c.in-Struct.name (Some c.in-Some.members.now) (omega (arith, c.if-level-eq0.false)) c.in-Struct.is c.in-Some.ensures)
    c.left_beside_all.ensures

pub left_beside-returns-in-None : goal.left_beside-returns-in-None
left_beside-returns-in-None t c =
    omega (arith, c.if-left-eq0.false, structs_struct c.args.structs.now c.args.level c.args.ty.now c.in-Struct.name None (omega (arith, c.if-level-eq0.false)) c.in-Struct.is c.in-None.ensures)
