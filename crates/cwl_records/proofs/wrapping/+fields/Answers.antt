use Rattle.std.proofs.Common.{Some, None, ap, ◌∙◌, arith}
use Rattle.cwl_records.specs.declared.wide.FieldTy.TheVariants as field
use Rattle.cwl_records.proofs.FieldLaws.{field_struct}
use Rattle.cwl_records.proofs.wrapping.+fields.Goals as goal

pub field_ty-returns-in_default-members_of : goal.field_ty-returns-in_default-members_of
field_ty-returns-in_default-members_of t c =
    ap field.Fields c.new.ensures
    ∙ field_struct c.args.structs.now c.args.level c.args.ty.now c.in-Struct.name None (omega (arith, c.if-level-eq0.false)) c.in-Struct.is c.in_default-members_of.ensures

pub field_ty-returns : goal.field_ty-returns
field_ty-returns t c =
    ap field.Fields c.in_ok-all_fields.ensures
    ∙ field_struct c.args.structs.now c.args.level c.args.ty.now c.in-Struct.name (Some c.in-Some.members.now) (omega (arith, c.if-level-eq0.false)) c.in-Struct.is c.in-Some.ensures
