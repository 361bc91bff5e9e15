use Rattle.std.proofs.Common.{◌≡◌, ◌+◌, ◌*◌, ◌++◌, drop}
use Rattle.cwl_records.specs.Wrapping.{all_fields, field_ty}
use Rattle.cwl_records.proofs.wrapping.+fields.Given as goal

abbrev pub invariant-all_fields-loop-member : goal.invariant-all_fields-loop-member
invariant-all_fields-loop-member l = l.fields ++ all_fields (field_ty l.structs l.level) (drop l.member-index l.members) ≡ all_fields (field_ty l.structs l.level) l.members

abbrev pub decreases-field_ty : goal.decreases-field_ty
decreases-field_ty l = 2 * l.level

abbrev pub decreases-all_fields : goal.decreases-all_fields
decreases-all_fields l = 2 * l.level + 1
