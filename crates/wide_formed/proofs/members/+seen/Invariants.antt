use Rattle.std.proofs.Common.{◌≡◌, true, take}
use Rattle.wide_formed.specs.Forms.{fields_named}
use Rattle.wide_formed.proofs.members.+seen.Given as goal

abbrev pub invariant-see_fields-loop-field : goal.invariant-see_fields-loop-field
invariant-see_fields-loop-field l = fields_named (take l.field-index l.fields) ≡ true
