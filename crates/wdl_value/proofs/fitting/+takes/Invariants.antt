use Rattle.std.proofs.Common.{◌≡◌, drop}
use Rattle.wdl_value.specs.Fits.{takes_all, takes_rows, takes_fields}
use Rattle.wdl_value.proofs.fitting.+takes.Given as goal

abbrev pub invariant-takes_all-loop-item : goal.invariant-takes_all-loop-item
invariant-takes_all-loop-item l = takes_all l.structs (drop l.item-index l.items) l.t ≡ takes_all l.structs l.items l.t

abbrev pub invariant-takes_rows-loop-row : goal.invariant-takes_rows-loop-row
invariant-takes_rows-loop-row l = takes_rows l.structs (drop l.row-index l.rows) l.t l.u ≡ takes_rows l.structs l.rows l.t l.u

abbrev pub invariant-takes_fields-loop-field : goal.invariant-takes_fields-loop-field
invariant-takes_fields-loop-field l = takes_fields l.structs (drop l.field-index l.fields) l.left ≡ takes_fields l.structs l.fields l.members
