use Rattle.std.proofs.Common.{◌≡◌, drop}
use Rattle.wdl_value.specs.SameValue.{same_all, same_rows, same_fields}
use Rattle.wdl_value.proofs.equality.+same.Given as goal

abbrev pub invariant-same_all-loop-x : goal.invariant-same_all-loop-x
invariant-same_all-loop-x l = same_all (drop l.x-index l.xs) l.left ≡ same_all l.xs l.ys

abbrev pub invariant-same_rows-loop-x : goal.invariant-same_rows-loop-x
invariant-same_rows-loop-x l = same_rows (drop l.x-index l.xs) l.left ≡ same_rows l.xs l.ys

abbrev pub invariant-same_fields-loop-x : goal.invariant-same_fields-loop-x
invariant-same_fields-loop-x l = same_fields (drop l.x-index l.xs) l.left ≡ same_fields l.xs l.ys
