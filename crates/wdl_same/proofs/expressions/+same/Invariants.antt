use Rattle.std.proofs.Common.{◌≡◌, drop}
use Rattle.wdl_same.specs.Exprs.{same_exprs, same_fields, same_parts, same_rows}
use Rattle.wdl_same.proofs.expressions.+same.Given as goal

abbrev pub invariant-same_exprs-loop-x : goal.invariant-same_exprs-loop-x
invariant-same_exprs-loop-x l = same_exprs (drop l.x-index l.xs) l.left ≡ same_exprs l.xs l.ys

abbrev pub invariant-same_rows-loop-x : goal.invariant-same_rows-loop-x
invariant-same_rows-loop-x l = same_rows (drop l.x-index l.xs) l.left ≡ same_rows l.xs l.ys

abbrev pub invariant-same_fields-loop-x : goal.invariant-same_fields-loop-x
invariant-same_fields-loop-x l = same_fields (drop l.x-index l.xs) l.left ≡ same_fields l.xs l.ys

abbrev pub invariant-same_parts-loop-x : goal.invariant-same_parts-loop-x
invariant-same_parts-loop-x l = same_parts (drop l.x-index l.xs) l.left ≡ same_parts l.xs l.ys
