use Rattle.std.proofs.Common.{◌≡◌, length, take}
use Rattle.cwl_records.proofs.walk.keep.Given as goal

abbrev pub invariant-loop-swaps : goal.invariant-loop-swaps
invariant-loop-swaps l = take l.count l.swaps ≡ take l.count l.initial.swaps

abbrev pub decreases-loop-swaps : goal.decreases-loop-swaps
decreases-loop-swaps l = length l.swaps
