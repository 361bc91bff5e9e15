use Rattle.std.proofs.Common.{◌≡◌, length, take}
use Rattle.wdl_plain.proofs.sight.keep_segments.Given as goal

abbrev pub invariant-loop-place : goal.invariant-loop-place
invariant-loop-place l = take l.count l.place ≡ take l.count l.initial.place

abbrev pub decreases-loop-place : goal.decreases-loop-place
decreases-loop-place l = length l.place
