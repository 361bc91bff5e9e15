use Rattle.std.proofs.Common.{◌≡◌, ◌≤◌, ◌<◌, ◌-◌, suc, ℕ, length, slice_get}
use Rattle.workflow_stages.proofs.exclusion.padded.Given as goal

abbrev pub invariant-fill : goal.invariant-fill
invariant-fill l = record {
  long : length l.fn.paths ≤ length l.all;
  same : (k : ℕ) → k < length l.fn.paths → slice_get l.all k ≡ slice_get l.fn.paths k;
}

abbrev pub decreases-fill : goal.decreases-fill
decreases-fill l = suc l.number - length l.all
