use Rattle.std.proofs.Common.{◌≡◌, ◌≤◌, ◌++◌, length}
use Rattle.std.specs.Prelude.{reverse}
use Rattle.wdl_check_flow.proofs.visible.Visible.take_behind.Given as goal

abbrev pub decreases-loop-self : goal.decreases-loop-self
decreases-loop-self l = length l.self.names

abbrev pub invariant-loop-self : goal.invariant-loop-self
invariant-loop-self l = record {
  whole : l.self.names ++ reverse l.given ≡ l.initial.self.names;
  calls : l.self.calls ≡ l.initial.self.calls;
  long : l.count ≤ length l.self.names;
}
