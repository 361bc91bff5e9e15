use Rattle.std.proofs.Common.{◌≡◌, ◌++◌, length}
use Rattle.std.specs.Prelude.{reverse}
use Rattle.wdl_check_flow.specs.Given.{gathered, retyped_names}
use Rattle.wdl_check_flow.proofs.visible.Visible.put_back.Given as goal

abbrev pub decreases-loop-key : goal.decreases-loop-key
decreases-loop-key l = length l.waiting

abbrev pub invariant-loop-key : goal.invariant-loop-key
invariant-loop-key l = record {
  names : l.self.names ++ retyped_names (gathered l.gathering) (reverse l.waiting) ≡ l.initial.self.names ++ retyped_names (gathered l.gathering) (reverse l.initial.waiting);
  calls : l.self.calls ≡ l.initial.self.calls;
}
