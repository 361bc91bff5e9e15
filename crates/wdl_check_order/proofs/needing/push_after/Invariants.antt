use Rattle.std.proofs.Common.{◌≡◌, ◌++◌, drop}
use Rattle.wdl_check_order.specs.Needs.{after_names}
use Rattle.wdl_check_order.proofs.needing.push_after.Given as goal

abbrev pub invariant-loop-word : goal.invariant-loop-word
invariant-loop-word l = l.names ++ after_names (drop l.word-index l.after) ≡ l.fn.names ++ after_names l.after
