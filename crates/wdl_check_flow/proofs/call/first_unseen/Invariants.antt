use Rattle.std.proofs.Common.{◌≡◌, drop}
use Rattle.wdl_check_flow.specs.Calls.{first_unseen}
use Rattle.wdl_check_flow.proofs.call.first_unseen.Given as goal

abbrev pub invariant-loop-word : goal.invariant-loop-word
invariant-loop-word l = first_unseen l.calls (drop l.word-index l.after) ≡ first_unseen l.calls l.after
