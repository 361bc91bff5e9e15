use Rattle.std.proofs.Common.{◌≡◌, drop}
use Rattle.wdl_plain.specs.Gathered.{have_all_ended}
use Rattle.wdl_plain.proofs.gathering.have_all_ended.Given as goal

abbrev pub invariant-loop-calls : goal.invariant-loop-calls
invariant-loop-calls l = have_all_ended (drop l.calls-index l.items) l.call ≡ have_all_ended l.items l.call
