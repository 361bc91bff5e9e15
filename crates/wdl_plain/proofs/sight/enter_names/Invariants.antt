use Rattle.std.proofs.Common.{◌≡◌, ◌++◌, drop}
use Rattle.wdl_plain.proofs.sight.enter_names.Given as goal

abbrev pub invariant-loop-known : goal.invariant-loop-known
invariant-loop-known l = l.names ++ drop l.known-index l.more ≡ l.initial.names ++ l.more
