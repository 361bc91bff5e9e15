use Rattle.std.proofs.Common.{◌≡◌, ◌++◌, drop}
use Rattle.wdl_check_rules.specs.Rules.{types_of}
use Rattle.wdl_check_rules.proofs.call.types_of.Given as goal

abbrev pub invariant-loop-arg : goal.invariant-loop-arg
invariant-loop-arg l = l.types ++ types_of (drop l.arg-index l.args) ≡ types_of l.args
