use Rattle.std.proofs.Common.{◌≡◌, ◌++◌, drop}
use Rattle.wdl_check_rules.specs.Rules.{cast_args}
use Rattle.wdl_check_rules.proofs.call.cast_args.Given as goal

abbrev pub invariant-loop-param : goal.invariant-loop-param
invariant-loop-param l = l.done ++ cast_args (drop l.param-index l.params) l.rest.items ≡ cast_args l.params l.initial.rest.items
