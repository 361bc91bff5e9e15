use Rattle.std.proofs.Common.{◌≡◌, ◌++◌, length}
use Rattle.wdl_check_rules.specs.Rules.{cast_all}
use Rattle.wdl_check_rules.proofs.collection.cast_all.Given as goal

abbrev pub invariant-loop-item : goal.invariant-loop-item
invariant-loop-item l = l.exprs ++ cast_all l.t l.rest.items ≡ cast_all l.t l.initial.rest.items

abbrev pub decreases-loop-item : goal.decreases-loop-item
decreases-loop-item l = length l.rest.items
