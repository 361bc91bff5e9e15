use Rattle.std.proofs.Common.{◌≡◌, ◌++◌, drop}
use Rattle.wdl_typed.specs.Bodies.{all_declared}
use Rattle.wdl_names.specs.Fresh.{fresh}
use Rattle.wdl_well_typed.proofs.declared.+declared.Given as goal

abbrev pub invariant-add_declared-loop-statement : goal.invariant-add_declared-loop-statement
invariant-add_declared-loop-statement l =
    (l.words ++ all_declared (drop l.statement-index l.body) ≡ l.initial.words ++ all_declared l.body)
    × (fresh l.words (all_declared (drop l.statement-index l.body)) ≡ fresh l.initial.words (all_declared l.body))
