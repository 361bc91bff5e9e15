use Rattle.std.proofs.Common.{◌≡◌, ◌++◌, drop}
use Rattle.wdl_swaps.specs.Strays.{all_own, all_strays}
use Rattle.wdl_swaps.proofs.strays.+bodies.Given as goal

abbrev pub invariant-add_body-loop-statement : goal.invariant-add_body-loop-statement
invariant-add_body-loop-statement l =
    (l.strays ++ all_strays (drop l.statement-index l.body) l.path ≡ l.initial.strays ++ all_strays l.body l.initial.path)
    × (l.path ++ all_own (drop l.statement-index l.body) ≡ l.initial.path ++ all_own l.body)
