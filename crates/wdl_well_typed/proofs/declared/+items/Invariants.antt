use Rattle.std.proofs.Common.{◌≡◌, drop}
use Rattle.wdl_typed.specs.Bodies.{items_differ}
use Rattle.wdl_well_typed.proofs.declared.+items.Given as goal

abbrev pub invariant-items_differ-loop-statement : goal.invariant-items_differ-loop-statement
invariant-items_differ-loop-statement l =
    (l.taken ≡ l.initial.taken)
    × (items_differ (drop l.statement-index l.body) l.taken ≡ items_differ l.body l.initial.taken)
