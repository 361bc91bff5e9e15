use Rattle.std.proofs.Common.{◌≡◌, ◌++◌, drop, map}
use Rattle.wdl_check_task.proofs.sections.push_all.Given as goal

abbrev pub invariant-loop-item : goal.invariant-loop-item
invariant-loop-item g l =
    map (λ p. p.now) l.list.items ++ drop l.item-index l.items ≡ map (λ p. p.now) l.fn.list.items ++ l.items
