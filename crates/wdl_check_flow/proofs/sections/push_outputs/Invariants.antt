use Rattle.std.proofs.Common.{◌≡◌, ◌++◌, drop, map}
use Rattle.wdl_check_flow.proofs.sections.push_outputs.Given as goal

abbrev pub invariant-loop-item : goal.invariant-loop-item
invariant-loop-item l = map (λ d. d.now) l.list.items ++ drop l.item-index l.items ≡ map (λ d. d.now) l.initial.list.items ++ l.items
