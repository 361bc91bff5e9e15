use Rattle.std.proofs.Common.{length}
use Rattle.plan_bodies.specs.Plots.{plot}
use Rattle.plan_bodies.proofs.EnteredItems.{IsOn}
use Rattle.plan_bodies.proofs.items.enter_items.Given as goal

abbrev pub invariant-loop-item : goal.invariant-loop-item
invariant-loop-item l = IsOn l.fn.items l.left l.body l.outer l.place l.layout (plot l.initial.entered) l.entered l.firsts.items

abbrev pub decreases-loop-item : goal.decreases-loop-item
decreases-loop-item l = length l.left
