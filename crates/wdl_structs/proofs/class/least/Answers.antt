use Rattle.std.proofs.Common.{◌<◌, ◌≤◌, ap, ◌∙◌, length, get_or, arith}
use Rattle.wdl_structs.specs.Classes.{root}
use Rattle.wdl_structs.proofs.ClassLaws.{parent_within, root_parent, root_here}
use Rattle.wdl_structs.proofs.class.least.Goals as goal

pub loop-at-preserved : goal.loop-at-preserved
loop-at-preserved c =
    let ps = c.args.parents.now in
    let l = c.loop-at in
    let below : l.at ≤ c.args.number = l.invariant.0 in
    let within : l.at < length ps = l.invariant.1 in
    let test : get_or ps l.at 0 < l.at = c.loop-at-test.true in (
      omega (arith, below, test),
      omega (arith, within, test),
      ap (root ps) (parent_within ps l.at within) ∙ root_parent ps l.at c.requires.low ∙ l.invariant.2,
    )

pub returns-clause-root : goal.returns-clause-root
returns-clause-root c =
    let l = c.loop-at in
    root_here c.args.parents.now l.at c.args.number c.requires.low l.invariant.1 c.loop-at-test.false l.invariant.2
