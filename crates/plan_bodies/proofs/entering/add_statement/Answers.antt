use Rattle.std.proofs.Common.{◌<◌, ◌^◌, List, length, subst, sym, ◌∙◌, arith}
use Rattle.value_net.specs.Nets.{view}
use Rattle.plan_layout.specs.declared.layout.Need.{Need}
use Rattle.plan_room.specs.Reached.{AreReached}
use Rattle.plan_bodies.proofs.Counts.{cells_few}
use Rattle.plan_bodies.proofs.Reach.{cells_there, reached_wide}
use Rattle.plan_bodies.proofs.entering.add_statement.Goals as goal

pub cells_of-requires-clause-needs : goal.cells_of-requires-clause-needs
cells_of-requires-clause-needs c =
    let few : length (view c.args.net.now).values < 2 ^ 64 = cells_few c.args.net.now in
    let h : AreReached (length (view c.args.net.now).values) c.args.bases.now c.as_slice.result.now = subst (λ (ns : List Need). AreReached (length (view c.args.net.now).values) c.args.bases.now ns) (sym c.as_slice.ensures) c.requires.needs in
    reached_wide (length (view c.args.net.now).values) (2 ^ 64) c.args.bases.now c.as_slice.result.now (omega (arith, few)) h

pub cells_of-requires-clause-after : goal.cells_of-requires-clause-after
cells_of-requires-clause-after c =
    let few : length (view c.args.net.now).values < 2 ^ 64 = cells_few c.args.net.now in
    let h : AreReached (length (view c.args.net.now).values) c.args.bases.now c.as_slice-2.result.now = subst (λ (ns : List Need). AreReached (length (view c.args.net.now).values) c.args.bases.now ns) (sym c.as_slice-2.ensures) c.requires.after in
    reached_wide (length (view c.args.net.now).values) (2 ^ 64) c.args.bases.now c.as_slice-2.result.now (omega (arith, few)) h

pub add_step-requires-clause-there : goal.add_step-requires-clause-there
add_step-requires-clause-there c =
    let h : AreReached (length (view c.args.net.now).values) c.args.bases.now c.as_slice.result.now = subst (λ (ns : List Need). AreReached (length (view c.args.net.now).values) c.args.bases.now ns) (sym c.as_slice.ensures) c.requires.needs in
    let g : AreReached (length (view c.args.net.now).values) c.args.bases.now c.as_slice-2.result.now = subst (λ (ns : List Need). AreReached (length (view c.args.net.now).values) c.args.bases.now ns) (sym c.as_slice-2.ensures) c.requires.after in
    cells_there (length (view c.args.net.now).values) c.args.bases.now c.as_slice.result.now c.as_slice-2.result.now c.as_slice-3.result.now (c.as_slice-3.ensures ∙ c.in_ok-cells.ensures) h g
