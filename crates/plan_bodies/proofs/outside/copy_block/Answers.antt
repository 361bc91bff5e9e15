use Rattle.std.proofs.Common.{◌≡◌, ℕ, ◌+◌, List, ◌++◌, length, ap, ◌∙◌, arith}
use Rattle.value_net.specs.Nets.{view}
use Rattle.plan_growth.specs.Entering.{dones_at}
use Rattle.plan_bodies.proofs.Counts.{cells_few, copied_count}
use Rattle.plan_bodies.proofs.Dones.{dones_numbers, dones_there}
use Rattle.plan_bodies.proofs.outside.copy_block.Goals as goal

pub push_dones-requires : goal.push_dones-requires
push_dones-requires c =
    dones_numbers c.args.first c.args.inner.now.cells (length (view c.args.net.now).values) c.as_slice.result.now c.args.inner.now.statements c.as_slice.ensures c.requires.first (cells_few c.args.net.now) c.requires.inner.dones

pub copy_cells-requires-2-clause-inner : goal.copy_cells-requires-2-clause-inner
copy_cells-requires-2-clause-inner c = λ some.
    let one : length (view c.copy_cells.new.net).values ≡ length (view c.args.net.now).values = copied_count (c.args.first + c.args.inner.now.first_name) (c.args.base + c.args.layout.now.first_name) c.args.layout.now.names (view c.args.net.now) (view c.copy_cells.new.net) c.in_ok-copy_cells.ensures.copies in
    omega (arith, one, c.requires.first, c.requires.inner.calls)

pub copy_cells-requires-2-clause-outer : goal.copy_cells-requires-2-clause-outer
copy_cells-requires-2-clause-outer c = λ some.
    let one : length (view c.copy_cells.new.net).values ≡ length (view c.args.net.now).values = copied_count (c.args.first + c.args.inner.now.first_name) (c.args.base + c.args.layout.now.first_name) c.args.layout.now.names (view c.args.net.now) (view c.copy_cells.new.net) c.in_ok-copy_cells.ensures.copies in
    omega (arith, one, c.requires.runs.calls some)

pub overflow_add-into : goal.overflow_add-into
overflow_add-into c = omega (arith, cells_few c.args.net.now, c.requires.runs.done)

pub add_step-requires-clause-there : goal.add_step-requires-clause-there
add_step-requires-clause-there c =
    let one : length (view c.copy_cells.new.net).values ≡ length (view c.args.net.now).values = copied_count (c.args.first + c.args.inner.now.first_name) (c.args.base + c.args.layout.now.first_name) c.args.layout.now.names (view c.args.net.now) (view c.copy_cells.new.net) c.in_ok-copy_cells.ensures.copies in
    let two : length (view c.copy_cells-2.new.net).values ≡ length (view c.copy_cells.new.net).values = copied_count (c.args.first + c.args.inner.now.first_call) (c.args.base + c.args.layout.now.first_call) c.args.layout.now.calls (view c.copy_cells.new.net) (view c.copy_cells-2.new.net) c.in_ok-copy_cells-2.ensures.copies in
    let all : c.as_slice-2.result.now ≡ dones_at c.args.first c.as_slice.result.now =
    c.as_slice-2.ensures ∙ c.in_ok-push_dones.ensures ∙ ap (λ (ds : List ℕ). ds ++ dones_at c.args.first c.as_slice.result.now) c.new-dones.ensures in
    dones_there c.args.first c.args.inner.now.cells (length (view c.copy_cells-2.new.net).values) c.as_slice.result.now c.args.inner.now.statements c.as_slice-2.result.now all c.as_slice.ensures (omega (arith, one, two, c.requires.first)) c.requires.inner.dones
