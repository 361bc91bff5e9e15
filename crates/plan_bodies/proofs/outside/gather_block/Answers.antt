use Rattle.std.proofs.Common.{◌≡◌, ◌+◌, length, ◌∙◌, arith}
use Rattle.value_net.specs.Nets.{view}
use Rattle.plan_growth.specs.Entering.{all_dones}
use Rattle.plan_bodies.proofs.Counts.{cells_few, ended_count, gathered_count}
use Rattle.plan_bodies.proofs.Dones.{all_dones_there, all_numbers, followed_less}
use Rattle.plan_bodies.proofs.outside.gather_block.Goals as goal

pub all_dones-requires : goal.all_dones-requires
all_dones-requires c =
    all_numbers (length (view c.args.net.now).values) c.args.inner.now.cells c.args.firsts.now c.as_slice.result.now c.args.inner.now.statements c.as_slice.ensures c.requires.firsts (cells_few c.args.net.now) c.requires.inner.dones

pub end_calls-requires-clause-outer : goal.end_calls-requires-clause-outer
end_calls-requires-clause-outer c = λ some.
    let one : length (view c.gather_names.new.net).values ≡ length (view c.args.net.now).values = gathered_count c.args.firsts.now c.args.inner.now.first_name (c.args.base + c.args.layout.now.first_name) c.args.layout.now.names (view c.args.net.now) (view c.gather_names.new.net) c.in_ok-gather_names.ensures.gathers in
    omega (arith, one, c.requires.runs.calls some)

pub end_calls-requires-clause-firsts : goal.end_calls-requires-clause-firsts
end_calls-requires-clause-firsts c =
    followed_less (length (view c.gather_names.new.net).values) (length (view c.args.net.now).values) c.args.inner.now.cells (c.args.inner.now.first_call + c.args.layout.now.calls) c.args.firsts.now
    (gathered_count c.args.firsts.now c.args.inner.now.first_name (c.args.base + c.args.layout.now.first_name) c.args.layout.now.names (view c.args.net.now) (view c.gather_names.new.net) c.in_ok-gather_names.ensures.gathers) c.requires.inner.calls c.requires.firsts

pub overflow_add-into : goal.overflow_add-into
overflow_add-into c = omega (arith, cells_few c.args.net.now, c.requires.runs.done)

pub add_step-requires-clause-there : goal.add_step-requires-clause-there
add_step-requires-clause-there c =
    let one : length (view c.gather_names.new.net).values ≡ length (view c.args.net.now).values = gathered_count c.args.firsts.now c.args.inner.now.first_name (c.args.base + c.args.layout.now.first_name) c.args.layout.now.names (view c.args.net.now) (view c.gather_names.new.net) c.in_ok-gather_names.ensures.gathers in
    let two : length (view c.end_calls.new.net).values ≡ length (view c.gather_names.new.net).values = ended_count c.args.firsts.now c.args.inner.now.first_call (c.args.base + c.args.layout.now.first_call) c.args.layout.now.calls (view c.gather_names.new.net) (view c.end_calls.new.net) c.in_ok-end_calls.ensures.ends in
    let all : c.as_slice-2.result.now ≡ all_dones c.as_slice.result.now c.args.firsts.now = c.as_slice-2.ensures ∙ c.in_ok-dones.ensures in
    all_dones_there (length (view c.end_calls.new.net).values) c.args.inner.now.cells c.args.firsts.now c.as_slice.result.now c.args.inner.now.statements c.as_slice-2.result.now all c.as_slice.ensures
    (followed_less (length (view c.end_calls.new.net).values) (length (view c.args.net.now).values) c.args.inner.now.cells c.args.inner.now.cells c.args.firsts.now (two ∙ one) (omega arith) c.requires.firsts) c.requires.inner.dones
