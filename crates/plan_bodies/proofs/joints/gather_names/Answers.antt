use Rattle.std.proofs.Common.{◌≡◌, ◌<◌, ◌+◌, List, Option, length, ap, ◌∙◌, arith}
use Rattle.wdl_value.specs.declared.value.Value.{Value}
use Rattle.value_net.specs.Nets.{view}
use Rattle.plan_growth.specs.Entering.{Sown}
use Rattle.plan_bodies.proofs.Counts.{all_there, beyond_numbers, cells_few, gathers_keep}
use Rattle.plan_bodies.proofs.joints.gather_names.Goals as goal

pub cells_beyond-requires : goal.cells_beyond-requires
cells_beyond-requires c =
    beyond_numbers (length (view c.args.net.now).values) (c.args.inner + c.loop-k.k) (c.args.inner + c.args.count) c.args.firsts.now c.requires.firsts (omega arith) (cells_few c.args.net.now)

pub overflow_add-base : goal.overflow_add-base
overflow_add-base c = let some : 0 < c.args.count = omega arith in omega (arith, cells_few c.args.net.now, c.requires.outer some)

pub overflow_add-base-in-loop-k : goal.overflow_add-base-in-loop-k
overflow_add-base-in-loop-k c = let some : 0 < c.args.count = omega arith in omega (arith, cells_few c.args.net.now, c.requires.outer some)

pub add_step-requires-clause-there : goal.add_step-requires-clause-there
add_step-requires-clause-there c =
    let same : length (view c.loop-k.net).values ≡ length (view c.args.net.now).values =
    ap (λ (v : Sown). length v.values) c.loop-k.invariant.1 ∙ ap (λ (xs : List (Option Value)). length xs) (gathers_keep c.args.firsts.now c.args.inner (c.args.base + c.args.outer) c.loop-k.k (view c.args.net.now)) in
    all_there (length (view c.loop-k.net).values) (length (view c.args.net.now).values) (c.args.inner + c.loop-k.k) (c.args.inner + c.args.count) c.args.firsts.now c.as_slice.result.now same (c.as_slice.ensures ∙ c.in_ok-cells.ensures) c.requires.firsts (omega arith)
