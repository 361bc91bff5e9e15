use Rattle.std.proofs.Common.{◌≡◌, ◌≤◌, ℕ, List, length, ap, sym, subst, refl, ◌∙◌, arith}
use Rattle.value_net.specs.Nets.{view}
use Rattle.plan_growth.specs.Entering.{Plot, firsts_of, with_items}
use Rattle.plan_bodies.specs.Joined.{AreFollowed}
use Rattle.plan_bodies.specs.Plots.{plot}
use Rattle.plan_bodies.proofs.Counts.{firsts_followed, items_more}
use Rattle.plan_bodies.proofs.Rooms.{runs_later}
use Rattle.plan_bodies.proofs.items.enter_scatter.Goals as goal

pub gather_block-requires-clause-firsts : goal.gather_block-requires-clause-firsts
gather_block-requires-clause-firsts c =
    let l = c.args.layout.now.inner in
    let same : length (view c.enter_items.new.entered.net).values ≡ length (with_items l c.args.bases.now c.args.place.now c.args.inner.now 0 c.args.items (plot c.args.entered.now)).net.values =
    ap (λ (p : Plot). length p.net.values) c.in_ok-firsts.ensures.entered in
    subst (λ (fs : List ℕ). AreFollowed (length (view c.enter_items.new.entered.net).values) fs c.args.inner.now.cells) (sym (c.as_slice.ensures.value ∙ c.in_ok-firsts.ensures.firsts))
    (subst (λ (n : ℕ). AreFollowed n (firsts_of l c.args.bases.now c.args.place.now c.args.inner.now 0 c.args.items (plot c.args.entered.now)) c.args.inner.now.cells) (sym same)
    (firsts_followed l c.args.bases.now c.args.place.now c.args.inner.now 0 c.args.items (plot c.args.entered.now)))

pub gather_block-requires-clause-runs : goal.gather_block-requires-clause-runs
gather_block-requires-clause-runs c =
    let l = c.args.layout.now.inner in
    let same : length (view c.enter_items.new.entered.net).values ≡ length (with_items l c.args.bases.now c.args.place.now c.args.inner.now 0 c.args.items (plot c.args.entered.now)).net.values =
    ap (λ (p : Plot). length p.net.values) c.in_ok-firsts.ensures.entered in
    let more : length (view c.args.entered.now.net).values ≤ length (with_items l c.args.bases.now c.args.place.now c.args.inner.now 0 c.args.items (plot c.args.entered.now)).net.values =
    items_more l c.args.bases.now c.args.place.now c.args.inner.now 0 c.args.items (plot c.args.entered.now) in
    runs_later (length (view c.args.entered.now.net).values) (length (view c.enter_items.new.entered.net).values) c.args.base c.args.base c.args.layout.now refl (omega (arith, same, more)) c.requires.runs
