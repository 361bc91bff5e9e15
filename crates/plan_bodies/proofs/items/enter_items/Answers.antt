use Rattle.std.proofs.Common.{ℕ, List, ◌++◌, ◌∷◌, [], length, ap, ◌∙◌, refl}
use Rattle.value_net.specs.Nets.{view}
use Rattle.wdl_base.specs.declared.place.Segment.{Segment}
use Rattle.wdl_base.specs.declared.place.Segment.TheVariants as segment
use Rattle.plan_growth.specs.Entering.{with_item}
use Rattle.plan_bodies.specs.Plots.{plot}
use Rattle.plan_bodies.proofs.EnteredItems.{all_entered, all_firsts, begins_on, goes_on}
use Rattle.plan_bodies.proofs.Rooms.{room_later}
use Rattle.plan_bodies.proofs.items.enter_items.Goals as goal

pub loop-item-init : goal.loop-item-init
loop-item-init c =
    begins_on c.args.items c.args.body c.args.outer.now c.args.place.now c.args.layout.now (plot c.args.entered.now) c.in_ok-left.left c.args.entered.now c.new-firsts.result.items c.in_ok-left.ensures c.new-firsts.ensures.items
    c.requires.sound refl

pub loop-item-preserved : goal.loop-item-preserved
loop-item-preserved c =
    goes_on c.args.items c.args.body c.args.outer.now c.args.place.now c.args.layout.now (plot c.args.entered.now) c.loop-item.left c.pop.new.self c.loop-item.entered c.enter_item.new.entered c.loop-item.firsts.items
    c.push.new.self.items c.in_ok-enter_item.field-0 c.in-Some.item c.loop-item.invariant c.in-Some.ensures c.in_ok-push.ensures.items c.in_ok-enter_item.ensures.first c.in_ok-enter_item.ensures.sound
    (c.in_ok-enter_item.ensures.entered
    ∙ ap (λ (p : List Segment). with_item c.args.body c.args.outer.now p c.args.layout.now c.in-Some.item (plot c.loop-item.entered))
    (c.in_ok-place.ensures ∙ ap (λ (n : ℕ). c.args.place.now ++ segment.Index n ∷ []) (c.len.ensures ∙ c.loop-item.firsts.ok.0)))

pub enter_item-requires-clause-room : goal.enter_item-requires-clause-room
enter_item-requires-clause-room c =
    room_later (length (view c.args.entered.now.net).values) (length (view c.loop-item.entered.net).values) c.args.outer.now c.args.layout.now c.loop-item.invariant.more c.requires.room

pub returns-clause-firsts : goal.returns-clause-firsts
returns-clause-firsts c =
    all_firsts c.args.items c.args.body c.args.outer.now c.args.place.now c.args.layout.now (plot c.args.entered.now) c.loop-item.left c.loop-item.entered c.loop-item.firsts.items c.loop-item.invariant c.in_default.ensures.0

pub returns-clause-entered : goal.returns-clause-entered
returns-clause-entered c =
    all_entered c.args.items c.args.body c.args.outer.now c.args.place.now c.args.layout.now (plot c.args.entered.now) c.loop-item.left c.loop-item.entered c.loop-item.firsts.items c.loop-item.invariant c.in_default.ensures.0
