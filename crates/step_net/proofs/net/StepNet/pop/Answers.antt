use Rattle.std.proofs.Common.{◌≡◌, ℕ, Bool, List, [], Contains, refl, sym, ◌∙◌, subst}
use Rattle.step_net.specs.Nets.{IsSound}
use Rattle.step_net.specs.Views.{AllStuck, IsSoundNet, IsTaken, Looked, View, view, view_of}
use Rattle.step_net.proofs.Gets.{first_in}
use Rattle.step_net.proofs.Looks.{nil_of}
use Rattle.step_net.proofs.Moves.{popped}
use Rattle.step_net.proofs.Seen.{seen_stuck}
use Rattle.step_net.proofs.net.StepNet.pop.Goals as goal

pub loop-s-init : goal.loop-s-init
unfolding IsSoundNet
loop-s-init c = (c.requires, refl)

pub look-requires-clause-there : goal.look-requires-clause-there
look-requires-clause-there c =
    c.loop-s.invariant.0.fitting.queued c.in-Some.s (subst (λ (xs : List ℕ). Contains xs c.in-Some.s) (sym c.in-Some.ensures.items) (first_in c.pop_front.new.self.items c.in-Some.s))

pub look-requires-clause-sound : goal.look-requires-clause-sound
look-requires-clause-sound c =
    let n = c.loop-s.self in
    popped n.is_set.items n.watchers.items n.needs.items n.steps.items c.pop_front.new.self.items c.in-Some.s
    (subst (IsSound n.is_set.items n.watchers.items n.needs.items n.steps.items) c.in-Some.ensures.items c.loop-s.invariant.0)

pub returns-then-branch-clause-sound : goal.returns-then-branch-clause-sound
unfolding IsSoundNet
returns-then-branch-clause-sound c = c.in_ok-look.ensures.sound

pub loop-s-preserved : goal.loop-s-preserved
unfolding view
loop-s-preserved c =
    let n = c.loop-s.self in
    let same : view c.look.new.self ≡ view_of n.is_set.items n.needs.items n.steps.items =
    subst (λ (b : Bool). Looked (view_of n.is_set.items n.needs.items n.steps.items) c.in-Some.s b (view c.look.new.self)) c.if-branch.false c.in_ok-look.ensures.looked in
    (c.in_ok-look.ensures.sound, same ∙ c.loop-s.invariant.1)

pub returns-then-branch-clause-popped : goal.returns-then-branch-clause-popped
unfolding view
returns-then-branch-clause-popped c =
    let n = c.loop-s.self in
    subst (λ (v : View). IsTaken v c.in-Some.s (view c.look.new.self)) c.loop-s.invariant.1
    (subst (λ (b : Bool). Looked (view_of n.is_set.items n.needs.items n.steps.items) c.in-Some.s b (view c.look.new.self)) c.if-branch.true c.in_ok-look.ensures.looked)

pub returns-clause-sound : goal.returns-clause-sound
unfolding IsSoundNet
returns-clause-sound c =
    let n = c.loop-s.self in
    let old : n.queue.items ≡ [] = nil_of n.queue.items (sym n.queue.ok.0 ∙ c.in_default.ensures.cases.0) in
    let new : c.pop_front.new.self.items ≡ [] = nil_of c.pop_front.new.self.items (sym c.pop_front.new.self.ok.0 ∙ c.in_default.ensures.cases.1) in
    subst (IsSound n.is_set.items n.watchers.items n.needs.items n.steps.items) (old ∙ sym new) c.loop-s.invariant.0

pub returns-clause-popped : goal.returns-clause-popped
unfolding view
returns-clause-popped c =
    let n = c.loop-s.self in (
      c.loop-s.invariant.1,
      subst AllStuck c.loop-s.invariant.1 (seen_stuck n.is_set.items n.watchers.items n.needs.items n.steps.items n.queue.items (nil_of n.queue.items (sym n.queue.ok.0 ∙ c.in_default.ensures.cases.0)) c.loop-s.invariant.0),
    )
