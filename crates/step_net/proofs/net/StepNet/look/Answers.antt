use Rattle.std.proofs.Common.{◌<◌, ℕ, get_or, length, sym, subst}
use Rattle.step_net.specs.Views.{view}
use Rattle.step_net.proofs.Looks.{below_end, cell_is, missed, not_at_end, read, same_need, same_needs, took}
use Rattle.step_net.proofs.Seen.{seen_same, seen_taken}
use Rattle.step_net.proofs.net.StepNet.look.Goals as goal

pub returns-then-next-step-clause-sound : goal.returns-then-next-step-clause-sound
returns-then-next-step-clause-sound c =
    let n = c.args.self.now in
    let e = read n.steps.items c.args.s c.index-step.result.now c.requires.there c.index-step.ensures in
    let f = c.first_missing-next.ensures in
    took n.is_set.items n.needs.items n.watchers.items n.steps.items n.queue.items c.args.s c.index-step.result.now c.first_missing-next.result e c.requires.sound f.low f.high
    (same_needs n.is_set.items n.needs.items c.deref-2.result.now c.deref.result.now c.deref-2.ensures.value c.deref.ensures.value c.index-step.result.now.next c.first_missing-next.result f.before)

pub returns-then-next-step-clause-looked : goal.returns-then-next-step-clause-looked
unfolding view
returns-then-next-step-clause-looked c =
    let n = c.args.self.now in
    let e = read n.steps.items c.args.s c.index-step.result.now c.requires.there c.index-step.ensures in
    seen_taken n.is_set.items n.needs.items n.steps.items c.args.s c.index-step.result.now c.first_missing-next.result e c.if-step.false (c.requires.sound.fitting.spans c.args.s c.index-step.result.now e) c.if-next-step.true
    (same_needs n.is_set.items n.needs.items c.deref-2.result.now c.deref.result.now c.deref-2.ensures.value c.deref.ensures.value c.index-step.result.now.next c.first_missing-next.result c.first_missing-next.ensures.before)

pub index-cell-requires : goal.index-cell-requires
index-cell-requires c =
    let n = c.args.self.now in
    let e = read n.steps.items c.args.s c.index-step.result.now c.requires.there c.index-step.ensures in
    subst (λ (m : ℕ). c.first_missing-next.result < m) (sym n.needs.ok.0)
    (below_end c.first_missing-next.result c.index-step.result.now.end (length n.needs.items) c.first_missing-next.ensures.high c.if-next-step.false (c.requires.sound.fitting.spans c.args.s c.index-step.result.now e).end)

pub index_mut-requires-2 : goal.index_mut-requires-2
index_mut-requires-2 c =
    let n = c.args.self.now in
    let e = read n.steps.items c.args.s c.index-step.result.now c.requires.there c.index-step.ensures in
    let lt = below_end c.first_missing-next.result c.index-step.result.now.end (length n.needs.items) c.first_missing-next.ensures.high c.if-next-step.false (c.requires.sound.fitting.spans c.args.s c.index-step.result.now e).end in
    subst (λ (m : ℕ). c.index-cell.result.now < m) (sym n.watchers.ok.0)
    (subst (λ (m : ℕ). m < length n.watchers.items) (sym (cell_is n.needs.items c.first_missing-next.result c.index-cell.result.now lt c.index-cell.ensures))
    (subst (λ (m : ℕ). get_or n.needs.items c.first_missing-next.result 0 < m) (sym c.requires.sound.fitting.same) (c.requires.sound.fitting.within c.first_missing-next.result lt)))

pub returns-clause-sound : goal.returns-clause-sound
returns-clause-sound c =
    let n = c.args.self.now in
    let x = c.index-step.result.now in
    let k = c.first_missing-next.result in
    let f = c.first_missing-next.ensures in
    let e = read n.steps.items c.args.s x c.requires.there c.index-step.ensures in
    let spans = c.requires.sound.fitting.spans c.args.s x e in
    let lt = below_end k x.end (length n.needs.items) f.high c.if-next-step.false spans.end in
    let at = cell_is n.needs.items k c.index-cell.result.now lt c.index-cell.ensures in
    let high = not_at_end k x.end f.high c.if-next-step.false in
    let cell_lt : c.index-cell.result.now < length n.watchers.items =
    subst (λ (m : ℕ). m < length n.watchers.items) (sym at) (subst (λ (m : ℕ). get_or n.needs.items k 0 < m) (sym c.requires.sound.fitting.same) (c.requires.sound.fitting.within k lt)) in
    missed n.is_set.items n.needs.items n.watchers.items n.steps.items n.queue.items c.args.s x k c.index-cell.result.now c.index_mut-2.result.now c.push_back.new.self e c.requires.sound f.low high
    (same_needs n.is_set.items n.needs.items c.deref-2.result.now c.deref.result.now c.deref-2.ensures.value c.deref.ensures.value x.next k f.before)
    (same_need n.is_set.items n.needs.items c.deref-2.result.now c.deref.result.now c.deref-2.ensures.value c.deref.ensures.value k (f.here high))
    at (read n.watchers.items c.index-cell.result.now c.index_mut-2.result.now cell_lt c.index_mut-2.ensures.value) c.in_ok-push_back.ensures.items

pub returns-clause-looked : goal.returns-clause-looked
unfolding view
returns-clause-looked c =
    let n = c.args.self.now in
    let e = read n.steps.items c.args.s c.index-step.result.now c.requires.there c.index-step.ensures in
    seen_same n.is_set.items n.needs.items n.steps.items c.args.s c.index-step.result.now c.first_missing-next.result e c.if-step.false
