use Rattle.std.proofs.Common.{◌<◌, ℕ, length, refl, sym, subst}
use Rattle.std.specs.List.{slice_set}
use Rattle.step_net.specs.declared.net.StepNet.{StepNet}
use Rattle.step_net.specs.Nets.{IsSound}
use Rattle.step_net.specs.Views.{IsSoundNet, view}
use Rattle.step_net.proofs.Gets.{get_same}
use Rattle.step_net.proofs.Looks.{read}
use Rattle.step_net.proofs.Moves.{moved, set_now}
use Rattle.step_net.proofs.net.StepNet.set.Goals as goal

has_cell : (n : StepNet) (cell : ℕ) → cell < length (view n).cells → cell < length n.is_set.items
unfolding view
has_cell n cell there = there

has_watchers : (n : StepNet) (cell : ℕ) → cell < length (view n).cells → IsSoundNet n → cell < length n.watchers.items
unfolding IsSoundNet
has_watchers n cell there sound = subst (λ (m : ℕ). cell < m) (sym sound.fitting.same) (has_cell n cell there)

pub index_mut-requires : goal.index_mut-requires
index_mut-requires c =
    let n = c.args.self.now in
    subst (λ (m : ℕ). c.args.cell < m) (sym n.watchers.ok.0) (has_watchers n c.args.cell c.requires.there c.requires.sound)

pub index_mut-requires-2 : goal.index_mut-requires-2
index_mut-requires-2 c =
    let n = c.args.self.now in
    subst (λ (m : ℕ). c.args.cell < m) (sym n.is_set.ok.0) (has_cell n c.args.cell c.requires.there)

pub returns-clause-sound : goal.returns-clause-sound
unfolding IsSoundNet
returns-clause-sound c =
    let n = c.args.self.now in
    let list = c.index_mut.result.now in
    let less = c.append.new.other in
    let lt = has_watchers n c.args.cell c.requires.there c.requires.sound in
    let found = read n.watchers.items c.args.cell list lt c.index_mut.ensures.value in
    set_now n.is_set.items (slice_set n.watchers.items c.args.cell less) n.needs.items n.steps.items c.append.new.self.items c.args.cell less
    (get_same n.watchers.items c.args.cell less lt) c.in_ok-append.ensures.other_items
    (subst (IsSound n.is_set.items (slice_set n.watchers.items c.args.cell less) n.needs.items n.steps.items) (sym c.in_ok-append.ensures.items)
    (moved n.is_set.items n.watchers.items n.needs.items n.steps.items n.queue.items c.args.cell list less found c.in_ok-append.ensures.other_items c.requires.sound))

pub returns-clause-set : goal.returns-clause-set
unfolding view
returns-clause-set c = refl
