use Rattle.std.proofs.Common.{Bool, false, List, [], ◌∷◌, ◌++◌, ap, sym, ◌∙◌, subst}
use Rattle.step_net.specs.Nets.{IsSound, Watchers}
use Rattle.step_net.specs.Views.{IsSoundNet, view, view_of}
use Rattle.step_net.proofs.Growth.{with_cell}
use Rattle.step_net.proofs.net.StepNet.cell.Goals as goal

pub returns-clause-sound : goal.returns-clause-sound
unfolding IsSoundNet
returns-clause-sound c =
    let n = c.args.self.now in
    subst (λ (xs : List Bool). IsSound xs c.push.new.self.items n.needs.items n.steps.items n.queue.items) (sym c.in_ok-push-2.ensures.items)
    (subst (λ (ws : List Watchers). IsSound (n.is_set.items ++ false ∷ []) ws n.needs.items n.steps.items n.queue.items) (sym c.in_ok-push.ensures.items)
    (with_cell n.is_set.items n.watchers.items n.needs.items n.steps.items n.queue.items c.new.result c.new.ensures.items c.requires))

pub returns-clause-number : goal.returns-clause-number
unfolding view
returns-clause-number c = c.len-number.ensures ∙ c.args.self.now.is_set.ok.0

pub returns-clause-cell : goal.returns-clause-cell
unfolding view
returns-clause-cell c =
    let n = c.args.self.now in
    ap (λ (xs : List Bool). view_of xs n.needs.items n.steps.items) c.in_ok-push-2.ensures.items
