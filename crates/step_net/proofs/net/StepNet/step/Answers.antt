use Rattle.std.proofs.Common.{◌≡◌, ℕ, ◌+◌, false, List, [], ◌∷◌, ◌++◌, length, length-append, sym, ap, ◌∙◌, subst}
use Rattle.step_net.specs.declared.net.Step.{Step}
use Rattle.step_net.specs.Nets.{IsSound, step_of}
use Rattle.step_net.specs.Views.{IsSoundNet, view, view_of, wants}
use Rattle.std.proofs.lemmas.List.{length-map}
use Rattle.step_net.proofs.Growth.{with_step}
use Rattle.step_net.proofs.Seen.{seen_step}
use Rattle.step_net.proofs.net.StepNet.step.Goals as goal

made : (a b s e : ℕ) → s ≡ a → e ≡ a + b → (let x : Step = record { start = s; next = s; end = e; is_taken = false } in x ≡ step_of a b)
made a b s e p q =
    ap (λ (n : ℕ). let x : Step = record { start = n; next = n; end = e; is_taken = false } in x) p
    ∙ ap (λ (m : ℕ). let x : Step = record { start = a; next = a; end = m; is_taken = false } in x) q

pub returns-clause-number : goal.returns-clause-number
unfolding view
returns-clause-number c = let n = c.args.self.now in c.len-number.ensures ∙ n.steps.ok.0 ∙ sym (length-map n.steps.items (wants n.needs.items))

pub returns-clause-sound : goal.returns-clause-sound
unfolding IsSoundNet view
returns-clause-sound c =
    let n = c.args.self.now in
    let all = n.needs.items ++ c.args.needs.now in
    let number : c.len-number.result ≡ length n.steps.items = c.len-number.ensures ∙ n.steps.ok.0 in
    let start : c.len-start.result ≡ length n.needs.items = c.len-start.ensures ∙ n.needs.ok.0 in
    let end : c.len-end.result ≡ length n.needs.items + length c.args.needs.now =
    c.len-end.ensures ∙ c.extend_from_slice.new.self.ok.0 ∙ ap length c.in_ok-extend_from_slice.ensures.items ∙ length-append n.needs.items c.args.needs.now in
    let step = step_of (length n.needs.items) (length c.args.needs.now) in
    subst (λ (xs : List ℕ). IsSound n.is_set.items n.watchers.items xs c.push.new.self.items c.push_back.new.self.items) (sym c.in_ok-extend_from_slice.ensures.items)
    (subst (λ (xs : List Step). IsSound n.is_set.items n.watchers.items all xs c.push_back.new.self.items)
    (sym (c.in_ok-push.ensures.items ∙ ap (λ (x : Step). n.steps.items ++ x ∷ []) (made (length n.needs.items) (length c.args.needs.now) c.len-start.result c.len-end.result start end)))
    (subst (λ (xs : List ℕ). IsSound n.is_set.items n.watchers.items all (n.steps.items ++ step ∷ []) xs)
    (sym (c.in_ok-push_back.ensures.items ∙ ap (λ (k : ℕ). n.queue.items ++ k ∷ []) number))
    (with_step n.is_set.items n.watchers.items n.needs.items c.args.needs.now n.steps.items n.queue.items c.requires.there c.requires.sound)))

pub returns-clause-step : goal.returns-clause-step
unfolding IsSoundNet view
returns-clause-step c =
    let n = c.args.self.now in
    let all = n.needs.items ++ c.args.needs.now in
    let start : c.len-start.result ≡ length n.needs.items = c.len-start.ensures ∙ n.needs.ok.0 in
    let end : c.len-end.result ≡ length n.needs.items + length c.args.needs.now =
    c.len-end.ensures ∙ c.extend_from_slice.new.self.ok.0 ∙ ap length c.in_ok-extend_from_slice.ensures.items ∙ length-append n.needs.items c.args.needs.now in
    let pushed : c.push.new.self.items ≡ n.steps.items ++ step_of (length n.needs.items) (length c.args.needs.now) ∷ [] =
    c.in_ok-push.ensures.items ∙ ap (λ (x : Step). n.steps.items ++ x ∷ []) (made (length n.needs.items) (length c.args.needs.now) c.len-start.result c.len-end.result start end) in
    ap (λ (xs : List ℕ). view_of n.is_set.items xs c.push.new.self.items) c.in_ok-extend_from_slice.ensures.items
    ∙ ap (view_of n.is_set.items all) pushed
    ∙ seen_step n.is_set.items n.watchers.items n.needs.items c.args.needs.now n.steps.items n.queue.items c.requires.sound
