use Rattle.std.proofs.Common.{◌≡◌, ◌<◌, ◌≤◌, ℕ, List, Some, length, get_or, slice_get, arith, ap, subst, sym, ◌∙◌}
use Rattle.std.specs.List.{slice_range}
use Rattle.std.proofs.lemmas.List.{length-map}
use Rattle.std.proofs.lemmas.Option.{same_Some}
use Rattle.step_net.specs.declared.net.Step.{Step}
use Rattle.step_net.specs.declared.net.StepNet.{StepNet}
use Rattle.step_net.specs.Nets.{Spans}
use Rattle.step_net.specs.Views.{IsSoundNet, Wants, view, wants}
use Rattle.step_net.proofs.Gets.{get_map}
use Rattle.step_net.proofs.Looks.{read}
use Rattle.step_net.proofs.net.StepNet.needs_of.Goals as goal

within : (n : StepNet) (s : ℕ) → s < length (view n).steps → s < length n.steps.items
unfolding view
within n s h = subst (λ (m : ℕ). s < m) (length-map n.steps.items (wants n.needs.items)) h

there : (n : StepNet) (s : ℕ) (x : Step) → s < length (view n).steps → x ≡ get_or n.steps.items s x → slice_get n.steps.items s ≡ Some x
there n s x h e = read n.steps.items s x (within n s h) e

span_at : (n : StepNet) (s : ℕ) (x : Step) → s < length (view n).steps → IsSoundNet n → x ≡ get_or n.steps.items s x → Spans n.is_set.items n.needs.items x
unfolding IsSoundNet
span_at n s x h sound e = sound.fitting.spans s x (there n s x h e)

ordered : (n : StepNet) (s : ℕ) (x : Step) → s < length (view n).steps → IsSoundNet n → x ≡ get_or n.steps.items s x → x.start ≤ x.end
ordered n s x h sound e = let p = span_at n s x h sound e in let a = p.low in let b = p.high in omega (arith, a, b)

ending : (n : StepNet) (s : ℕ) (x : Step) (ns : List ℕ) → s < length (view n).steps → IsSoundNet n → x ≡ get_or n.steps.items s x → ns ≡ n.needs.items → x.end ≤ length ns
ending n s x ns h sound e same = subst (λ (xs : List ℕ). x.end ≤ length xs) (sym same) (span_at n s x h sound e).end

needed : (n : StepNet) (s : ℕ) (x : Step) (ns : List ℕ) → s < length (view n).steps → x ≡ get_or n.steps.items s x → ns ≡ n.needs.items → (w : Wants) → slice_get (view n).steps s ≡ Some w → slice_range ns x.start x.end ≡ w.needs
unfolding view
needed n s x ns h e same w found =
    ap (λ (xs : List ℕ). slice_range xs x.start x.end) same
    ∙ ap (λ (v : Wants). v.needs) (same_Some _ _ (sym (get_map (wants n.needs.items) n.steps.items s x (there n s x h e)) ∙ found))

pub index-step-requires : goal.index-step-requires
index-step-requires c = let n = c.args.self.now in subst (λ (m : ℕ). c.args.step < m) (sym n.steps.ok.0) (within n c.args.step c.requires.there)

pub offset_bounds-deref-step : goal.offset_bounds-deref-step
offset_bounds-deref-step c =
    let n = c.args.self.now in
    let a = ordered n c.args.step c.index-step.result.now c.requires.there c.requires.sound c.index-step.ensures in
    let b = ending n c.args.step c.index-step.result.now c.deref.result.now c.requires.there c.requires.sound c.index-step.ensures c.deref.ensures.value in
    let d = c.deref.type_inv.1 in
    omega (arith, a, b, d)

pub slice_bounds-result-count : goal.slice_bounds-result-count
slice_bounds-result-count c = ordered c.args.self.now c.args.step c.index-step.result.now c.requires.there c.requires.sound c.index-step.ensures

pub slice_bounds-result-start : goal.slice_bounds-result-start
slice_bounds-result-start c = ordered c.args.self.now c.args.step c.index-step.result.now c.requires.there c.requires.sound c.index-step.ensures

pub slice_bounds-result-end : goal.slice_bounds-result-end
slice_bounds-result-end c =
    ending c.args.self.now c.args.step c.index-step.result.now c.deref.result.now c.requires.there c.requires.sound c.index-step.ensures c.deref.ensures.value

pub returns : goal.returns
returns c = needed c.args.self.now c.args.step c.index-step.result.now c.deref.result.now c.requires.there c.index-step.ensures c.deref.ensures.value
