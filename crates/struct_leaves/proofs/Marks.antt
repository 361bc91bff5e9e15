-- Marks of workflows.
use Rattle.std.proofs.Common.{◌≡◌, ◌+◌, ◌<◌, ◌≤◌, ℕ, zero, suc, true, List, [], ◌∷◌, length, slice_set, refl, ap, ◌∙◌, add-one, arith}
use Rattle.wdl_typed.specs.declared.flow.FlowDef.{FlowDef}
use Rattle.leaf_image.specs.Reached.{Marks, mark, sweep, swept}

pub mark_set : (k : ℕ) (ms : Marks) → k < length ms → slice_set ms k true ≡ mark k ms
mark_set k [] within = absurd (omega (arith, within))
mark_set zero (b ∷ bs) within = refl
mark_set (suc k) (b ∷ bs) within = ap (λ z. b ∷ z) (mark_set k bs (omega (arith, within)))

pub mark_past : (k : ℕ) (ms : Marks) → length ms ≤ k → mark k ms ≡ ms
mark_past k [] past = refl
mark_past zero (b ∷ bs) past = absurd (omega (arith, past))
mark_past (suc k) (b ∷ bs) past = ap (λ z. b ∷ z) (mark_past k bs (omega (arith, past)))

pub swept_none : (flows : List FlowDef) (ms : Marks) → swept flows 0 ms ≡ ms
unfolding swept
swept_none flows ms = refl

deeper : (flows : List FlowDef) (n : ℕ) (ms : Marks) → swept flows (suc n) ms ≡ sweep flows 0 (swept flows n ms)
unfolding swept
deeper flows n ms = refl

pub swept_more : (flows : List FlowDef) (n : ℕ) (ms : Marks) → swept flows (n + 1) ms ≡ sweep flows 0 (swept flows n ms)
swept_more flows n ms = ap (λ k. swept flows k ms) (add-one n) ∙ deeper flows n ms
