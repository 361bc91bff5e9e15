-- What a look at a step comes to.
use Rattle.std.proofs.Common.{◌≡◌, ◌<◌, ◌≤◌, ◌⊎◌, inl, inr, ℕ, Bool, true, false, List, [], ◌∷◌, ◌++◌, Some, length, slice_get, get_or, arith, ap, refl, subst, sym, ◌∙◌}
use Rattle.std.specs.List.{slice_set}
use Rattle.std.proofs.lemmas.Bool.{cases_lt}
use Rattle.std.proofs.lemmas.List.{get_or_default}
use Rattle.std.proofs.lemmas.Option.{slice_get_read}
use Rattle.step_net.specs.declared.net.Step.{Step}
use Rattle.step_net.specs.Nets.{IsSound, IsSoundBut, Spans, Watchers, need_is_set}
use Rattle.step_net.proofs.Moves.{taken, watched}

pub read : {A : Type 0} (xs : List A) (i : ℕ) (x : A) → i < length xs → x ≡ get_or xs i x → slice_get xs i ≡ Some x
read xs i x h e = slice_get_read xs (length xs) i x refl h e

abbrev pub moved_to : Step → ℕ → Bool → Step
moved_to x n b = record { start = x.start; next = n; end = x.end; is_taken = b }

-- From the step's next need up to this one, all are set.
abbrev pub AllSet : List Bool → List ℕ → ℕ → ℕ → Type 0
AllSet is_set needs low high = (k : ℕ) → low ≤ k → k < high → need_is_set is_set needs k ≡ true

module _ (is_set : List Bool) (needs : List ℕ) where
  pub same_needs : (bs : List Bool) (ns : List ℕ) → bs ≡ is_set → ns ≡ needs → (low high : ℕ) → AllSet bs ns low high → AllSet is_set needs low high
  same_needs bs ns e f low high h k i j = ap (λ (xs : List Bool). need_is_set xs needs k) (sym e) ∙ ap (λ (ys : List ℕ). need_is_set bs ys k) (sym f) ∙ h k i j

  pub same_need : (bs : List Bool) (ns : List ℕ) → bs ≡ is_set → ns ≡ needs → (k : ℕ) → need_is_set bs ns k ≡ false → need_is_set is_set needs k ≡ false
  same_need bs ns e f k h = ap (λ (xs : List Bool). need_is_set xs needs k) (sym e) ∙ ap (λ (ys : List ℕ). need_is_set bs ys k) (sym f) ∙ h

  pub passed : (x : Step) → Spans is_set needs x → (n : ℕ) → AllSet is_set needs x.next n → AllSet is_set needs x.start n
  passed x s n h k i j = by_case (cases_lt k x.next)
    where
      by_case : (k < x.next) ⊎ (x.next ≤ k) → need_is_set is_set needs k ≡ true
      by_case (inl l) = s.passed k i l
      by_case (inr l) = h k l j

  advanced : (x : Step) → Spans is_set needs x → (n : ℕ) → x.next ≤ n → n ≤ x.end → AllSet is_set needs x.next n → (b : Bool) → Spans is_set needs (moved_to x n b)
  advanced x s n low high h b = record { low = let l = s.low in omega (arith, l, low); high = high; end = s.end; passed = passed x s n h }

  pub took : (watchers : List Watchers) (steps : List Step) (queue : List ℕ) (s : ℕ) (x : Step) (n : ℕ) → slice_get steps s ≡ Some x → IsSoundBut s is_set watchers needs steps queue → x.next ≤ n → n ≤ x.end
      → AllSet is_set needs x.next n → IsSound is_set watchers needs (slice_set steps s (moved_to x n true)) queue
  took watchers steps queue s x n e h low high all =
      taken is_set watchers needs steps queue s x (moved_to x n true) e refl (advanced x (h.fitting.spans s x e) n low high all true) h

  pub missed : (watchers : List Watchers) (steps : List Step) (queue : List ℕ) (s : ℕ) (x : Step) (k cell : ℕ) (list more : Watchers) → slice_get steps s ≡ Some x → IsSoundBut s is_set watchers needs steps queue
      → x.next ≤ k → k < x.end → AllSet is_set needs x.next k → need_is_set is_set needs k ≡ false → cell ≡ get_or needs k 0 → slice_get watchers cell ≡ Some list → more.items ≡ list.items ++ s ∷ []
      → IsSound is_set (slice_set watchers cell more) needs (slice_set steps s (moved_to x k false)) queue
  missed watchers steps queue s x k cell list more e h low high all missing at found is =
      let spans = h.fitting.spans s x e in
      subst (λ (c : ℕ). IsSound is_set (slice_set watchers c more) needs (slice_set steps s (moved_to x k false)) queue) (sym at)
      (watched is_set watchers needs steps queue s k x (moved_to x k false) list more e (advanced x spans k low (let g = high in omega (arith, g)) all false) (let l = spans.low in omega (arith, l, low)) high missing
      (ap (slice_get watchers) (sym at) ∙ found) is h)

pub nil_of : {A : Type 0} (xs : List A) → length xs ≡ 0 → xs ≡ []
nil_of [] h = refl
nil_of (x ∷ xs) h = absurd (omega (arith, h))

pub below_end : (n e l : ℕ) → n ≤ e → (n ≡ e → ⊥) → e ≤ l → n < l
below_end n e l h ne j = omega (arith, h, ne, j)

pub not_at_end : (n e : ℕ) → n ≤ e → (n ≡ e → ⊥) → n < e
not_at_end n e h ne = omega (arith, h, ne)

pub cell_is : (needs : List ℕ) (k cell : ℕ) → k < length needs → cell ≡ get_or needs k cell → cell ≡ get_or needs k 0
cell_is needs k cell h e = e ∙ get_or_default needs k cell 0 h
