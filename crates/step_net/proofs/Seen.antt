-- What moves of a net's lists come to in its view.
use Rattle.std.proofs.Common.{◌≡◌, ◌<◌, ◌≤◌, ℕ, zero, suc, ◌+◌, ◌-◌, ◌&&◌, Bool, true, false, List, [], ◌∷◌, ◌++◌, Some, length, length-drop, map, slice_get, get_or, take, drop, arith, ap, refl, ◌∙◌, subst}
use Rattle.std.specs.List.{list_all, slice_range, slice_set}
use Rattle.std.proofs.Math.Seq.{drop-append_seam, take-length}
use Rattle.std.proofs.lemmas.List.{drop-append-le, get_or-drop, get_or-take, length-take-le, map-append, map-set, take-append-le}
use Rattle.std.proofs.lemmas.List.Folds.{list_all_at}
use Rattle.std.proofs.lemmas.Option.{same_Some}
use Rattle.step_net.specs.declared.net.Step.{Step}
use Rattle.step_net.specs.Nets.{IsSound, IsStuck, Spans, Watchers, need_is_set, set_at, step_of}
use Rattle.step_net.specs.Views.{AllStuck, IsTaken, View, Wants, view_of, wants, with_step}
use Rattle.step_net.proofs.Gets.{get_map, set_own}
use Rattle.step_net.proofs.Looks.{AllSet, moved_to, passed}
use Rattle.step_net.proofs.Moves.{stuck}

all_pass : (p : ℕ → Bool) (xs : List ℕ) → ((k : ℕ) → k < length xs → p (get_or xs k 0) ≡ true) → list_all p xs ≡ true
all_pass p [] h = refl
all_pass p (x ∷ xs) h = ap (λ b. b && list_all p xs) (h 0 (omega arith)) ∙ all_pass p xs (λ k i. h (suc k) (omega (arith, i)))

at_range : (xs : List ℕ) (a b k : ℕ) → k < b - a → get_or (slice_range xs a b) k 0 ≡ get_or xs (a + k) 0
at_range xs a b k h = get_or-take (b - a) (drop a xs) k 0 h ∙ get_or-drop a xs k 0

length_range : (xs : List ℕ) (a b : ℕ) → b ≤ length xs → length (slice_range xs a b) ≡ b - a
length_range xs a b h = length-take-le (b - a) (drop a xs) (let e = length-drop a xs in omega (arith, e, h))

same_range : (xs ys : List ℕ) (a b : ℕ) → a ≤ b → b ≤ length xs → slice_range (xs ++ ys) a b ≡ slice_range xs a b
same_range xs ys a b h j =
    ap (take (b - a)) (drop-append-le a xs ys (omega (arith, h, j)))
    ∙ take-append-le (b - a) (drop a xs) ys (let e = length-drop a xs in omega (arith, e, j))

last_range : (xs ys : List ℕ) → slice_range (xs ++ ys) (length xs) (length xs + length ys) ≡ ys
last_range xs ys =
    ap (take (length xs + length ys - length xs)) (drop-append_seam xs ys)
    ∙ ap (λ n. take n ys) (let e : length xs + length ys - length xs ≡ length ys = omega arith in e) ∙ take-length ys

-- ---- readiness

pub all_ready : (is_set : List Bool) (needs : List ℕ) (a b : ℕ) → b ≤ length needs → AllSet is_set needs a b → list_all (set_at is_set) (slice_range needs a b) ≡ true
all_ready is_set needs a b end h =
    all_pass (set_at is_set) (slice_range needs a b) (λ k i. one k (let e = length_range needs a b end in omega (arith, i, e)))
  where
    one : (k : ℕ) → k < b - a → set_at is_set (get_or (slice_range needs a b) k 0) ≡ true
    one k i = ap (set_at is_set) (at_range needs a b k i) ∙ h (a + k) (omega arith) (omega (arith, i))

pub one_missing : (is_set : List Bool) (needs : List ℕ) (x : Step) → x.end ≤ length needs → IsStuck is_set needs x → list_all (set_at is_set) (slice_range needs x.start x.end) ≡ false
one_missing is_set needs x end (k, low, high, missing) =
    let j : ℕ = k - x.start in
    let lt : j < x.end - x.start = omega (arith, low, high) in
    let at : x.start + j ≡ k = omega (arith, low) in
    list_all_at (set_at is_set) (slice_range needs x.start x.end) j 0 (let e = length_range needs x.start x.end end in omega (arith, lt, e))
    (ap (set_at is_set) (at_range needs x.start x.end j lt) ∙ ap (need_is_set is_set needs) at ∙ missing)

-- ---- looks

pub seen_taken : (is_set : List Bool) (needs : List ℕ) (steps : List Step) (s : ℕ) (x : Step) (n : ℕ) → slice_get steps s ≡ Some x → x.is_taken ≡ false → Spans is_set needs x → n ≡ x.end → AllSet is_set needs x.next n
    → IsTaken (view_of is_set needs steps) s (view_of is_set needs (slice_set steps s (moved_to x n true)))
seen_taken is_set needs steps s x n e fresh spans end all =
    record {
      step = wants needs x;
      there = get_map (wants needs) steps s x e;
      fresh = fresh;
      ready = all_ready is_set needs x.start x.end spans.end (subst (AllSet is_set needs x.start) end (passed is_set needs x spans n all));
      now = ap (λ (ws : List Wants). let v : View = record { cells = is_set; steps = ws } in v) (map-set (wants needs) steps s (moved_to x n true));
    }

pub seen_same : (is_set : List Bool) (needs : List ℕ) (steps : List Step) (s : ℕ) (x : Step) (k : ℕ) → slice_get steps s ≡ Some x → x.is_taken ≡ false
    → view_of is_set needs (slice_set steps s (moved_to x k false)) ≡ view_of is_set needs steps
seen_same is_set needs steps s x k e fresh =
    ap (λ (ws : List Wants). let v : View = record { cells = is_set; steps = ws } in v)
    (map-set (wants needs) steps s (moved_to x k false)
    ∙ set_own (map (wants needs) steps) s (wants needs (moved_to x k false)) (get_map (wants needs) steps s x e ∙ ap (λ b. Some (record { needs = slice_range needs x.start x.end; is_taken = b })) fresh))

-- an element of a mapped list is that of an element
from_map : {A B : Type 0} (f : A → B) (xs : List A) (i : ℕ) (b : B) → slice_get (map f xs) i ≡ Some b → (a : A) × (slice_get xs i ≡ Some a) × (f a ≡ b)
from_map f [] i b h = cc
from_map f (x ∷ xs) zero b h = (x, refl, same_Some _ _ h)
from_map f (x ∷ xs) (suc i) b h = from_map f xs i b h

-- With an empty queue no step that is not taken is ready.
pub seen_stuck : (is_set : List Bool) (watchers : List Watchers) (needs : List ℕ) (steps : List Step) (queue : List ℕ) → queue ≡ [] → IsSound is_set watchers needs steps queue → AllStuck (view_of is_set needs steps)
seen_stuck is_set watchers needs steps queue empty h t w e fresh =
    let found = from_map (wants needs) steps t w e in
    let x : Step = found.0 in
    subst (λ (v : Wants). list_all (set_at is_set) v.needs ≡ false) found.2
    (one_missing is_set needs x (h.fitting.spans t x found.1).end
    (stuck is_set watchers needs steps (subst (IsSound is_set watchers needs steps) empty h) t x found.1 (ap (λ (v : Wants). v.is_taken) found.2 ∙ fresh)))

-- ---- a step more

-- More needs leave the steps as they are seen.
same_steps : (needs more : List ℕ) (steps : List Step) → ((t : ℕ) (x : Step) → slice_get steps t ≡ Some x → (x.start ≤ x.end) × (x.end ≤ length needs)) → map (wants (needs ++ more)) steps ≡ map (wants needs) steps
same_steps needs more [] h = refl
same_steps needs more (x ∷ xs) h =
    ap (λ (ns : List ℕ). (let w : Wants = record { needs = ns; is_taken = x.is_taken } in w) ∷ map (wants (needs ++ more)) xs) (same_range needs more x.start x.end (h 0 x refl).0 (h 0 x refl).1)
    ∙ ap (λ ws. wants needs x ∷ ws) (same_steps needs more xs (λ t y e. h (suc t) y e))

pub seen_step : (is_set : List Bool) (watchers : List Watchers) (needs more : List ℕ) (steps : List Step) (queue : List ℕ) → IsSound is_set watchers needs steps queue
    → view_of is_set (needs ++ more) (steps ++ step_of (length needs) (length more) ∷ []) ≡ with_step (view_of is_set needs steps) more
seen_step is_set watchers needs more steps queue h =
    ap (λ (ws : List Wants). let v : View = record { cells = is_set; steps = ws } in v)
    (map-append (wants (needs ++ more)) steps (step_of (length needs) (length more) ∷ [])
    ∙ ap (λ (ws : List Wants). ws ++ wants (needs ++ more) (step_of (length needs) (length more)) ∷ []) (same_steps needs more steps spans)
    ∙ ap (λ (ns : List ℕ). map (wants needs) steps ++ (let w : Wants = record { needs = ns; is_taken = false } in w) ∷ []) (last_range needs more))
  where
    spans : (t : ℕ) (x : Step) → slice_get steps t ≡ Some x → (x.start ≤ x.end) × (x.end ≤ length needs)
    spans t x e = let s = h.fitting.spans t x e in ((let a = s.low in let b = s.high in omega (arith, a, b)), s.end)
