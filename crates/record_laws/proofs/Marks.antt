-- The workflows that main reaches: what a marked workflow calls is marked in the next round.
use Rattle.std.proofs.Common.{◌≡◌, ℕ, zero, suc, ◌+◌, ◌-◌, ◌≤◌, Bool, true, false, cond, List, [], ◌∷◌, map, Some, slice_get, arith, sym, ap, ◌∙◌, subst, refl}
use Rattle.std.proofs.lemmas.Bool.{false≢true}
use Rattle.wdl_typed.specs.declared.flow.FlowDef.{FlowDef}
use Rattle.wdl_typed.specs.declared.flow.Statement.{Statement, Statement-F, fold-roll-Statement, ind-Statement, map-Statement, roll-Statement}
use Rattle.wdl_typed.specs.declared.flow.Statement.TheOpen as layer
use Rattle.wdl_typed.specs.declared.flow.TCall.{TCall}
use Rattle.wdl_typed.specs.declared.flow.Target.{Target}
use Rattle.wdl_typed.specs.declared.flow.Target.TheVariants as target
use Rattle.wdl_typed.specs.KnownTypes.{is_some}
use Rattle.leaf_image.specs.Inside.{Each, calls_in, calls_of, calls_step}
use Rattle.leaf_image.specs.Reached.{Marking, Marks, is_marked, mark, mark_body, mark_called, mark_target, marking_step, no_marks, reached, sweep, swept, swept_flow}
use Rattle.leaf_image.proofs.Eaches.{each_both, each_by}

-- there is a mark for the workflow
abbrev pub has : Marks → ℕ → Bool
has ms k = is_some (slice_get ms k)

-- no mark goes
pub record Grows (a b : Marks) : Type 0 where
  pub has : (k : ℕ) → has a k ≡ true → has b k ≡ true
  pub marked : (k : ℕ) → is_marked a k ≡ true → is_marked b k ≡ true

grows_same : (a : Marks) → Grows a a
grows_same a = record { has = λ k h. h; marked = λ k h. h }

grows_then : (a b c : Marks) → Grows a b → Grows b c → Grows a c
grows_then a b c f g = record { has = λ k h. g.has k (f.has k h); marked = λ k h. g.marked k (f.marked k h) }

mark_has : (j : ℕ) (ms : Marks) (k : ℕ) → has ms k ≡ true → has (mark j ms) k ≡ true
mark_has j [] k h = h
mark_has zero (b ∷ bs) zero h = refl
mark_has zero (b ∷ bs) (suc k) h = h
mark_has (suc j) (b ∷ bs) zero h = refl
mark_has (suc j) (b ∷ bs) (suc k) h = mark_has j bs k h

mark_keeps : (j : ℕ) (ms : Marks) (k : ℕ) → is_marked ms k ≡ true → is_marked (mark j ms) k ≡ true
mark_keeps j [] k h = h
mark_keeps zero (b ∷ bs) zero h = refl
mark_keeps zero (b ∷ bs) (suc k) h = h
mark_keeps (suc j) (b ∷ bs) zero h = h
mark_keeps (suc j) (b ∷ bs) (suc k) h = mark_keeps j bs k h

mark_itself : (k : ℕ) (ms : Marks) → has ms k ≡ true → is_marked (mark k ms) k ≡ true
mark_itself k [] h = absurd (false≢true h)
mark_itself zero (b ∷ bs) h = refl
mark_itself (suc k) (b ∷ bs) h = mark_itself k bs h

mark_grows : (j : ℕ) (ms : Marks) → Grows ms (mark j ms)
mark_grows j ms = record { has = mark_has j ms; marked = mark_keeps j ms }

target_grows : (t : Target) (ms : Marks) → Grows ms (mark_target t ms)
target_grows (target.Task k) ms = grows_same ms
target_grows (target.Flow k) ms = mark_grows k ms

-- what the call names is marked at the end, where it had a place at the start
abbrev pub Marked : Marks → Marks → TCall → Type 0
Marked start end c = (k : ℕ) → c.target ≡ target.Flow k → has start k ≡ true → is_marked end k ≡ true

marked_later : (a b c d : Marks) → Grows a b → Grows c d → (call : TCall) → Marked b c call → Marked a d call
marked_later a b c d f g call h k e i = g.marked k (h k e (f.has k i))

-- ---- statements

abbrev Holds : Statement → Type 0
Holds st = (ms : Marks) → Grows ms (mark_called st ms) × Each (Marked ms (mark_called st ms)) (calls_of st)

abbrev Known : Type 0
Known = (st : Statement) × Holds st

abbrev firsts : List Known → List Statement
firsts = map (λ (k : Known). k.0)

abbrev plain : Statement-F Known → Statement-F Statement
plain = map-Statement Known Statement (λ (k : Known). k.0)

body_marks : (ks : List Known) (ms : Marks) → Grows ms (mark_body (firsts ks) ms) × Each (Marked ms (mark_body (firsts ks) ms)) (calls_in (firsts ks))
body_marks [] ms = (grows_same ms, tt)
body_marks (k ∷ ks) ms =
    let one : Marks = mark_called k.0 ms in
    let all : Marks = mark_body (firsts ks) one in
    let a = k.1 ms in
    let b = body_marks ks one in (
      grows_then ms one all a.0 b.0,
      each_both (Marked ms all) (calls_of k.0) (calls_in (firsts ks))
          (each_by (Marked ms one) (Marked ms all) (marked_later ms ms one all (grows_same ms) b.0) (calls_of k.0) a.1)
          (each_by (Marked one all) (Marked ms all) (marked_later ms one all all a.0 (grows_same all)) (calls_in (firsts ks)) b.1),
    )

call_marks : (c : TCall) (ms : Marks) → Marked ms (mark_target c.target ms) c
call_marks c ms k e h = subst (λ (t : Target). is_marked (mark_target t ms) k ≡ true) (sym e) (mark_itself k ms h)

by_layer : (y : Statement-F Known) (ms : Marks)
    → Grows ms (marking_step (map-Statement Statement Marking mark_called (plain y)) ms)
    × Each (Marked ms (marking_step (map-Statement Statement Marking mark_called (plain y)) ms)) (calls_step (map-Statement Statement (List TCall) calls_of (plain y)))
by_layer (layer.Decl d) ms = (grows_same ms, tt)
by_layer (layer.Call c) ms = (target_grows c.target ms, (call_marks c ms, tt))
by_layer (layer.Scatter s) ms = body_marks s.body ms
by_layer (layer.If i) ms = body_marks i.body ms

statement_marks : (st : Statement) → Holds st
statement_marks = ind-Statement Holds (λ x y is. subst (λ (z : Statement-F Statement). Holds (roll-Statement z)) is (λ ms.
    subst (λ (f : Marking). Grows ms (f ms) × Each (Marked ms (f ms)) (calls_of (roll-Statement (plain y)))) (sym (fold-roll-Statement Marking marking_step (plain y)))
    (subst (λ (cs : List TCall). Grows ms (marking_step (map-Statement Statement Marking mark_called (plain y)) ms) × Each (Marked ms (marking_step (map-Statement Statement Marking mark_called (plain y)) ms)) cs)
    (sym (fold-roll-Statement (List TCall) calls_step (plain y))) (by_layer y ms))))

abbrev with_facts : List Statement → List Known
with_facts [] = []
with_facts (t ∷ ss) = (t, statement_marks t) ∷ with_facts ss

firsts_are : (ss : List Statement) → firsts (with_facts ss) ≡ ss
firsts_are [] = refl
firsts_are (t ∷ ss) = ap (λ (ts : List Statement). t ∷ ts) (firsts_are ss)

all_marks : (ss : List Statement) (ms : Marks) → Grows ms (mark_body ss ms) × Each (Marked ms (mark_body ss ms)) (calls_in ss)
all_marks ss ms = subst (λ (ts : List Statement). Grows ms (mark_body ts ms) × Each (Marked ms (mark_body ts ms)) (calls_in ts)) (firsts_are ss) (body_marks (with_facts ss) ms)

-- ---- sweeps

flow_grows : (f : FlowDef) (k : ℕ) (ms : Marks) → Grows ms (swept_flow f k ms)
flow_grows f k ms = by_mark (is_marked ms k)
  where
    by_mark : (b : Bool) → Grows ms (cond b (mark_body f.body ms) ms)
    by_mark true = (all_marks f.body ms).0
    by_mark false = grows_same ms

sweep_grows : (fs : List FlowDef) (k : ℕ) (ms : Marks) → Grows ms (sweep fs k ms)
sweep_grows [] k ms = grows_same ms
sweep_grows (f ∷ fs) k ms = grows_then ms (swept_flow f k ms) (sweep fs (k + 1) (swept_flow f k ms)) (flow_grows f k ms) (sweep_grows fs (k + 1) (swept_flow f k ms))

flow_marks : (f : FlowDef) (k : ℕ) (ms : Marks) → is_marked ms k ≡ true → Each (Marked ms (swept_flow f k ms)) (calls_in f.body)
flow_marks f k ms h = by_mark (is_marked ms k) h
  where
    by_mark : (b : Bool) → b ≡ true → Each (Marked ms (cond b (mark_body f.body ms) ms)) (calls_in f.body)
    by_mark true e = (all_marks f.body ms).1
    by_mark false e = absurd (false≢true e)

sweep_marks : (fs : List FlowDef) (k i j : ℕ) (ms : Marks) (f : FlowDef) → i ≡ k + j → slice_get fs j ≡ Some f → is_marked ms i ≡ true → Each (Marked ms (sweep fs k ms)) (calls_in f.body)
sweep_marks [] k i j ms f e is h = cc
sweep_marks (g ∷ fs) k i zero ms f e is h =
    let same : g ≡ f = cc in
    let here : i ≡ k = omega (arith, e) in
    let one : Marks = swept_flow g k ms in
    let all : Marks = sweep fs (k + 1) one in
    subst (λ (z : FlowDef). Each (Marked ms all) (calls_in z.body)) same
    (each_by (Marked ms one) (Marked ms all) (marked_later ms ms one all (grows_same ms) (sweep_grows fs (k + 1) one)) (calls_in g.body)
    (flow_marks g k ms (ap (is_marked ms) (sym here) ∙ h)))
sweep_marks (g ∷ fs) k i (suc j) ms f e is h =
    let one : Marks = swept_flow g k ms in
    let all : Marks = sweep fs (k + 1) one in
    let there : i ≡ (k + 1) + j = omega (arith, e) in
    each_by (Marked one all) (Marked ms all) (marked_later ms one all all (flow_grows g k ms) (grows_same all)) (calls_in f.body)
    (sweep_marks fs (k + 1) i j one f there is ((flow_grows g k ms).marked i h))

-- ---- rounds

module _ (flows : List FlowDef) (main : ℕ) where
  unfoldable pub round : ℕ → Marks
  round n = swept flows n (mark main (no_marks flows))

  one_more : (n : ℕ) → round (suc n) ≡ sweep flows 0 (round n)
  unfolding round swept
  one_more n = refl

  round_grows : (n : ℕ) → Grows (round n) (round (suc n))
  round_grows n = subst (Grows (round n)) (sym (one_more n)) (sweep_grows flows 0 (round n))

  later_grows : (d n m : ℕ) → m ≡ d + n → Grows (round n) (round m)
  later_grows zero n m e = let same : n ≡ m = omega (arith, e) in subst (λ (k : ℕ). Grows (round n) (round k)) same (grows_same (round n))
  later_grows (suc d) n m e =
      let next : m ≡ suc (d + n) = omega (arith, e) in
      subst (λ (k : ℕ). Grows (round n) (round k)) (sym next) (grows_then (round n) (round (d + n)) (round (suc (d + n))) (later_grows d n (d + n) refl) (round_grows (d + n)))

  no_marks_has : (fs : List FlowDef) (k : ℕ) (f : FlowDef) → slice_get fs k ≡ Some f → has (no_marks fs) k ≡ true
  no_marks_has [] k f e = cc
  no_marks_has (g ∷ fs) zero f e = refl
  no_marks_has (g ∷ fs) (suc k) f e = no_marks_has fs k f e

  start_is : round 0 ≡ mark main (no_marks flows)
  unfolding round swept
  start_is = refl

  round_has : (n k : ℕ) (f : FlowDef) → slice_get flows k ≡ Some f → has (round n) k ≡ true
  round_has n k f e = (later_grows n 0 n (omega arith)).has k (ap (λ (ms : Marks). has ms k) start_is ∙ mark_has main (no_marks flows) k (no_marks_has flows k f e))

  pub main_marked : (f : FlowDef) → slice_get flows main ≡ Some f → is_marked (round 0) main ≡ true
  main_marked f e = ap (λ (ms : Marks). is_marked ms main) start_is ∙ mark_itself main (no_marks flows) (no_marks_has flows main f e)

  -- a call of a workflow that is there names one that is marked
  abbrev pub Reaches : ℕ → TCall → Type 0
  Reaches n c = (k : ℕ) (g : FlowDef) → c.target ≡ target.Flow k → slice_get flows k ≡ Some g → is_marked (round n) k ≡ true

  pub callees_marked : (n k : ℕ) (f : FlowDef) → slice_get flows k ≡ Some f → is_marked (round n) k ≡ true → Each (Reaches (suc n)) (calls_in f.body)
  callees_marked n k f e h =
      each_by (Marked (round n) (round (suc n))) (Reaches (suc n)) (λ c m j g t i. m j t (round_has n j g i)) (calls_in f.body)
      (subst (λ (ms : Marks). Each (Marked (round n) ms) (calls_in f.body)) (sym (one_more n)) (sweep_marks flows 0 k k (round n) f (omega arith) e h))

  last_is : round 25 ≡ reached flows main
  unfolding round
  last_is = refl

  pub marked_reached : (n k : ℕ) → n ≤ 25 → is_marked (round n) k ≡ true → is_marked (reached flows main) k ≡ true
  marked_reached n k below h = ap (λ (ms : Marks). is_marked ms k) (sym last_is) ∙ by_rest (25 - n) (omega (arith, below))
    where
      by_rest : (d : ℕ) → 25 ≡ d + n → is_marked (round 25) k ≡ true
      by_rest d e = (later_grows d n 25 e).marked k h
