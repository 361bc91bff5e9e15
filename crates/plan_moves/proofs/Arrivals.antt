-- Moves of answers that arrive.
use Rattle.std.proofs.Common.{◌≡◌, ◌+◌, ℕ, true, false, List, [], ◌∷◌, ◌++◌, Option, Some, slice_get, arith, ap, refl, subst, sym, ◌∙◌}
use Rattle.std.proofs.lemmas.Bool.{true≢false}
use Rattle.std.proofs.lemmas.Option.{same_Some}
use Rattle.wdl_base.specs.declared.place.Segment.{Segment}
use Rattle.wdl_base.specs.declared.place.Segment.TheVariants as segment
use Rattle.wdl_value.specs.declared.value.Value.{Value}
use Rattle.wdl_value.specs.Tables.{Row}
use Rattle.wdl_typed.specs.declared.flow.Statement.{Statement, Statement-F, out-Statement}
use Rattle.wdl_typed.specs.declared.flow.Statement.TheOpen as layer
use Rattle.wdl_typed.specs.declared.flow.Statement.TheVariants as stmt
use Rattle.wdl_typed.specs.declared.flow.TCall.{TCall}
use Rattle.wdl_typed.specs.Bodies.{Library}
use Rattle.wdl_typed.specs.Flow.{Flowing}
use Rattle.value_net.specs.Nets.{value_at}
use Rattle.net_laws.specs.Growing.{CallNeeded, Form, Rule, are_set, copies, declares, does, ends, gathers, told_call}
use Rattle.net_laws.specs.Askers.{askers}
use Rattle.net_laws.specs.Cost.{TaskCost}
use Rattle.net_laws.specs.Moving.{AskedAt, Grows, OthersAnswered, Turn, TurnLeaves, TurnSpends, TurnWeighs, Untouched, at_step}
use Rattle.net_laws.specs.Net.{Given, Scope, Work, flowing_of}
use Rattle.net_laws.specs.Roots.{IsRoot}
use Rattle.net_laws.proofs.Asking.{others_elsewhere}
use Rattle.net_laws.proofs.Callable.{root_callable}
use Rattle.net_laws.proofs.Moves.{asked_kept, leaves, moved, spends, weighed}
use Rattle.plan_moves.specs.Laws.{AnswersArrive, HasAnswered, TellsCall}
use Rattle.plan_moves.specs.Sheets.{Grown, IsArrival, Sheet, needs_in, rules_of, state_of, taken_in}
use Rattle.plan_moves.proofs.Kept.{sets_kept, value_in}
use Rattle.plan_moves.proofs.Needed.{follows_on, plain_on}

-- A flow has one work.
same_work : (cells : ℕ → Option Value) (g : Given) (v w : Work) → flowing_of cells g v ≡ flowing_of cells g w → v ≡ w
same_work cells g v w e =
    ap (λ (f : Flowing). (let u : Work = record { jobs = f.jobs; codes = f.codes; faults = f.faults; waits = f.waits; count = f.count } in u)) e

module _ (lib : Library) (site : List ℕ) (rows later : List Row) (t : ℕ) (a b : Sheet) (mine : List ℕ) (x0 : TCall) (s0 : Scope) (g0 : Given) (d0 : ℕ) (v w : Work) (m : IsArrival rows later (s0.place ++ segment.Call x0.name ∷ []) t a mine b)
    (is : slice_get a.rules t ≡ Some (does (stmt.Call x0) s0 g0 d0)) (was : TellsCall lib site rows a x0 s0 g0 v) (now : TellsCall lib site later b x0 s0 g0 w) where
  not_left : taken_in (slice_get a.steps t) ≡ false → ⊥
  not_left h = true≢false (sym m.taken ∙ h)

  rule_same : (u : ℕ) (r : Rule) → slice_get a.rules u ≡ Some r → slice_get b.rules u ≡ Some r
  rule_same u r e = ap (λ (rs : List Rule). slice_get rs u) m.rules ∙ e

  taken_same : (u : ℕ) → taken_in (slice_get b.steps u) ≡ taken_in (slice_get a.steps u)
  taken_same u = ap (λ ws. taken_in (slice_get ws u)) m.steps

  needs_same : (u : ℕ) → needs_in (slice_get b.steps u) ≡ needs_in (slice_get a.steps u)
  needs_same u = ap (λ ws. needs_in (slice_get ws u)) m.steps

  kept : Grows lib site rows later (rules_of a) (rules_of b) (state_of a mine) (state_of b mine)
  kept =
      record {
        cells = λ c h. let y = value_in (value_at a.values c) h in m.kept c y.0 y.1 ∙ sym y.1;
        done = λ u r d. record { rule = rule_same u r d.rule; done = taken_same u ∙ d.done };
        needs = λ u r d. needs_same u;
      }

  rest : (u : ℕ) → (u ≡ t → ⊥) → Untouched lib site rows later (rules_of a) (rules_of b) (state_of a mine) (state_of b mine) u
  rest u n =
      record {
        owner = λ c h. h;
        cells = λ c h. m.others c u h n;
        left = λ r d. record { rule = rule_same u r d.rule; left = taken_same u ∙ d.left };
        needs = λ r d. needs_same u;
      }

  -- ---- what the rule tells

  abbrev Layer : Statement-F Statement → Scope → Given → Type 0
  Layer (layer.Decl x) s g = ⊥
  Layer (layer.Call x) s g = TellsCall lib site rows a x s g v × TellsCall lib site later b x s g w
  Layer (layer.Scatter x) s g = ⊥
  Layer (layer.If x) s g = ⊥

  abbrev TellsOf : Rule → Type 0
  TellsOf (does x s g d) = Layer (out-Statement x) s g
  TellsOf (declares name e s c) = ⊥
  TellsOf (gathers parts c) = ⊥
  TellsOf (ends parts c) = ⊥
  TellsOf (copies from c) = ⊥

  of_call : (x : TCall) (s : Scope) (g : Given) (d : ℕ) → slice_get a.rules t ≡ Some (does (stmt.Call x) s g d) → TellsCall lib site rows a x s g v × TellsCall lib site later b x s g w
  of_call x s g d e =
      subst (λ (y : Statement-F Statement). Layer y s g) (stmt.outs-Call x) (subst TellsOf (same_Some _ _ (sym is ∙ e)) (subst (λ (y : Statement-F Statement). Layer y s0 g0) (sym (stmt.outs-Call x0)) (was, now)))

  abbrev call_now : (u : ℕ) (s : Scope) (x : TCall) → CallNeeded (state_of a mine) u s x → CallNeeded (state_of b mine) u s x
  call_now u s x n = record { slots = n.slots; marks = n.marks; distinct = n.distinct; needs = n.needs; uses = n.uses; comes_after = n.comes_after; cells = needs_same u ∙ n.cells }

  set_now : (u : ℕ) → are_set (state_of a mine) (needs_in (slice_get a.steps u)) ≡ true → are_set (state_of b mine) (needs_in (slice_get b.steps u)) ≡ true
  set_now u h = ap (are_set (state_of b mine)) (needs_same u) ∙ sets_kept (state_of a mine) (state_of b mine) kept.cells (needs_in (slice_get a.steps u)) h

  -- the rule of the step
  rule_at : (u : ℕ) (r : Rule) → u ≡ t → slice_get a.rules u ≡ Some r → slice_get a.rules t ≡ Some r
  rule_at u r e h = ap (slice_get a.rules) (sym e) ∙ h

  abbrev tells_of : (u : ℕ) (e : u ≡ t) (depth : ℕ) (x : TCall) (s : Scope) (g : Given) (d : ℕ) (n : Work) → AskedAt lib site rows later (rules_of a) (rules_of b) (state_of a mine) (state_of b mine) depth x s g d n u
      → TellsCall lib site rows a x s g v × TellsCall lib site later b x s g w
  tells_of u e depth x s g d n q = of_call x s g d (rule_at u (does (stmt.Call x) s g d) e q.done.rule)

  -- ---- the other calls

  abbrev PlaceLayer : Statement-F Statement → List Segment → Type 0
  PlaceLayer (layer.Decl x) place = ⊥
  PlaceLayer (layer.Call x) place = place ++ segment.Call x.name ∷ [] ≡ s0.place ++ segment.Call x0.name ∷ []
  PlaceLayer (layer.Scatter x) place = ⊥
  PlaceLayer (layer.If x) place = ⊥

  abbrev PlaceOf : Rule → Type 0
  PlaceOf (does x s g d) = PlaceLayer (out-Statement x) s.place
  PlaceOf (declares name e s c) = ⊥
  PlaceOf (gathers parts c) = ⊥
  PlaceOf (ends parts c) = ⊥
  PlaceOf (copies from c) = ⊥

  place_same : (x : TCall) (s : Scope) (g : Given) (d : ℕ) → slice_get a.rules t ≡ Some (does (stmt.Call x) s g d) → s.place ++ segment.Call x.name ∷ [] ≡ s0.place ++ segment.Call x0.name ∷ []
  place_same x s g d e =
      subst (λ (y : Statement-F Statement). PlaceLayer y s.place) (stmt.outs-Call x) (subst PlaceOf (same_Some _ _ (sym is ∙ e)) (subst (λ (y : Statement-F Statement). PlaceLayer y s0.place) (sym (stmt.outs-Call x0)) refl))

  others_answered : (depth : ℕ) (f : Form) → IsRoot lib depth f → (p : Grown lib site rows a mine depth f) → ((k : ℕ) → at_step lib site rows (rules_of a) (state_of a mine) t k p ≡ k)
      → OthersAnswered lib site rows later (rules_of a) (rules_of b) (state_of a mine) (state_of b mine) t (askers lib site rows (rules_of a) (state_of a mine) p)
  others_answered depth f root p once q c n =
      m.elsewhere q.place (others_elsewhere lib site rows (rules_of a) (state_of a mine) t (s0.place ++ segment.Call x0.name ∷ []) m.taken place_same depth f root p (let i = once 1 in omega (arith, i)) q c n)

  abbrev turned : Turn lib site rows later (rules_of a) (rules_of b) (state_of a mine) (state_of b mine) t
  turned =
      record {
        decl = λ depth x s c left n k. absurd (not_left left.left);
        call = λ depth x s g d left n q at k runs. absurd (not_left left.left);
        scatter = λ depth x s g d left n q k. absurd (not_left left.left);
        condition = λ depth x s g d left n q k. absurd (not_left left.left);
        declared = λ name e s c left n k. absurd (not_left left.left);
        gathered = λ parts c q. absurd (not_left q.left.left);
        ending = λ parts c q. absurd (not_left q.left.left);
        copied = λ from c q. absurd (not_left q.left.left);
        told = λ u e depth x s g d n q.
            told_call depth x s g d u w (kept.done u (does (stmt.Call x) s g d) q.done) (call_now u s x q.needed) (set_now u q.set) q.named q.ends_at
            (record { names = q.own.names; calls = q.own.calls; done = q.own.done }) (plain_on lib site later b x s g w (tells_of u e depth x s g d n q).1 u mine (call_now u s x q.needed))
            (follows_on lib site later b x s g w (tells_of u e depth x s g d n q).1 u mine (call_now u s x q.needed) depth);
        only_call = λ r q. (x0, s0, g0, d0, sym (same_Some _ _ (sym is ∙ q.rule)));
      }

  adds : (weight : Work → ℕ) → TurnWeighs lib site rows later (rules_of a) (rules_of b) (state_of a mine) (state_of b mine) t turned weight (weight v) (weight w)
  adds weight =
      record {
        decl = λ depth x s c left n k. absurd (not_left left.left);
        call = λ depth x s g d left n q at k runs. absurd (not_left left.left);
        scatter = λ depth x s g d left n q k. absurd (not_left left.left);
        condition = λ depth x s g d left n q k. absurd (not_left left.left);
        declared = λ name e s c left n k. absurd (not_left left.left);
        told = λ u e depth x s g d n q. swap (weight w) (weight v) (weight n) (ap weight (work_was u e depth x s g d n q));
      }
    where
      swap : (k l n : ℕ) → n ≡ l → k + l ≡ n + k
      swap k l n e = omega (arith, e)

      work_was : (u : ℕ) (e : u ≡ t) (depth : ℕ) (x : TCall) (s : Scope) (g : Given) (d : ℕ) (n : Work) → AskedAt lib site rows later (rules_of a) (rules_of b) (state_of a mine) (state_of b mine) depth x s g d n u → n ≡ v
      work_was u e depth x s g d n q = same_work (value_at a.values) g n v (sym q.follows ∙ follows_on lib site rows a x s g v (tells_of u e depth x s g d n q).0 u mine q.needed depth)

  keeps : (l k : ℕ) → TurnLeaves lib site rows later (rules_of a) (rules_of b) (state_of a mine) (state_of b mine) t turned l k 0 0
  keeps l k =
      record {
        decl = λ depth x s c left n q. absurd (not_left left.left);
        call = λ depth x s g d left n q at k_ runs. absurd (not_left left.left);
        scatter = λ depth x s g d left n q k_. absurd (not_left left.left);
        condition = λ depth x s g d left n q k_. absurd (not_left left.left);
        declared = λ name e s c left n q. absurd (not_left left.left);
        told = λ u e depth x s g d n q. refl;
      }

  costs : (task : TaskCost) → TurnSpends lib site rows later (rules_of a) (rules_of b) (state_of a mine) (state_of b mine) t turned task 0 0
  costs task =
      record {
        decl = λ depth x s c left n k. absurd (not_left left.left);
        call = λ depth x s g d left n q at k runs. absurd (not_left left.left);
        scatter = λ depth x s g d left n q k. absurd (not_left left.left);
        condition = λ depth x s g d left n q k. absurd (not_left left.left);
        declared = λ name e s c left n k. absurd (not_left left.left);
        told = λ u e depth x s g d n q. ap (λ (c : ℕ). c + 0) (asked_kept lib site rows later (rules_of a) (rules_of b) (state_of a mine) (state_of b mine) t kept rest turned task depth u s x q.needed q.set q.plain);
      }

  answered : (depth : ℕ) (f : Form) (root : IsRoot lib depth f) (p : Grown lib site rows a mine depth f) → ((k : ℕ) → at_step lib site rows (rules_of a) (state_of a mine) t k p ≡ k)
      → HasAnswered lib site rows later a b mine v w depth f p
  answered depth f root p once =
      record {
        grown = moved lib site rows later (rules_of a) (rules_of b) (state_of a mine) (state_of b mine) t kept rest turned p (root_callable lib depth f root) (others_answered depth f root p once);
        weighs = λ weight i.
            let e = weighed lib site rows later (rules_of a) (rules_of b) (state_of a mine) (state_of b mine) t kept rest turned weight i (weight v) (weight w) (adds weight) p (root_callable lib depth f root) (others_answered depth f root p once) in
            let old = once (weight v) in
            let new = once (weight w) in
            omega (arith, e, old, new);
        leaves = λ l k. let e = leaves lib site rows later (rules_of a) (rules_of b) (state_of a mine) (state_of b mine) t kept rest turned l k 0 0 (keeps l k) p (root_callable lib depth f root) (others_answered depth f root p once) in omega (arith, e);
        spends = λ task. let e = spends lib site rows later (rules_of a) (rules_of b) (state_of a mine) (state_of b mine) t kept rest turned task 0 0 (costs task) p (root_callable lib depth f root) (others_answered depth f root p once) in omega (arith, e);
      }

pub arrives : AnswersArrive
arrives lib site rows later t a b mine x s g d v w m is was now depth f root p once = answered lib site rows later t a b mine x s g d v w m is was now depth f root p once
