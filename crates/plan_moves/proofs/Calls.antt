-- Moves of calls that are prepared, or that fail.
use Rattle.std.proofs.Common.{◌≡◌, ℕ, List, Some, slice_get, arith, refl, subst, sym, ◌∙◌}
use Rattle.std.proofs.lemmas.Option.{same_Some}
use Rattle.wdl_value.specs.Tables.{Row}
use Rattle.wdl_typed.specs.declared.flow.Statement.{Statement, Statement-F, out-Statement}
use Rattle.wdl_typed.specs.declared.flow.Statement.TheOpen as layer
use Rattle.wdl_typed.specs.declared.flow.Statement.TheVariants as stmt
use Rattle.wdl_typed.specs.declared.flow.TCall.{TCall}
use Rattle.wdl_typed.specs.Bodies.{Library}
use Rattle.net_laws.specs.Growing.{CallNeeded, Form, HasCells, IsLeft, KeepsCells, Rule, copies, declares, does, ends, gathers, only, told_call}
use Rattle.net_laws.specs.Askers.{askers}
use Rattle.net_laws.specs.Moving.{Turn, TurnLeaves, TurnSpends, TurnWeighs}
use Rattle.net_laws.specs.Cost.{TaskCost}
use Rattle.net_laws.specs.Net.{Given, Scope, Work}
use Rattle.net_laws.specs.Roots.{IsRoot}
use Rattle.net_laws.proofs.Callable.{root_callable}
use Rattle.net_laws.proofs.Moves.{leaves, moved, spends, weighed}
use Rattle.plan_moves.specs.Laws.{CallsMove, HasAsked, IsOnce, TellsCall, asked_cost}
use Rattle.plan_moves.specs.Sheets.{Grown, Holds, IsMove, Sheet, rules_of, state_of}
use Rattle.plan_moves.proofs.Kept.{done_now, grows, needs_now, not_done_at, plus_zero, set_now, spares, rows_same}
use Rattle.plan_moves.proofs.Apart.{decl_kind, if_kind, kind, layer_kind, scatter_kind}
use Rattle.plan_moves.proofs.Needed.{cost_on, follows_on, plain_on}
use Rattle.plan_moves.proofs.Turns.{same_kind, turn}

module _ (lib : Library) (site : List ℕ) (rows : List Row) (t : ℕ) (a : Sheet) (mine : List ℕ) (b : Sheet) (theirs : List ℕ) (m : IsMove t a mine b theirs) (holds : Holds t mine theirs) (w : Work) (cost : TaskCost → ℕ) where
  -- ---- what the rule tells

  -- what the call tells, and what it costs
  abbrev Tells : TCall → Scope → Given → Type 0
  Tells x s g = (h : TellsCall lib site rows b x s g w) × ((task : TaskCost) → asked_cost lib task b x s h.slots ≡ cost task)

  abbrev Layer : Statement-F Statement → Scope → Given → ℕ → Type 0
  Layer (layer.Decl x) s g d = ⊥
  Layer (layer.Call x) s g d = Tells x s g
  Layer (layer.Scatter x) s g d = ⊥
  Layer (layer.If x) s g d = ⊥

  abbrev Told : Rule → Type 0
  Told (does x s g d) = Layer (out-Statement x) s g d
  Told (declares name e s c) = ⊥
  Told (gathers parts c) = ⊥
  Told (ends parts c) = ⊥
  Told (copies from c) = ⊥

  into : (x : TCall) (s : Scope) (g : Given) (d : ℕ) → Tells x s g → Told (does (stmt.Call x) s g d)
  into x s g d h = subst (λ (y : Statement-F Statement). Layer y s g d) (sym (stmt.outs-Call x)) h

  back : (x : TCall) (s : Scope) (g : Given) (d : ℕ) → Told (does (stmt.Call x) s g d) → Tells x s g
  back x s g d h = subst (λ (y : Statement-F Statement). Layer y s g d) (stmt.outs-Call x) h

  -- ---- the step's needs

  abbrev call_now : (s : Scope) (x : TCall) → CallNeeded (state_of a mine) t s x → CallNeeded (state_of b theirs) t s x
  call_now s x n =
      record { slots = n.slots; marks = n.marks; distinct = n.distinct; needs = n.needs; uses = n.uses; comes_after = n.comes_after; cells = needs_now lib site rows t a mine b theirs m ∙ n.cells }

  own_now : (g : Given) (d : ℕ) → KeepsCells lib site rows (rules_of a) (state_of a mine) t g d → HasCells lib site rows (rules_of b) (state_of b theirs) t g d
  own_now g d k = record { names = λ i e l. holds _ (k.names i e l).0; calls = λ i e l. holds _ (k.calls i e l).0; done = holds d k.done.0 }

  module _ (r : Rule) (is : slice_get a.rules t ≡ Some r) (h : Told r) where
    call_kind : kind r ≡ 1
    call_kind = by_rule r h
      where
        by_layer : (y : Statement-F Statement) (s : Scope) (g : Given) (d : ℕ) → Layer y s g d → layer_kind y ≡ 1
        by_layer (layer.Decl x) s g d l = absurd l
        by_layer (layer.Call x) s g d l = refl
        by_layer (layer.Scatter x) s g d l = absurd l
        by_layer (layer.If x) s g d l = absurd l

        by_rule : (q : Rule) → Told q → kind q ≡ 1
        by_rule (does x s g d) l = by_layer (out-Statement x) s g d l
        by_rule (declares name e s c) l = absurd l
        by_rule (gathers parts c) l = absurd l
        by_rule (ends parts c) l = absurd l
        by_rule (copies from c) l = absurd l

    apart : (k : ℕ) → kind r ≡ k → (k ≡ 1 → ⊥) → ⊥
    apart k e n = n (sym e ∙ call_kind)

    other : (q : Rule) (k : ℕ) → slice_get a.rules t ≡ Some q → kind q ≡ k → (k ≡ 1 → ⊥) → ⊥
    other q k e f n = apart k (same_kind lib site rows t a mine b theirs r q k is e f) n

    told_of : (q : Rule) → slice_get a.rules t ≡ Some q → Told q
    told_of q e = subst Told (same_Some _ _ (sym is ∙ e)) h

    abbrev tells_of : (x : TCall) (s : Scope) (g : Given) (d : ℕ) → IsLeft lib site rows (rules_of a) (state_of a mine) t (does (stmt.Call x) s g d) → Tells x s g
    tells_of x s g d left = back x s g d (told_of (does (stmt.Call x) s g d) left.rule)

    abbrev turned : Turn lib site rows rows (rules_of a) (rules_of b) (state_of a mine) (state_of b theirs) t
    turned =
        turn lib site rows t a mine b theirs m r is (λ e. absurd (apart 0 e (λ z. omega (arith, z))))
        (λ z depth x s g d left n named at k runs.
        told_call depth x s g d t w (done_now lib site rows t a mine b theirs m (does (stmt.Call x) s g d) left.rule) (call_now s x n) (set_now lib site rows t a mine b theirs m) named at (own_now g d k)
        (plain_on lib site rows b x s g w (tells_of x s g d left).0 t theirs (call_now s x n)) (follows_on lib site rows b x s g w (tells_of x s g d left).0 t theirs (call_now s x n) depth))
        (λ e. absurd (apart 2 e (λ z. omega (arith, z)))) (λ e. absurd (apart 3 e (λ z. omega (arith, z)))) (λ e. absurd (apart 4 e (λ z. omega (arith, z)))) (λ e. absurd (apart 5 e (λ z. omega (arith, z))))
        (λ e. absurd (apart 6 e (λ z. omega (arith, z)))) (λ e. absurd (apart 7 e (λ z. omega (arith, z))))

    adds : (weight : Work → ℕ) → TurnWeighs lib site rows rows (rules_of a) (rules_of b) (state_of a mine) (state_of b theirs) t turned weight 0 (weight w)
    adds weight =
        record {
          decl = λ depth x s c left n k. absurd (other (does (stmt.Decl x) s (only x.name c) c) 0 left.rule (decl_kind x s (only x.name c) c) (λ z. omega (arith, z)));
          call = λ depth x s g d left n q at k runs. plus_zero (weight w);
          scatter = λ depth x s g d left n q k. absurd (other (does (stmt.Scatter x) s g d) 2 left.rule (scatter_kind x s g d) (λ z. omega (arith, z)));
          condition = λ depth x s g d left n q k. absurd (other (does (stmt.If x) s g d) 3 left.rule (if_kind x s g d) (λ z. omega (arith, z)));
          declared = λ name e s c left n k. absurd (other (declares name e s c) 4 left.rule refl (λ z. omega (arith, z)));
          told = λ u e depth x s g d v q. absurd (not_done_at lib site rows t a mine b theirs m u e q.done.done);
        }

    keeps : (v k : ℕ) → TurnLeaves lib site rows rows (rules_of a) (rules_of b) (state_of a mine) (state_of b theirs) t turned v k 0 0
    keeps v k =
        record {
          decl = λ depth x s c left n q. absurd (other (does (stmt.Decl x) s (only x.name c) c) 0 left.rule (decl_kind x s (only x.name c) c) (λ z. omega (arith, z)));
          call = λ depth x s g d left n q at k_ runs. refl;
          scatter = λ depth x s g d left n q k_. absurd (other (does (stmt.Scatter x) s g d) 2 left.rule (scatter_kind x s g d) (λ z. omega (arith, z)));
          condition = λ depth x s g d left n q k_. absurd (other (does (stmt.If x) s g d) 3 left.rule (if_kind x s g d) (λ z. omega (arith, z)));
          declared = λ name e s c left n q. absurd (other (declares name e s c) 4 left.rule refl (λ z. omega (arith, z)));
          told = λ u e depth x s g d v_ q. absurd (not_done_at lib site rows t a mine b theirs m u e q.done.done);
        }

    costs : (task : TaskCost) → TurnSpends lib site rows rows (rules_of a) (rules_of b) (state_of a mine) (state_of b theirs) t turned task 0 (cost task)
    costs task =
        record {
          decl = λ depth x s c left n k. absurd (other (does (stmt.Decl x) s (only x.name c) c) 0 left.rule (decl_kind x s (only x.name c) c) (λ z. omega (arith, z)));
          call = λ depth x s g d left n q at k runs.
              plus_zero _ ∙ cost_on lib site rows b x s g w (tells_of x s g d left).0 t theirs (call_now s x n) task depth (set_now lib site rows t a mine b theirs m) ∙ (tells_of x s g d left).1 task;
          scatter = λ depth x s g d left n q k. absurd (other (does (stmt.Scatter x) s g d) 2 left.rule (scatter_kind x s g d) (λ z. omega (arith, z)));
          condition = λ depth x s g d left n q k. absurd (other (does (stmt.If x) s g d) 3 left.rule (if_kind x s g d) (λ z. omega (arith, z)));
          declared = λ name e s c left n k. absurd (other (declares name e s c) 4 left.rule refl (λ z. omega (arith, z)));
          told = λ u e depth x s g d v q. absurd (not_done_at lib site rows t a mine b theirs m u e q.done.done);
        }

    pub called : (depth : ℕ) (f : Form) (root : IsRoot lib depth f) (p : Grown lib site rows a mine depth f) → IsOnce lib site rows t a mine b theirs p → HasAsked lib site rows t a mine b theirs w cost depth f p
    called depth f root p once =
        record {
          grown = moved lib site rows rows (rules_of a) (rules_of b) (state_of a mine) (state_of b theirs) t (grows lib site rows t a mine b theirs m) (spares lib site rows t a mine b theirs m) turned p (root_callable lib depth f root) (rows_same lib site rows t a mine b theirs m (askers lib site rows (rules_of a) (state_of a mine) p));
          weighs = λ weight i.
              let e = weighed lib site rows rows (rules_of a) (rules_of b) (state_of a mine) (state_of b theirs) t (grows lib site rows t a mine b theirs m) (spares lib site rows t a mine b theirs m) turned weight i 0 (weight w) (adds weight) p (root_callable lib depth f root) (rows_same lib site rows t a mine b theirs m (askers lib site rows (rules_of a) (state_of a mine) p)) in
              let none = once 0 in
              let all = once (weight w) in
              omega (arith, e, none, all);
          leaves = λ v k. let e = leaves lib site rows rows (rules_of a) (rules_of b) (state_of a mine) (state_of b theirs) t (grows lib site rows t a mine b theirs m) (spares lib site rows t a mine b theirs m) turned v k 0 0 (keeps v k) p (root_callable lib depth f root) (rows_same lib site rows t a mine b theirs m (askers lib site rows (rules_of a) (state_of a mine) p)) in omega (arith, e);
          spends = λ task.
              let e = spends lib site rows rows (rules_of a) (rules_of b) (state_of a mine) (state_of b theirs) t (grows lib site rows t a mine b theirs m) (spares lib site rows t a mine b theirs m) turned task 0 (cost task) (costs task) p (root_callable lib depth f root) (rows_same lib site rows t a mine b theirs m (askers lib site rows (rules_of a) (state_of a mine) p)) in
              let none = once 0 in
              let all = once (cost task) in
              omega (arith, e, none, all);
        }

pub calls : CallsMove
calls lib site rows t a mine b theirs m holds x s g d w is h depth f root p once =
    called lib site rows t a mine b theirs m holds w (λ task. asked_cost lib task b x s h.slots) (does (stmt.Call x) s g d) is
    (into lib site rows t a mine b theirs m holds w (λ task. asked_cost lib task b x s h.slots) x s g d (h, λ task. refl)) depth f root p once
