-- Moves of calls of workflows, which are entered.
use Rattle.std.proofs.Common.{◌≡◌, ◌+◌, ℕ, zero, suc, List, Some, length, slice_get, arith, refl, subst, sym, ◌∙◌}
use Rattle.std.proofs.lemmas.Option.{same_Some}
use Rattle.wdl_value.specs.Tables.{Row}
use Rattle.wdl_typed.specs.declared.flow.Statement.{Statement, Statement-F, out-Statement}
use Rattle.wdl_typed.specs.declared.flow.Statement.TheOpen as layer
use Rattle.wdl_typed.specs.declared.flow.Statement.TheVariants as stmt
use Rattle.wdl_typed.specs.declared.flow.TCall.{TCall}
use Rattle.wdl_typed.specs.Bodies.{Library}
use Rattle.net_laws.specs.Growing.{CallNeeded, EndsAt, Form, IsLeft, IsNamed, Rule, copies, declares, does, ends, gathers, one, only, run_call}
use Rattle.net_laws.specs.Askers.{askers}
use Rattle.net_laws.specs.Moving.{IsWeight, Turn, TurnLeaves, TurnSpends, TurnWeighs, at_step, hit}
use Rattle.net_laws.specs.Cost.{TaskCost}
use Rattle.net_laws.specs.Net.{Given, Scope, Work}
use Rattle.net_laws.specs.Planned.{call_names}
use Rattle.net_laws.specs.Roots.{IsCallable, IsRoot}
use Rattle.net_laws.specs.Works.{evaluated, work_of}
use Rattle.net_laws.proofs.Callable.{called_deeper, root_callable}
use Rattle.net_laws.proofs.Moves.{leaves, moved, spends, weighed}
use Rattle.plan_moves.specs.Laws.{EntersFlow, FlowsEnter, HasEntered, IsOnce}
use Rattle.plan_moves.specs.Sheets.{Grown, IsMove, Sheet, rules_of, state_of}
use Rattle.plan_moves.proofs.Kept.{done_now, grows, hit_other, needs_now, no_less, not_done_at, plus_zero, rows_same, set_now, spares}
use Rattle.plan_moves.proofs.Apart.{decl_kind, if_kind, kind, layer_kind, scatter_kind}
use Rattle.plan_moves.proofs.Needed.{met_on}
use Rattle.plan_moves.proofs.Turns.{New, same_kind, turn}

arguments_alone : (k n : ℕ) → n ≡ 0 → (k + n) + 0 ≡ k
arguments_alone k n e = omega (arith, e)

module _ (lib : Library) (site : List ℕ) (rows : List Row) (t : ℕ) (a : Sheet) (mine : List ℕ) (b : Sheet) (theirs : List ℕ) (m : IsMove t a mine b theirs) (w : Work) (new : ℕ → ℕ → ℕ) (n0 : ℕ) where
  -- ---- what the rule tells

  -- what the call enters, and how many arguments it has
  abbrev Enters : TCall → Scope → Given → ℕ → Type 0
  Enters x s g d = EntersFlow lib site rows b theirs x s g d w new × (length x.args ≡ n0)

  abbrev Layer : Statement-F Statement → Scope → Given → ℕ → Type 0
  Layer (layer.Decl x) s g d = ⊥
  Layer (layer.Call x) s g d = Enters x s g d
  Layer (layer.Scatter x) s g d = ⊥
  Layer (layer.If x) s g d = ⊥

  abbrev Told : Rule → Type 0
  Told (does x s g d) = Layer (out-Statement x) s g d
  Told (declares name e s c) = ⊥
  Told (gathers parts c) = ⊥
  Told (ends parts c) = ⊥
  Told (copies from c) = ⊥

  into : (x : TCall) (s : Scope) (g : Given) (d : ℕ) → Enters x s g d → Told (does (stmt.Call x) s g d)
  into x s g d h = subst (λ (y : Statement-F Statement). Layer y s g d) (sym (stmt.outs-Call x)) h

  back : (x : TCall) (s : Scope) (g : Given) (d : ℕ) → Told (does (stmt.Call x) s g d) → Enters x s g d
  back x s g d h = subst (λ (y : Statement-F Statement). Layer y s g d) (stmt.outs-Call x) h

  -- ---- the call, at each depth at which it can run

  abbrev call_now : (s : Scope) (x : TCall) → CallNeeded (state_of a mine) t s x → CallNeeded (state_of b theirs) t s x
  call_now s x n =
      record { slots = n.slots; marks = n.marks; distinct = n.distinct; needs = n.needs; uses = n.uses; comes_after = n.comes_after; cells = needs_now lib site rows t a mine b theirs m ∙ n.cells }

  not_here : (x : TCall) (s : Scope) (g : Given) (d : ℕ) → EntersFlow lib site rows b theirs x s g d w new → IsCallable lib zero (one (stmt.Call x) s g d) → ⊥
  not_here x s g d h c = let m_ = called_deeper lib zero x s g d h.number h.callee h.is h.found c in absurd (omega (arith, m_.1))

  abbrev ran : (depth : ℕ) (x : TCall) (s : Scope) (g : Given) (d : ℕ) → IsLeft lib site rows (rules_of a) (state_of a mine) t (does (stmt.Call x) s g d) → CallNeeded (state_of a mine) t s x → IsNamed (call_names lib x) g → EndsAt x g d
      → EntersFlow lib site rows b theirs x s g d w new → IsCallable lib depth (one (stmt.Call x) s g d) → New lib site rows t a mine b theirs depth (one (stmt.Call x) s g d)
  ran zero x s g d left n named at h c = absurd (not_here x s g d h c)
  ran (suc depth) x s g d left n named at h c =
      run_call depth x s g h.inner d t h.dones (done_now lib site rows t a mine b theirs m (does (stmt.Call x) s g d) left.rule) (call_now s x n) (set_now lib site rows t a mine b theirs m) h.number h.is h.callee h.found h.args
      (met_on b x s h.slots h.marks h.needs t theirs (call_now s x n) h.args h.met) named at h.distinct (h.body depth) h.copied h.ended

  ran_weighs : (weight : Work → ℕ) → IsWeight weight → (depth : ℕ) (x : TCall) (s : Scope) (g : Given) (d : ℕ) (left : IsLeft lib site rows (rules_of a) (state_of a mine) t (does (stmt.Call x) s g d)) (n : CallNeeded (state_of a mine) t s x)
      (named : IsNamed (call_names lib x) g) (at : EndsAt x g d) (h : EntersFlow lib site rows b theirs x s g d w new) (c : IsCallable lib depth (one (stmt.Call x) s g d))
      → weight (work_of lib site rows (rules_of b) (state_of b theirs) (ran depth x s g d left n named at h c)) + 0 ≡ weight w
  ran_weighs weight i zero x s g d left n named at h c = absurd (not_here x s g d h c)
  ran_weighs weight i (suc depth) x s g d left n named at h c = plus_zero _ ∙ h.work depth weight i

  ran_leaves : (v k : ℕ) → (v ≡ t → ⊥) → (depth : ℕ) (x : TCall) (s : Scope) (g : Given) (d : ℕ) (left : IsLeft lib site rows (rules_of a) (state_of a mine) t (does (stmt.Call x) s g d)) (n : CallNeeded (state_of a mine) t s x)
      (named : IsNamed (call_names lib x) g) (at : EndsAt x g d) (h : EntersFlow lib site rows b theirs x s g d w new) (c : IsCallable lib depth (one (stmt.Call x) s g d))
      → at_step lib site rows (rules_of b) (state_of b theirs) v k (ran depth x s g d left n named at h c) + 0 ≡ hit v k t + new v k
  ran_leaves v k ne zero x s g d left n named at h c = absurd (not_here x s g d h c)
  ran_leaves v k ne (suc depth) x s g d left n named at h c = no_less _ (new v k) (hit v k t) (h.leaves depth v k) (hit_other v k t ne)

  ran_costs : (task : TaskCost) (depth : ℕ) (x : TCall) (s : Scope) (g : Given) (d : ℕ) (left : IsLeft lib site rows (rules_of a) (state_of a mine) t (does (stmt.Call x) s g d)) (n : CallNeeded (state_of a mine) t s x)
      (named : IsNamed (call_names lib x) g) (at : EndsAt x g d) (h : EntersFlow lib site rows b theirs x s g d w new) (c : IsCallable lib depth (one (stmt.Call x) s g d))
      → evaluated lib site rows (rules_of b) (state_of b theirs) task (ran depth x s g d left n named at h c) + 0 ≡ length x.args
  ran_costs task zero x s g d left n named at h c = absurd (not_here x s g d h c)
  ran_costs task (suc depth) x s g d left n named at h c = arguments_alone (length x.args) _ (h.spends depth task)

  module _ (r : Rule) (is : slice_get a.rules t ≡ Some r) (h : Told r) where
    call_kind : kind r ≡ 1
    call_kind = by_rule r h
      where
        by_layer : (y : Statement-F Statement) (s : Scope) (g : Given) (d : ℕ) → Layer y s g d → layer_kind y ≡ 1
        by_layer (layer.Decl x) s g d l = absurd l
        by_layer (layer.Call x) s g d l = refl
        by_layer (layer.Scatter x) s g d l = absurd l
        by_layer (layer.If x) s g d l = absurd l

        by_rule : (q : Rule) → Told q → kind q ≡ 1
        by_rule (does x s g d) l = by_layer (out-Statement x) s g d l
        by_rule (declares name e s c) l = absurd l
        by_rule (gathers parts c) l = absurd l
        by_rule (ends parts c) l = absurd l
        by_rule (copies from c) l = absurd l

    apart : (k : ℕ) → kind r ≡ k → (k ≡ 1 → ⊥) → ⊥
    apart k e n = n (sym e ∙ call_kind)

    other : (q : Rule) (k : ℕ) → slice_get a.rules t ≡ Some q → kind q ≡ k → (k ≡ 1 → ⊥) → ⊥
    other q k e f n = apart k (same_kind lib site rows t a mine b theirs r q k is e f) n

    told_of : (q : Rule) → slice_get a.rules t ≡ Some q → Told q
    told_of q e = subst Told (same_Some _ _ (sym is ∙ e)) h

    abbrev enters_of : (x : TCall) (s : Scope) (g : Given) (d : ℕ) → IsLeft lib site rows (rules_of a) (state_of a mine) t (does (stmt.Call x) s g d) → Enters x s g d
    enters_of x s g d left = back x s g d (told_of (does (stmt.Call x) s g d) left.rule)

    abbrev turned : Turn lib site rows rows (rules_of a) (rules_of b) (state_of a mine) (state_of b theirs) t
    turned =
        turn lib site rows t a mine b theirs m r is (λ e. absurd (apart 0 e (λ z. omega (arith, z)))) (λ z depth x s g d left n named at k runs. ran depth x s g d left n named at (enters_of x s g d left).0 runs)
        (λ e. absurd (apart 2 e (λ z. omega (arith, z)))) (λ e. absurd (apart 3 e (λ z. omega (arith, z)))) (λ e. absurd (apart 4 e (λ z. omega (arith, z)))) (λ e. absurd (apart 5 e (λ z. omega (arith, z))))
        (λ e. absurd (apart 6 e (λ z. omega (arith, z)))) (λ e. absurd (apart 7 e (λ z. omega (arith, z))))

    adds : (weight : Work → ℕ) → IsWeight weight → TurnWeighs lib site rows rows (rules_of a) (rules_of b) (state_of a mine) (state_of b theirs) t turned weight 0 (weight w)
    adds weight i =
        record {
          decl = λ depth x s c left n k_. absurd (other (does (stmt.Decl x) s (only x.name c) c) 0 left.rule (decl_kind x s (only x.name c) c) (λ z. omega (arith, z)));
          call = λ depth x s g d left n q at k_ runs. ran_weighs weight i depth x s g d left n q at (enters_of x s g d left).0 runs;
          scatter = λ depth x s g d left n q k_. absurd (other (does (stmt.Scatter x) s g d) 2 left.rule (scatter_kind x s g d) (λ z. omega (arith, z)));
          condition = λ depth x s g d left n q k_. absurd (other (does (stmt.If x) s g d) 3 left.rule (if_kind x s g d) (λ z. omega (arith, z)));
          declared = λ name e s c left n k_. absurd (other (declares name e s c) 4 left.rule refl (λ z. omega (arith, z)));
          told = λ u e depth x s g d v_ q. absurd (not_done_at lib site rows t a mine b theirs m u e q.done.done);
        }

    keeps : (v k : ℕ) → (v ≡ t → ⊥) → TurnLeaves lib site rows rows (rules_of a) (rules_of b) (state_of a mine) (state_of b theirs) t turned v k 0 (new v k)
    keeps v k ne =
        record {
          decl = λ depth x s c left n k_. absurd (other (does (stmt.Decl x) s (only x.name c) c) 0 left.rule (decl_kind x s (only x.name c) c) (λ z. omega (arith, z)));
          call = λ depth x s g d left n q at k_ runs. ran_leaves v k ne depth x s g d left n q at (enters_of x s g d left).0 runs;
          scatter = λ depth x s g d left n q k_. absurd (other (does (stmt.Scatter x) s g d) 2 left.rule (scatter_kind x s g d) (λ z. omega (arith, z)));
          condition = λ depth x s g d left n q k_. absurd (other (does (stmt.If x) s g d) 3 left.rule (if_kind x s g d) (λ z. omega (arith, z)));
          declared = λ name e s c left n k_. absurd (other (declares name e s c) 4 left.rule refl (λ z. omega (arith, z)));
          told = λ u e depth x s g d v_ q. absurd (not_done_at lib site rows t a mine b theirs m u e q.done.done);
        }

    costs : (task : TaskCost) → TurnSpends lib site rows rows (rules_of a) (rules_of b) (state_of a mine) (state_of b theirs) t turned task 0 n0
    costs task =
        record {
          decl = λ depth x s c left n k_. absurd (other (does (stmt.Decl x) s (only x.name c) c) 0 left.rule (decl_kind x s (only x.name c) c) (λ z. omega (arith, z)));
          call = λ depth x s g d left n q at k_ runs. ran_costs task depth x s g d left n q at (enters_of x s g d left).0 runs ∙ (enters_of x s g d left).1;
          scatter = λ depth x s g d left n q k_. absurd (other (does (stmt.Scatter x) s g d) 2 left.rule (scatter_kind x s g d) (λ z. omega (arith, z)));
          condition = λ depth x s g d left n q k_. absurd (other (does (stmt.If x) s g d) 3 left.rule (if_kind x s g d) (λ z. omega (arith, z)));
          declared = λ name e s c left n k_. absurd (other (declares name e s c) 4 left.rule refl (λ z. omega (arith, z)));
          told = λ u e depth x s g d v_ q. absurd (not_done_at lib site rows t a mine b theirs m u e q.done.done);
        }

    pub entered : (depth : ℕ) (f : Form) (root : IsRoot lib depth f) (p : Grown lib site rows a mine depth f) → IsOnce lib site rows t a mine b theirs p → HasEntered lib site rows t a mine b theirs w new n0 depth f p
    entered depth f root p once =
        record {
          grown = moved lib site rows rows (rules_of a) (rules_of b) (state_of a mine) (state_of b theirs) t (grows lib site rows t a mine b theirs m) (spares lib site rows t a mine b theirs m) turned p (root_callable lib depth f root) (rows_same lib site rows t a mine b theirs m (askers lib site rows (rules_of a) (state_of a mine) p));
          weighs = λ weight i.
              let e = weighed lib site rows rows (rules_of a) (rules_of b) (state_of a mine) (state_of b theirs) t (grows lib site rows t a mine b theirs m) (spares lib site rows t a mine b theirs m) turned weight i 0 (weight w) (adds weight i) p (root_callable lib depth f root) (rows_same lib site rows t a mine b theirs m (askers lib site rows (rules_of a) (state_of a mine) p)) in
              let none = once 0 in
              let all = once (weight w) in
              omega (arith, e, none, all);
          leaves = λ v k n.
              let e = leaves lib site rows rows (rules_of a) (rules_of b) (state_of a mine) (state_of b theirs) t (grows lib site rows t a mine b theirs m) (spares lib site rows t a mine b theirs m) turned v k 0 (new v k) (keeps v k n) p (root_callable lib depth f root) (rows_same lib site rows t a mine b theirs m (askers lib site rows (rules_of a) (state_of a mine) p)) in
              let none = once 0 in
              let all = once (new v k) in
              omega (arith, e, none, all);
          spends = λ task.
              let e = spends lib site rows rows (rules_of a) (rules_of b) (state_of a mine) (state_of b theirs) t (grows lib site rows t a mine b theirs m) (spares lib site rows t a mine b theirs m) turned task 0 n0 (costs task) p (root_callable lib depth f root) (rows_same lib site rows t a mine b theirs m (askers lib site rows (rules_of a) (state_of a mine) p)) in
              let none = once 0 in
              let all = once n0 in
              omega (arith, e, none, all);
        }

pub flows : FlowsEnter
flows lib site rows t a mine b theirs m x s g d w new is h depth f root p once =
    entered lib site rows t a mine b theirs m w new (length x.args) (does (stmt.Call x) s g d) is (into lib site rows t a mine b theirs m w new (length x.args) x s g d (h, refl)) depth f root p once
