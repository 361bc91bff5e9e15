-- Moves of blocks that are entered: a scatter with its items, and a condition that is true.
use Rattle.std.proofs.Common.{◌≡◌, ◌+◌, ◌⊎◌, inl, inr, ℕ, List, Some, Ok, slice_get, arith, refl, subst, sym, ◌∙◌}
use Rattle.std.proofs.lemmas.Option.{same_Some}
use Rattle.wdl_value.specs.Tables.{Row}
use Rattle.wdl_typed.specs.declared.flow.Statement.{Statement, Statement-F, out-Statement}
use Rattle.wdl_typed.specs.declared.flow.Statement.TheOpen as layer
use Rattle.wdl_typed.specs.declared.flow.Statement.TheVariants as stmt
use Rattle.wdl_typed.specs.declared.flow.TIf.{TIf}
use Rattle.wdl_typed.specs.declared.flow.TScatter.{TScatter}
use Rattle.wdl_typed.specs.Bodies.{Library}
use Rattle.net_laws.specs.Growing.{Form, Rule, copies, declares, does, each_scatter, ends, gathers, only, true_if}
use Rattle.net_laws.specs.Askers.{askers}
use Rattle.net_laws.specs.Moving.{IsWeight, Turn, TurnLeaves, TurnSpends, TurnWeighs, hit}
use Rattle.net_laws.specs.Cost.{TaskCost}
use Rattle.net_laws.specs.Net.{Given, Scope, Work}
use Rattle.net_laws.specs.Roots.{IsRoot}
use Rattle.net_laws.proofs.Callable.{root_callable}
use Rattle.net_laws.proofs.Moves.{leaves, moved, spends, weighed}
use Rattle.plan_moves.specs.Laws.{BlocksEnter, EntersIf, EntersScatter, HasEntered, IsOnce}
use Rattle.plan_moves.specs.Sheets.{Grown, IsMove, Sheet, rules_of, state_of}
use Rattle.plan_moves.proofs.Apart.{call_kind, decl_kind, kind, layer_kind}
use Rattle.plan_moves.proofs.Kept.{done_now, grows, head_now, hit_other, names_now, no_less, not_done_at, plus_zero, set_now, spares, rows_same}
use Rattle.plan_moves.proofs.Turns.{same_kind, turn}

head_alone : (n : ℕ) → n ≡ 0 → (1 + n) + 0 ≡ 1
head_alone n e = omega (arith, e)

module _ (lib : Library) (site : List ℕ) (rows : List Row) (t : ℕ) (a : Sheet) (mine : List ℕ) (b : Sheet) (theirs : List ℕ) (m : IsMove t a mine b theirs) (w : Work) (new : ℕ → ℕ → ℕ) where
  -- ---- what the rule tells

  abbrev Layer : Statement-F Statement → Scope → Given → ℕ → Type 0
  Layer (layer.Decl x) s g d = ⊥
  Layer (layer.Call x) s g d = ⊥
  Layer (layer.Scatter x) s g d = EntersScatter lib site rows b theirs x s g d w new
  Layer (layer.If x) s g d = EntersIf lib site rows b theirs x s g d w new

  abbrev Told : Rule → Type 0
  Told (does x s g d) = Layer (out-Statement x) s g d
  Told (declares name e s c) = ⊥
  Told (gathers parts c) = ⊥
  Told (ends parts c) = ⊥
  Told (copies from c) = ⊥

  into_scatter : (x : TScatter Statement) (s : Scope) (g : Given) (d : ℕ) → EntersScatter lib site rows b theirs x s g d w new → Told (does (stmt.Scatter x) s g d)
  into_scatter x s g d h = subst (λ (y : Statement-F Statement). Layer y s g d) (sym (stmt.outs-Scatter x)) h

  into_if : (x : TIf Statement) (s : Scope) (g : Given) (d : ℕ) → EntersIf lib site rows b theirs x s g d w new → Told (does (stmt.If x) s g d)
  into_if x s g d h = subst (λ (y : Statement-F Statement). Layer y s g d) (sym (stmt.outs-If x)) h

  module _ (r : Rule) (is : slice_get a.rules t ≡ Some r) (h : Told r) where
    kinds : (kind r ≡ 2) ⊎ (kind r ≡ 3)
    kinds = by_rule r h
      where
        by_layer : (y : Statement-F Statement) (s : Scope) (g : Given) (d : ℕ) → Layer y s g d → (layer_kind y ≡ 2) ⊎ (layer_kind y ≡ 3)
        by_layer (layer.Decl x) s g d l = absurd l
        by_layer (layer.Call x) s g d l = absurd l
        by_layer (layer.Scatter x) s g d l = inl refl
        by_layer (layer.If x) s g d l = inr refl

        by_rule : (q : Rule) → Told q → (kind q ≡ 2) ⊎ (kind q ≡ 3)
        by_rule (does x s g d) l = by_layer (out-Statement x) s g d l
        by_rule (declares name e s c) l = absurd l
        by_rule (gathers parts c) l = absurd l
        by_rule (ends parts c) l = absurd l
        by_rule (copies from c) l = absurd l

    apart : (k : ℕ) → kind r ≡ k → (k ≡ 2 → ⊥) → (k ≡ 3 → ⊥) → ⊥
    apart k e n o = go kinds
      where
        go : (kind r ≡ 2) ⊎ (kind r ≡ 3) → ⊥
        go (inl z) = n (sym e ∙ z)
        go (inr z) = o (sym e ∙ z)

    other : (q : Rule) (k : ℕ) → slice_get a.rules t ≡ Some q → kind q ≡ k → (k ≡ 2 → ⊥) → (k ≡ 3 → ⊥) → ⊥
    other q k e f n o = apart k (same_kind lib site rows t a mine b theirs r q k is e f) n o

    of_scatter : (x : TScatter Statement) (s : Scope) (g : Given) (d : ℕ) → slice_get a.rules t ≡ Some (does (stmt.Scatter x) s g d) → EntersScatter lib site rows b theirs x s g d w new
    of_scatter x s g d e = subst (λ (y : Statement-F Statement). Layer y s g d) (stmt.outs-Scatter x) (subst Told (same_Some _ _ (sym is ∙ e)) h)

    of_if : (x : TIf Statement) (s : Scope) (g : Given) (d : ℕ) → slice_get a.rules t ≡ Some (does (stmt.If x) s g d) → EntersIf lib site rows b theirs x s g d w new
    of_if x s g d e = subst (λ (y : Statement-F Statement). Layer y s g d) (stmt.outs-If x) (subst Told (same_Some _ _ (sym is ∙ e)) h)

    abbrev turned : Turn lib site rows rows (rules_of a) (rules_of b) (state_of a mine) (state_of b theirs) t
    turned =
        turn lib site rows t a mine b theirs m r is (λ e. absurd (apart 0 e (λ z. omega (arith, z)) (λ z. omega (arith, z)))) (λ e. absurd (apart 1 e (λ z. omega (arith, z)) (λ z. omega (arith, z))))
        (λ z depth x s g d left n out k.
        let q = of_scatter x s g d left.rule in
        each_scatter depth x s g d t q.value q.items (done_now lib site rows t a mine b theirs m (does (stmt.Scatter x) s g d) left.rule) (names_now lib site rows t a mine b theirs m s x.over n)
        (set_now lib site rows t a mine b theirs m) (head_now lib site rows t a mine b theirs m s x.over (Ok q.value) q.value_of_head n) (record { keys = out.keys; named = out.named }) (q.each_item depth) q.names q.calls q.ended)
        (λ z depth x s g d left n out k.
        let q = of_if x s g d left.rule in
        true_if depth x s g q.inner d t q.dones q.value (done_now lib site rows t a mine b theirs m (does (stmt.If x) s g d) left.rule) (names_now lib site rows t a mine b theirs m s x.cond n)
        (set_now lib site rows t a mine b theirs m) (head_now lib site rows t a mine b theirs m s x.cond (Ok q.value) q.value_of_head n) q.on (record { keys = out.keys; named = out.named }) (q.body depth) q.names q.calls q.ended)
        (λ e. absurd (apart 4 e (λ z. omega (arith, z)) (λ z. omega (arith, z)))) (λ e. absurd (apart 5 e (λ z. omega (arith, z)) (λ z. omega (arith, z))))
        (λ e. absurd (apart 6 e (λ z. omega (arith, z)) (λ z. omega (arith, z)))) (λ e. absurd (apart 7 e (λ z. omega (arith, z)) (λ z. omega (arith, z))))

    adds : (weight : Work → ℕ) → IsWeight weight → TurnWeighs lib site rows rows (rules_of a) (rules_of b) (state_of a mine) (state_of b theirs) t turned weight 0 (weight w)
    adds weight i =
        record {
          decl = λ depth x s c left n k. absurd (other (does (stmt.Decl x) s (only x.name c) c) 0 left.rule (decl_kind x s (only x.name c) c) (λ z. omega (arith, z)) (λ z. omega (arith, z)));
          call = λ depth x s g d left n q at k runs. absurd (other (does (stmt.Call x) s g d) 1 left.rule (call_kind x s g d) (λ z. omega (arith, z)) (λ z. omega (arith, z)));
          scatter = λ depth x s g d left n out k. plus_zero _ ∙ (of_scatter x s g d left.rule).work depth weight i;
          condition = λ depth x s g d left n out k. plus_zero _ ∙ (of_if x s g d left.rule).work depth weight i;
          declared = λ name e s c left n k. absurd (other (declares name e s c) 4 left.rule refl (λ z. omega (arith, z)) (λ z. omega (arith, z)));
          told = λ u e depth x s g d v q. absurd (not_done_at lib site rows t a mine b theirs m u e q.done.done);
        }

    keeps : (v k : ℕ) → (v ≡ t → ⊥) → TurnLeaves lib site rows rows (rules_of a) (rules_of b) (state_of a mine) (state_of b theirs) t turned v k 0 (new v k)
    keeps v k ne =
        record {
          decl = λ depth x s c left n q. absurd (other (does (stmt.Decl x) s (only x.name c) c) 0 left.rule (decl_kind x s (only x.name c) c) (λ z. omega (arith, z)) (λ z. omega (arith, z)));
          call = λ depth x s g d left n q at k_ runs. absurd (other (does (stmt.Call x) s g d) 1 left.rule (call_kind x s g d) (λ z. omega (arith, z)) (λ z. omega (arith, z)));
          scatter = λ depth x s g d left n q k_. no_less _ (new v k) (hit v k t) ((of_scatter x s g d left.rule).leaves depth v k) (hit_other v k t ne);
          condition = λ depth x s g d left n q k_. no_less _ (new v k) (hit v k t) ((of_if x s g d left.rule).leaves depth v k) (hit_other v k t ne);
          declared = λ name e s c left n q. absurd (other (declares name e s c) 4 left.rule refl (λ z. omega (arith, z)) (λ z. omega (arith, z)));
          told = λ u e depth x s g d v_ q. absurd (not_done_at lib site rows t a mine b theirs m u e q.done.done);
        }

    costs : (task : TaskCost) → TurnSpends lib site rows rows (rules_of a) (rules_of b) (state_of a mine) (state_of b theirs) t turned task 0 1
    costs task =
        record {
          decl = λ depth x s c left n k. absurd (other (does (stmt.Decl x) s (only x.name c) c) 0 left.rule (decl_kind x s (only x.name c) c) (λ z. omega (arith, z)) (λ z. omega (arith, z)));
          call = λ depth x s g d left n q at k runs. absurd (other (does (stmt.Call x) s g d) 1 left.rule (call_kind x s g d) (λ z. omega (arith, z)) (λ z. omega (arith, z)));
          scatter = λ depth x s g d left n out k. head_alone _ ((of_scatter x s g d left.rule).spends depth task);
          condition = λ depth x s g d left n out k. head_alone _ ((of_if x s g d left.rule).spends depth task);
          declared = λ name e s c left n k. absurd (other (declares name e s c) 4 left.rule refl (λ z. omega (arith, z)) (λ z. omega (arith, z)));
          told = λ u e depth x s g d v q. absurd (not_done_at lib site rows t a mine b theirs m u e q.done.done);
        }

    pub entered : (depth : ℕ) (f : Form) (root : IsRoot lib depth f) (p : Grown lib site rows a mine depth f) → IsOnce lib site rows t a mine b theirs p → HasEntered lib site rows t a mine b theirs w new 1 depth f p
    entered depth f root p once =
        record {
          grown = moved lib site rows rows (rules_of a) (rules_of b) (state_of a mine) (state_of b theirs) t (grows lib site rows t a mine b theirs m) (spares lib site rows t a mine b theirs m) turned p (root_callable lib depth f root) (rows_same lib site rows t a mine b theirs m (askers lib site rows (rules_of a) (state_of a mine) p));
          weighs = λ weight i.
              let e = weighed lib site rows rows (rules_of a) (rules_of b) (state_of a mine) (state_of b theirs) t (grows lib site rows t a mine b theirs m) (spares lib site rows t a mine b theirs m) turned weight i 0 (weight w) (adds weight i) p (root_callable lib depth f root) (rows_same lib site rows t a mine b theirs m (askers lib site rows (rules_of a) (state_of a mine) p)) in
              let none = once 0 in
              let all = once (weight w) in
              omega (arith, e, none, all);
          leaves = λ v k n.
              let e = leaves lib site rows rows (rules_of a) (rules_of b) (state_of a mine) (state_of b theirs) t (grows lib site rows t a mine b theirs m) (spares lib site rows t a mine b theirs m) turned v k 0 (new v k) (keeps v k n) p (root_callable lib depth f root) (rows_same lib site rows t a mine b theirs m (askers lib site rows (rules_of a) (state_of a mine) p)) in
              let none = once 0 in
              let all = once (new v k) in
              omega (arith, e, none, all);
          spends = λ task.
              let e = spends lib site rows rows (rules_of a) (rules_of b) (state_of a mine) (state_of b theirs) t (grows lib site rows t a mine b theirs m) (spares lib site rows t a mine b theirs m) turned task 0 1 (costs task) p (root_callable lib depth f root) (rows_same lib site rows t a mine b theirs m (askers lib site rows (rules_of a) (state_of a mine) p)) in
              let none = once 0 in
              let all = once 1 in
              omega (arith, e, none, all);
        }

pub enters : BlocksEnter
enters =
    record {
      scatter = λ lib site rows t a mine b theirs m x s g d w new is h depth f root p once.
          entered lib site rows t a mine b theirs m w new (does (stmt.Scatter x) s g d) is (into_scatter lib site rows t a mine b theirs m w new x s g d h) depth f root p once;
      condition = λ lib site rows t a mine b theirs m x s g d w new is h depth f root p once.
          entered lib site rows t a mine b theirs m w new (does (stmt.If x) s g d) is (into_if lib site rows t a mine b theirs m w new x s g d h) depth f root p once;
    }
