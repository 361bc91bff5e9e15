-- Moves of blocks that are not entered: a head that fails, and a condition that is false.
use Rattle.std.proofs.Common.{◌≡◌, ◌+◌, ◌⊎◌, inl, inr, ℕ, List, [], ◌∷◌, ◌++◌, Some, Ok, Err, slice_get, codes, arith, ap, refl, subst, sym, ◌∙◌}
use Rattle.std.proofs.lemmas.Option.{same_Some}
use Rattle.wdl_base.specs.declared.place.Segment.TheVariants as segment
use Rattle.wdl_value.specs.Tables.{Row}
use Rattle.wdl_typed.specs.declared.flow.Statement.{Statement, Statement-F, out-Statement}
use Rattle.wdl_typed.specs.declared.flow.Statement.TheOpen as layer
use Rattle.wdl_typed.specs.declared.flow.Statement.TheVariants as stmt
use Rattle.wdl_typed.specs.declared.flow.TIf.{TIf}
use Rattle.wdl_typed.specs.declared.flow.TScatter.{TScatter}
use Rattle.wdl_typed.specs.Bodies.{Library}
use Rattle.wdl_typed.specs.Flow.{fault_at}
use Rattle.net_laws.specs.Growing.{Form, HasCells, IsLeft, IsOutside, Keeps, KeepsCells, NamesNeeded, Rule, copies, declares, does, ends, failed_if, failed_scatter, false_if, gathers, one, only}
use Rattle.net_laws.specs.Askers.{askers}
use Rattle.net_laws.specs.Moving.{Turn, TurnLeaves, TurnSpends, TurnWeighs, at_step, hit}
use Rattle.net_laws.specs.Cost.{TaskCost}
use Rattle.net_laws.specs.Net.{Given, Scope, Work, no_work}
use Rattle.net_laws.specs.Works.{evaluated, faulty, work_of}
use Rattle.net_laws.specs.Roots.{IsRoot}
use Rattle.net_laws.proofs.Callable.{root_callable}
use Rattle.net_laws.proofs.Moves.{leaves, moved, spends, weighed}
use Rattle.plan_moves.specs.Laws.{BlocksPass, FailsIf, FailsScatter, HasMoved, IsFalse, IsOnce, IsStill}
use Rattle.plan_moves.specs.Sheets.{Grown, Holds, IsMove, Sheet, rules_of, state_of}
use Rattle.plan_moves.proofs.Kept.{done_now, grows, head_now, hit_other, names_now, not_done_at, plus_zero, set_now, spares, zero_plus, rows_same}
use Rattle.plan_moves.proofs.Apart.{call_kind, decl_kind, kind, layer_kind}
use Rattle.plan_moves.proofs.Turns.{New, same_kind, turn}

weigh : (weight : Work → ℕ) (v w : Work) → w ≡ v → weight v + 0 ≡ weight w
weigh weight v w e = plus_zero (weight v) ∙ ap weight (sym e)

module _ (lib : Library) (site : List ℕ) (rows : List Row) (t : ℕ) (a : Sheet) (mine : List ℕ) (b : Sheet) (theirs : List ℕ) (m : IsMove t a mine b theirs) (holds : Holds t mine theirs) (w : Work) where
  -- ---- what the rule tells

  abbrev OfIfs : TIf Statement → Scope → Given → ℕ → Type 0
  OfIfs x s g d = FailsIf t a mine b x s w ⊎ IsFalse lib b x s g d w

  abbrev Layer : Statement-F Statement → Scope → Given → ℕ → Type 0
  Layer (layer.Decl x) s g d = ⊥
  Layer (layer.Call x) s g d = ⊥
  Layer (layer.Scatter x) s g d = FailsScatter t a mine b x s w
  Layer (layer.If x) s g d = OfIfs x s g d

  abbrev Told : Rule → Type 0
  Told (does x s g d) = Layer (out-Statement x) s g d
  Told (declares name e s c) = ⊥
  Told (gathers parts c) = ⊥
  Told (ends parts c) = ⊥
  Told (copies from c) = ⊥

  into_scatter : (x : TScatter Statement) (s : Scope) (g : Given) (d : ℕ) → FailsScatter t a mine b x s w → Told (does (stmt.Scatter x) s g d)
  into_scatter x s g d h = subst (λ (y : Statement-F Statement). Layer y s g d) (sym (stmt.outs-Scatter x)) h

  into_if : (x : TIf Statement) (s : Scope) (g : Given) (d : ℕ) → OfIfs x s g d → Told (does (stmt.If x) s g d)
  into_if x s g d h = subst (λ (y : Statement-F Statement). Layer y s g d) (sym (stmt.outs-If x)) h

  -- ---- the step's needs and cells

  still_kept : (g : Given) (d : ℕ) → IsStill t a mine b → KeepsCells lib site rows (rules_of a) (state_of a mine) t g d → KeepsCells lib site rows (rules_of b) (state_of b theirs) t g d
  still_kept g d still k = record { names = λ i e l. one_ _ (k.names i e l); calls = λ i e l. one_ _ (k.calls i e l); done = one_ d k.done }
    where
      one_ : (c : ℕ) → Keeps (state_of a mine) t c → Keeps (state_of b theirs) t c
      one_ c q = (holds c q.0, still c q.0 ∙ q.1)

  own_now : (g : Given) (d : ℕ) → KeepsCells lib site rows (rules_of a) (state_of a mine) t g d → HasCells lib site rows (rules_of b) (state_of b theirs) t g d
  own_now g d k = record { names = λ i e l. holds _ (k.names i e l).0; calls = λ i e l. holds _ (k.calls i e l).0; done = holds d k.done.0 }

  abbrev if_told : (depth : ℕ) (x : TIf Statement) (s : Scope) (g : Given) (d : ℕ) → IsLeft lib site rows (rules_of a) (state_of a mine) t (does (stmt.If x) s g d) → NamesNeeded (state_of a mine) t s x.cond
      → IsOutside lib site rows (rules_of a) (state_of a mine) x.body g → KeepsCells lib site rows (rules_of a) (state_of a mine) t g d → OfIfs x s g d → New lib site rows t a mine b theirs depth (one (stmt.If x) s g d)
  if_told depth x s g d left n out k (inl h) =
      failed_if depth x s g d t h.code (done_now lib site rows t a mine b theirs m (does (stmt.If x) s g d) left.rule) (names_now lib site rows t a mine b theirs m s x.cond n) (set_now lib site rows t a mine b theirs m)
      (head_now lib site rows t a mine b theirs m s x.cond (Err h.code) h.value_of_head n) (record { keys = out.keys; named = out.named }) (still_kept g d h.still k)
  if_told depth x s g d left n out k (inr h) =
      false_if depth x s g d t h.value (done_now lib site rows t a mine b theirs m (does (stmt.If x) s g d) left.rule) (names_now lib site rows t a mine b theirs m s x.cond n) (set_now lib site rows t a mine b theirs m)
      (head_now lib site rows t a mine b theirs m s x.cond (Ok h.value) h.value_of_head n) h.off (record { keys = out.keys; named = out.named }) (own_now g d k) h.gives h.done

  if_weighs : (weight : Work → ℕ) (depth : ℕ) (x : TIf Statement) (s : Scope) (g : Given) (d : ℕ) (left : IsLeft lib site rows (rules_of a) (state_of a mine) t (does (stmt.If x) s g d)) (n : NamesNeeded (state_of a mine) t s x.cond)
      (out : IsOutside lib site rows (rules_of a) (state_of a mine) x.body g) (k : KeepsCells lib site rows (rules_of a) (state_of a mine) t g d) (h : OfIfs x s g d)
      → weight (work_of lib site rows (rules_of b) (state_of b theirs) (if_told depth x s g d left n out k h)) + 0 ≡ weight w
  if_weighs weight depth x s g d left n out k (inl h) = weigh weight (faulty (fault_at (s.place ++ segment.If x.number ∷ []) (codes "if") h.code)) w h.work
  if_weighs weight depth x s g d left n out k (inr h) = weigh weight no_work w h.work

  if_costs : (task : TaskCost) (depth : ℕ) (x : TIf Statement) (s : Scope) (g : Given) (d : ℕ) (left : IsLeft lib site rows (rules_of a) (state_of a mine) t (does (stmt.If x) s g d)) (n : NamesNeeded (state_of a mine) t s x.cond)
      (out : IsOutside lib site rows (rules_of a) (state_of a mine) x.body g) (k : KeepsCells lib site rows (rules_of a) (state_of a mine) t g d) (h : OfIfs x s g d)
      → evaluated lib site rows (rules_of b) (state_of b theirs) task (if_told depth x s g d left n out k h) + 0 ≡ 1
  if_costs task depth x s g d left n out k (inl h) = refl
  if_costs task depth x s g d left n out k (inr h) = refl

  if_leaves : (v k : ℕ) → (v ≡ t → ⊥) → (depth : ℕ) (x : TIf Statement) (s : Scope) (g : Given) (d : ℕ) (left : IsLeft lib site rows (rules_of a) (state_of a mine) t (does (stmt.If x) s g d)) (n : NamesNeeded (state_of a mine) t s x.cond)
      (out : IsOutside lib site rows (rules_of a) (state_of a mine) x.body g) (q : KeepsCells lib site rows (rules_of a) (state_of a mine) t g d) (h : OfIfs x s g d)
      → at_step lib site rows (rules_of b) (state_of b theirs) v k (if_told depth x s g d left n out q h) + 0 ≡ hit v k t + 0
  if_leaves v k ne depth x s g d left n out q (inl h) = zero_plus (hit v k t) (hit_other v k t ne)
  if_leaves v k ne depth x s g d left n out q (inr h) = zero_plus (hit v k t) (hit_other v k t ne)

  module _ (r : Rule) (is : slice_get a.rules t ≡ Some r) (h : Told r) where
    kinds : (kind r ≡ 2) ⊎ (kind r ≡ 3)
    kinds = by_rule r h
      where
        by_layer : (y : Statement-F Statement) (s : Scope) (g : Given) (d : ℕ) → Layer y s g d → (layer_kind y ≡ 2) ⊎ (layer_kind y ≡ 3)
        by_layer (layer.Decl x) s g d l = absurd l
        by_layer (layer.Call x) s g d l = absurd l
        by_layer (layer.Scatter x) s g d l = inl refl
        by_layer (layer.If x) s g d l = inr refl

        by_rule : (q : Rule) → Told q → (kind q ≡ 2) ⊎ (kind q ≡ 3)
        by_rule (does x s g d) l = by_layer (out-Statement x) s g d l
        by_rule (declares name e s c) l = absurd l
        by_rule (gathers parts c) l = absurd l
        by_rule (ends parts c) l = absurd l
        by_rule (copies from c) l = absurd l

    apart : (k : ℕ) → kind r ≡ k → (k ≡ 2 → ⊥) → (k ≡ 3 → ⊥) → ⊥
    apart k e n o = go kinds
      where
        go : (kind r ≡ 2) ⊎ (kind r ≡ 3) → ⊥
        go (inl z) = n (sym e ∙ z)
        go (inr z) = o (sym e ∙ z)

    other : (q : Rule) (k : ℕ) → slice_get a.rules t ≡ Some q → kind q ≡ k → (k ≡ 2 → ⊥) → (k ≡ 3 → ⊥) → ⊥
    other q k e f n o = apart k (same_kind lib site rows t a mine b theirs r q k is e f) n o

    of_scatter : (x : TScatter Statement) (s : Scope) (g : Given) (d : ℕ) → slice_get a.rules t ≡ Some (does (stmt.Scatter x) s g d) → FailsScatter t a mine b x s w
    of_scatter x s g d e = subst (λ (y : Statement-F Statement). Layer y s g d) (stmt.outs-Scatter x) (subst Told (same_Some _ _ (sym is ∙ e)) h)

    of_if : (x : TIf Statement) (s : Scope) (g : Given) (d : ℕ) → slice_get a.rules t ≡ Some (does (stmt.If x) s g d) → OfIfs x s g d
    of_if x s g d e = subst (λ (y : Statement-F Statement). Layer y s g d) (stmt.outs-If x) (subst Told (same_Some _ _ (sym is ∙ e)) h)

    abbrev turned : Turn lib site rows rows (rules_of a) (rules_of b) (state_of a mine) (state_of b theirs) t
    turned =
        turn lib site rows t a mine b theirs m r is (λ e. absurd (apart 0 e (λ z. omega (arith, z)) (λ z. omega (arith, z)))) (λ e. absurd (apart 1 e (λ z. omega (arith, z)) (λ z. omega (arith, z))))
        (λ z depth x s g d left n out k.
        failed_scatter depth x s g d t (of_scatter x s g d left.rule).code (done_now lib site rows t a mine b theirs m (does (stmt.Scatter x) s g d) left.rule) (names_now lib site rows t a mine b theirs m s x.over n)
        (set_now lib site rows t a mine b theirs m) (head_now lib site rows t a mine b theirs m s x.over (Err (of_scatter x s g d left.rule).code) (of_scatter x s g d left.rule).value_of_head n) (record { keys = out.keys; named = out.named })
        (still_kept g d (of_scatter x s g d left.rule).still k))
        (λ z depth x s g d left n out k. if_told depth x s g d left n out k (of_if x s g d left.rule))
        (λ e. absurd (apart 4 e (λ z. omega (arith, z)) (λ z. omega (arith, z)))) (λ e. absurd (apart 5 e (λ z. omega (arith, z)) (λ z. omega (arith, z))))
        (λ e. absurd (apart 6 e (λ z. omega (arith, z)) (λ z. omega (arith, z)))) (λ e. absurd (apart 7 e (λ z. omega (arith, z)) (λ z. omega (arith, z))))

    adds : (weight : Work → ℕ) → TurnWeighs lib site rows rows (rules_of a) (rules_of b) (state_of a mine) (state_of b theirs) t turned weight 0 (weight w)
    adds weight =
        record {
          decl = λ depth x s c left n k. absurd (other (does (stmt.Decl x) s (only x.name c) c) 0 left.rule (decl_kind x s (only x.name c) c) (λ z. omega (arith, z)) (λ z. omega (arith, z)));
          call = λ depth x s g d left n q at k runs. absurd (other (does (stmt.Call x) s g d) 1 left.rule (call_kind x s g d) (λ z. omega (arith, z)) (λ z. omega (arith, z)));
          scatter = λ depth x s g d left n q k. weigh weight (faulty (fault_at (s.place ++ segment.Scatter x.number ∷ []) x.item (of_scatter x s g d left.rule).code)) w (of_scatter x s g d left.rule).work;
          condition = λ depth x s g d left n q k. if_weighs weight depth x s g d left n q k (of_if x s g d left.rule);
          declared = λ name e s c left n k. absurd (other (declares name e s c) 4 left.rule refl (λ z. omega (arith, z)) (λ z. omega (arith, z)));
          told = λ u e depth x s g d v q. absurd (not_done_at lib site rows t a mine b theirs m u e q.done.done);
        }

    keeps : (v k : ℕ) → (v ≡ t → ⊥) → TurnLeaves lib site rows rows (rules_of a) (rules_of b) (state_of a mine) (state_of b theirs) t turned v k 0 0
    keeps v k ne =
        record {
          decl = λ depth x s c left n q. absurd (other (does (stmt.Decl x) s (only x.name c) c) 0 left.rule (decl_kind x s (only x.name c) c) (λ z. omega (arith, z)) (λ z. omega (arith, z)));
          call = λ depth x s g d left n q at k_ runs. absurd (other (does (stmt.Call x) s g d) 1 left.rule (call_kind x s g d) (λ z. omega (arith, z)) (λ z. omega (arith, z)));
          scatter = λ depth x s g d left n q k_. zero_plus (hit v k t) (hit_other v k t ne);
          condition = λ depth x s g d left n q k_. if_leaves v k ne depth x s g d left n q k_ (of_if x s g d left.rule);
          declared = λ name e s c left n q. absurd (other (declares name e s c) 4 left.rule refl (λ z. omega (arith, z)) (λ z. omega (arith, z)));
          told = λ u e depth x s g d v_ q. absurd (not_done_at lib site rows t a mine b theirs m u e q.done.done);
        }

    costs : (task : TaskCost) → TurnSpends lib site rows rows (rules_of a) (rules_of b) (state_of a mine) (state_of b theirs) t turned task 0 1
    costs task =
        record {
          decl = λ depth x s c left n k. absurd (other (does (stmt.Decl x) s (only x.name c) c) 0 left.rule (decl_kind x s (only x.name c) c) (λ z. omega (arith, z)) (λ z. omega (arith, z)));
          call = λ depth x s g d left n q at k runs. absurd (other (does (stmt.Call x) s g d) 1 left.rule (call_kind x s g d) (λ z. omega (arith, z)) (λ z. omega (arith, z)));
          scatter = λ depth x s g d left n q k. refl;
          condition = λ depth x s g d left n q k. if_costs task depth x s g d left n q k (of_if x s g d left.rule);
          declared = λ name e s c left n k. absurd (other (declares name e s c) 4 left.rule refl (λ z. omega (arith, z)) (λ z. omega (arith, z)));
          told = λ u e depth x s g d v q. absurd (not_done_at lib site rows t a mine b theirs m u e q.done.done);
        }

    pub passed : (depth : ℕ) (f : Form) (root : IsRoot lib depth f) (p : Grown lib site rows a mine depth f) → IsOnce lib site rows t a mine b theirs p → HasMoved lib site rows t a mine b theirs w 1 depth f p
    passed depth f root p once =
        record {
          grown = moved lib site rows rows (rules_of a) (rules_of b) (state_of a mine) (state_of b theirs) t (grows lib site rows t a mine b theirs m) (spares lib site rows t a mine b theirs m) turned p (root_callable lib depth f root) (rows_same lib site rows t a mine b theirs m (askers lib site rows (rules_of a) (state_of a mine) p));
          weighs = λ weight i.
              let e = weighed lib site rows rows (rules_of a) (rules_of b) (state_of a mine) (state_of b theirs) t (grows lib site rows t a mine b theirs m) (spares lib site rows t a mine b theirs m) turned weight i 0 (weight w) (adds weight) p (root_callable lib depth f root) (rows_same lib site rows t a mine b theirs m (askers lib site rows (rules_of a) (state_of a mine) p)) in
              let none = once 0 in
              let all = once (weight w) in
              omega (arith, e, none, all);
          leaves = λ v k n. let e = leaves lib site rows rows (rules_of a) (rules_of b) (state_of a mine) (state_of b theirs) t (grows lib site rows t a mine b theirs m) (spares lib site rows t a mine b theirs m) turned v k 0 0 (keeps v k n) p (root_callable lib depth f root) (rows_same lib site rows t a mine b theirs m (askers lib site rows (rules_of a) (state_of a mine) p)) in omega (arith, e);
          spends = λ task.
              let e = spends lib site rows rows (rules_of a) (rules_of b) (state_of a mine) (state_of b theirs) t (grows lib site rows t a mine b theirs m) (spares lib site rows t a mine b theirs m) turned task 0 1 (costs task) p (root_callable lib depth f root) (rows_same lib site rows t a mine b theirs m (askers lib site rows (rules_of a) (state_of a mine) p)) in
              let none = once 0 in
              let all = once 1 in
              omega (arith, e, none, all);
        }

pub blocks : BlocksPass
blocks =
    record {
      scatter = λ lib site rows t a mine b theirs m holds x s g d w is h depth f root p once.
          passed lib site rows t a mine b theirs m holds w (does (stmt.Scatter x) s g d) is (into_scatter lib site rows t a mine b theirs m holds w x s g d h) depth f root p once;
      condition = λ lib site rows t a mine b theirs m holds x s g d w is h depth f root p once.
          passed lib site rows t a mine b theirs m holds w (does (stmt.If x) s g d) is (into_if lib site rows t a mine b theirs m holds w x s g d (inl h)) depth f root p once;
      off = λ lib site rows t a mine b theirs m holds x s g d w is h depth f root p once.
          passed lib site rows t a mine b theirs m holds w (does (stmt.If x) s g d) is (into_if lib site rows t a mine b theirs m holds w x s g d (inr h)) depth f root p once;
    }
