-- Moves of declarations, defaults and outputs.
use Rattle.std.proofs.Common.{◌≡◌, ◌⊎◌, inl, inr, ℕ, List, [], map, Some, slice_get, arith, refl, subst, sym, ◌∙◌}
use Rattle.std.proofs.lemmas.Option.{same_Some}
use Rattle.wdl_value.specs.Tables.{Row}
use Rattle.wdl_typed.specs.declared.expr.TExpr.{TExpr}
use Rattle.wdl_typed.specs.declared.flow.Statement.{Statement, Statement-F, out-Statement}
use Rattle.wdl_typed.specs.declared.flow.Statement.TheOpen as layer
use Rattle.wdl_typed.specs.declared.flow.Statement.TheVariants as stmt
use Rattle.wdl_typed.specs.declared.task.TDecl.{TDecl}
use Rattle.wdl_typed.specs.Bodies.{Library}
use Rattle.wdl_typed.specs.Flow.{Sight, declaration}
use Rattle.wdl_typed.specs.Scope.{names_of}
use Rattle.value_net.specs.Nets.{value_at}
use Rattle.net_laws.specs.Growing.{Form, NamesNeeded, Rule, copies, declares, does, ends, gathers, only, told_decl}
use Rattle.net_laws.specs.Askers.{askers}
use Rattle.net_laws.specs.Moving.{Turn, TurnLeaves, TurnSpends, TurnWeighs, hit}
use Rattle.net_laws.specs.Cost.{TaskCost}
use Rattle.net_laws.specs.Net.{Given, Scope, Work, ended_in, known_in}
use Rattle.net_laws.specs.Rules.{Follows}
use Rattle.net_laws.proofs.Local.{declaration_same}
use Rattle.net_laws.proofs.Lookups.{agree}
use Rattle.net_laws.specs.Roots.{IsRoot}
use Rattle.net_laws.proofs.Callable.{root_callable}
use Rattle.net_laws.proofs.Moves.{leaves, moved, spends, weighed}
use Rattle.net_laws.proofs.Shown.{shows_declaration}
use Rattle.plan_moves.specs.Laws.{DeclarationsMove, DefaultsMove, HasMoved, IsOnce, Tells}
use Rattle.plan_moves.specs.Sheets.{Grown, Holds, IsMove, Sheet, rules_of, state_of}
use Rattle.plan_moves.proofs.Kept.{done_now, grows, hit_other, names_now, not_done_at, plus_zero, set_now, spares, zero_plus, rows_same}
use Rattle.plan_moves.proofs.Apart.{call_kind, if_kind, kind, layer_kind, scatter_kind}
use Rattle.plan_moves.proofs.Turns.{same_kind, turn}

module _ (lib : Library) (site : List ℕ) (rows : List Row) (t : ℕ) (a : Sheet) (mine : List ℕ) (b : Sheet) (theirs : List ℕ) (m : IsMove t a mine b theirs) (holds : Holds t mine theirs) (w : Work) where
  -- ---- what the rule tells

  abbrev Layer : Statement-F Statement → Scope → Given → ℕ → Type 0
  Layer (layer.Decl x) s g d = Tells b x.name x.value s d w
  Layer (layer.Call x) s g d = ⊥
  Layer (layer.Scatter x) s g d = ⊥
  Layer (layer.If x) s g d = ⊥

  abbrev Told : Rule → Type 0
  Told (does x s g d) = Layer (out-Statement x) s g d
  Told (declares name e s c) = Tells b name e s c w
  Told (gathers parts c) = ⊥
  Told (ends parts c) = ⊥
  Told (copies from c) = ⊥

  into : (x : TDecl) (s : Scope) (g : Given) (d : ℕ) → Tells b x.name x.value s d w → Told (does (stmt.Decl x) s g d)
  into x s g d h = subst (λ (y : Statement-F Statement). Layer y s g d) (sym (stmt.outs-Decl x)) h

  back : (x : TDecl) (s : Scope) (g : Given) (d : ℕ) → Told (does (stmt.Decl x) s g d) → Tells b x.name x.value s d w
  back x s g d h = subst (λ (y : Statement-F Statement). Layer y s g d) (stmt.outs-Decl x) h

  -- ---- the step's needs

  follows_now : (name : List ℕ) (e : TExpr) (s : Scope) (c : ℕ) → Tells b name e s c w → (n : NamesNeeded (state_of a mine) t s e)
      → Follows (value_at b.values) s.place n.slots [] (λ (y : Sight). declaration y name e) (only name c) w
  follows_now name e s c h n =
      sym (declaration_same s.place (map (known_in (value_at b.values)) s.names) (map (known_in (value_at b.values)) n.slots) (map (ended_in (value_at b.values)) s.calls) [] name e
      (agree (value_at b.values) s.names n.slots n.distinct n.needs.resolved (names_of e) n.needs.all))
      ∙ shows_declaration (value_at b.values) s n.distinct name e h.slots h.needs (only name c) w h.follows

  module _ (r : Rule) (is : slice_get a.rules t ≡ Some r) (h : Told r) where
    -- The rule is a declaration's.
    kinds : (kind r ≡ 0) ⊎ (kind r ≡ 4)
    kinds = by_rule r h
      where
        by_layer : (y : Statement-F Statement) (s : Scope) (g : Given) (d : ℕ) → Layer y s g d → layer_kind y ≡ 0
        by_layer (layer.Decl x) s g d l = refl
        by_layer (layer.Call x) s g d l = absurd l
        by_layer (layer.Scatter x) s g d l = absurd l
        by_layer (layer.If x) s g d l = absurd l

        by_rule : (q : Rule) → Told q → (kind q ≡ 0) ⊎ (kind q ≡ 4)
        by_rule (does x s g d) l = inl (by_layer (out-Statement x) s g d l)
        by_rule (declares name e s c) l = inr refl
        by_rule (gathers parts c) l = absurd l
        by_rule (ends parts c) l = absurd l
        by_rule (copies from c) l = absurd l

    apart : (k : ℕ) → kind r ≡ k → (k ≡ 0 → ⊥) → (k ≡ 4 → ⊥) → ⊥
    apart k e n o = go kinds
      where
        go : (kind r ≡ 0) ⊎ (kind r ≡ 4) → ⊥
        go (inl z) = n (sym e ∙ z)
        go (inr z) = o (sym e ∙ z)

    other : (q : Rule) (k : ℕ) → slice_get a.rules t ≡ Some q → kind q ≡ k → (k ≡ 0 → ⊥) → (k ≡ 4 → ⊥) → ⊥
    other q k e f n o = apart k (same_kind lib site rows t a mine b theirs r q k is e f) n o

    told_of : (q : Rule) → slice_get a.rules t ≡ Some q → Told q
    told_of q e = subst Told (same_Some _ _ (sym is ∙ e)) h

    abbrev turned : Turn lib site rows rows (rules_of a) (rules_of b) (state_of a mine) (state_of b theirs) t
    turned =
        turn lib site rows t a mine b theirs m r is
        (λ z depth x s c left n k.
        told_decl depth x s c t w (done_now lib site rows t a mine b theirs m (does (stmt.Decl x) s (only x.name c) c) left.rule) (names_now lib site rows t a mine b theirs m s x.value n) (set_now lib site rows t a mine b theirs m) (holds c k.0)
        (follows_now x.name x.value s c (back x s (only x.name c) c (told_of (does (stmt.Decl x) s (only x.name c) c) left.rule)) n))
        (λ e. absurd (apart 1 e (λ z. omega (arith, z)) (λ z. omega (arith, z)))) (λ e. absurd (apart 2 e (λ z. omega (arith, z)) (λ z. omega (arith, z))))
        (λ e. absurd (apart 3 e (λ z. omega (arith, z)) (λ z. omega (arith, z))))
        (λ z name e s c left n k. (
          t,
          names_now lib site rows t a mine b theirs m s e n,
          inr (record {
            taken = done_now lib site rows t a mine b theirs m (declares name e s c) left.rule;
            set = set_now lib site rows t a mine b theirs m;
            own = holds c k.0;
            work = w;
            follows = follows_now name e s c (told_of (declares name e s c) left.rule) n;
          }),
        ))
        (λ e. absurd (apart 5 e (λ z. omega (arith, z)) (λ z. omega (arith, z)))) (λ e. absurd (apart 6 e (λ z. omega (arith, z)) (λ z. omega (arith, z))))
        (λ e. absurd (apart 7 e (λ z. omega (arith, z)) (λ z. omega (arith, z))))

    adds : (weight : Work → ℕ) → TurnWeighs lib site rows rows (rules_of a) (rules_of b) (state_of a mine) (state_of b theirs) t turned weight 0 (weight w)
    adds weight =
        record {
          decl = λ depth x s c left n k. plus_zero (weight w);
          call = λ depth x s g d left n q at k runs. absurd (other (does (stmt.Call x) s g d) 1 left.rule (call_kind x s g d) (λ z. omega (arith, z)) (λ z. omega (arith, z)));
          scatter = λ depth x s g d left n q k. absurd (other (does (stmt.Scatter x) s g d) 2 left.rule (scatter_kind x s g d) (λ z. omega (arith, z)) (λ z. omega (arith, z)));
          condition = λ depth x s g d left n q k. absurd (other (does (stmt.If x) s g d) 3 left.rule (if_kind x s g d) (λ z. omega (arith, z)) (λ z. omega (arith, z)));
          declared = λ name e s c left n k. plus_zero (weight w);
          told = λ u e depth x s g d v q. absurd (not_done_at lib site rows t a mine b theirs m u e q.done.done);
        }

    keeps : (v k : ℕ) → (v ≡ t → ⊥) → TurnLeaves lib site rows rows (rules_of a) (rules_of b) (state_of a mine) (state_of b theirs) t turned v k 0 0
    keeps v k ne =
        record {
          decl = λ depth x s c left n q. zero_plus (hit v k t) (hit_other v k t ne);
          call = λ depth x s g d left n q at k_ runs. absurd (other (does (stmt.Call x) s g d) 1 left.rule (call_kind x s g d) (λ z. omega (arith, z)) (λ z. omega (arith, z)));
          scatter = λ depth x s g d left n q k_. absurd (other (does (stmt.Scatter x) s g d) 2 left.rule (scatter_kind x s g d) (λ z. omega (arith, z)) (λ z. omega (arith, z)));
          condition = λ depth x s g d left n q k_. absurd (other (does (stmt.If x) s g d) 3 left.rule (if_kind x s g d) (λ z. omega (arith, z)) (λ z. omega (arith, z)));
          declared = λ name e s c left n q. zero_plus (hit v k t) (hit_other v k t ne);
          told = λ u e depth x s g d v_ q. absurd (not_done_at lib site rows t a mine b theirs m u e q.done.done);
        }

    costs : (task : TaskCost) → TurnSpends lib site rows rows (rules_of a) (rules_of b) (state_of a mine) (state_of b theirs) t turned task 0 1
    costs task =
        record {
          decl = λ depth x s c left n k. refl;
          call = λ depth x s g d left n q at k runs. absurd (other (does (stmt.Call x) s g d) 1 left.rule (call_kind x s g d) (λ z. omega (arith, z)) (λ z. omega (arith, z)));
          scatter = λ depth x s g d left n q k. absurd (other (does (stmt.Scatter x) s g d) 2 left.rule (scatter_kind x s g d) (λ z. omega (arith, z)) (λ z. omega (arith, z)));
          condition = λ depth x s g d left n q k. absurd (other (does (stmt.If x) s g d) 3 left.rule (if_kind x s g d) (λ z. omega (arith, z)) (λ z. omega (arith, z)));
          declared = λ name e s c left n k. refl;
          told = λ u e depth x s g d v q. absurd (not_done_at lib site rows t a mine b theirs m u e q.done.done);
        }

    pub told : (depth : ℕ) (f : Form) (root : IsRoot lib depth f) (p : Grown lib site rows a mine depth f) → IsOnce lib site rows t a mine b theirs p → HasMoved lib site rows t a mine b theirs w 1 depth f p
    told depth f root p once =
        record {
          grown = moved lib site rows rows (rules_of a) (rules_of b) (state_of a mine) (state_of b theirs) t (grows lib site rows t a mine b theirs m) (spares lib site rows t a mine b theirs m) turned p (root_callable lib depth f root) (rows_same lib site rows t a mine b theirs m (askers lib site rows (rules_of a) (state_of a mine) p));
          weighs = λ weight i.
              let e = weighed lib site rows rows (rules_of a) (rules_of b) (state_of a mine) (state_of b theirs) t (grows lib site rows t a mine b theirs m) (spares lib site rows t a mine b theirs m) turned weight i 0 (weight w) (adds weight) p (root_callable lib depth f root) (rows_same lib site rows t a mine b theirs m (askers lib site rows (rules_of a) (state_of a mine) p)) in
              let none = once 0 in
              let all = once (weight w) in
              omega (arith, e, none, all);
          leaves = λ v k n. let e = leaves lib site rows rows (rules_of a) (rules_of b) (state_of a mine) (state_of b theirs) t (grows lib site rows t a mine b theirs m) (spares lib site rows t a mine b theirs m) turned v k 0 0 (keeps v k n) p (root_callable lib depth f root) (rows_same lib site rows t a mine b theirs m (askers lib site rows (rules_of a) (state_of a mine) p)) in omega (arith, e);
          spends = λ task.
              let e = spends lib site rows rows (rules_of a) (rules_of b) (state_of a mine) (state_of b theirs) t (grows lib site rows t a mine b theirs m) (spares lib site rows t a mine b theirs m) turned task 0 1 (costs task) p (root_callable lib depth f root) (rows_same lib site rows t a mine b theirs m (askers lib site rows (rules_of a) (state_of a mine) p)) in
              let none = once 0 in
              let all = once 1 in
              omega (arith, e, none, all);
        }

pub declarations : DeclarationsMove
declarations lib site rows t a mine b theirs m holds x s c w is h depth f root p once =
    told lib site rows t a mine b theirs m holds w (does (stmt.Decl x) s (only x.name c) c) is (into lib site rows t a mine b theirs m holds w x s (only x.name c) c h) depth f root p once

pub defaults : DefaultsMove
defaults lib site rows t a mine b theirs m holds name e s c w is h depth f root p once = told lib site rows t a mine b theirs m holds w (declares name e s c) is h depth f root p once
