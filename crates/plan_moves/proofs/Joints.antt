-- Moves of joints.
use Rattle.std.proofs.Common.{◌≡◌, ◌<◌, inr, ℕ, List, Some, slice_get, arith, refl, subst, sym, ◌∙◌}
use Rattle.std.proofs.lemmas.Option.{same_Some}
use Rattle.wdl_value.specs.Tables.{Row}
use Rattle.wdl_typed.specs.declared.flow.Statement.TheVariants as stmt
use Rattle.wdl_typed.specs.Bodies.{Library}
use Rattle.net_laws.specs.Growing.{Copied, Ending, Form, Gathered, Rule, copies, declares, does, ends, gathers, only}
use Rattle.net_laws.specs.Askers.{askers}
use Rattle.net_laws.specs.Moving.{Turn, TurnLeaves, TurnSpends, TurnWeighs}
use Rattle.net_laws.specs.Cost.{TaskCost}
use Rattle.net_laws.specs.Net.{Work, no_work}
use Rattle.net_laws.specs.Roots.{IsRoot}
use Rattle.net_laws.proofs.Callable.{root_callable}
use Rattle.net_laws.proofs.Moves.{leaves, moved, spends, weighed}
use Rattle.plan_moves.specs.Laws.{HasMoved, Joins, JointsMove}
use Rattle.plan_moves.specs.Sheets.{Grown, IsMove, Sheet, rules_of, state_of}
use Rattle.plan_moves.proofs.Kept.{grows, not_done_at, spares, rows_same}
use Rattle.plan_moves.proofs.Apart.{call_kind, decl_kind, if_kind, kind, scatter_kind}
use Rattle.plan_moves.proofs.Turns.{same_kind, turn}

module _ (lib : Library) (site : List ℕ) (rows : List Row) (t : ℕ) (a : Sheet) (mine : List ℕ) (b : Sheet) (theirs : List ℕ) where
  -- what the rule's joint is, once it is done
  abbrev Out : Rule → Type 0
  Out (does x s g d) = ⊥
  Out (declares name e s c) = ⊥
  Out (gathers parts c) = Gathered lib site rows (rules_of b) (state_of b theirs) parts c
  Out (ends parts c) = Ending lib site rows (rules_of b) (state_of b theirs) parts c
  Out (copies from c) = Copied lib site rows (rules_of b) (state_of b theirs) from c

  out : (r : Rule) → Joins lib site rows b theirs r → Out r
  out (does x s g d) h = h
  out (declares name e s c) h = h
  out (gathers parts c) h = (t, inr h)
  out (ends parts c) h = (t, inr h)
  out (copies from c) h = (t, inr h)

  joint_kind : (r : Rule) → Joins lib site rows b theirs r → 4 < kind r
  joint_kind (does x s g d) h = absurd h
  joint_kind (declares name e s c) h = absurd h
  joint_kind (gathers parts c) h = omega arith
  joint_kind (ends parts c) h = omega arith
  joint_kind (copies from c) h = omega arith

  module _ (m : IsMove t a mine b theirs) (r : Rule) (is : slice_get a.rules t ≡ Some r) (h : Joins lib site rows b theirs r) where
    -- The step is no statement's.
    apart : (k : ℕ) → kind r ≡ k → k < 5 → ⊥
    apart k e l = let j = joint_kind r h in omega (arith, e, l, j)

    other : (q : Rule) (k : ℕ) → slice_get a.rules t ≡ Some q → kind q ≡ k → k < 5 → ⊥
    other q k e f l = apart k (same_kind lib site rows t a mine b theirs r q k is e f) l

    abbrev turned : Turn lib site rows rows (rules_of a) (rules_of b) (state_of a mine) (state_of b theirs) t
    turned =
        turn lib site rows t a mine b theirs m r is (λ e. absurd (apart 0 e (omega arith))) (λ e. absurd (apart 1 e (omega arith))) (λ e. absurd (apart 2 e (omega arith))) (λ e. absurd (apart 3 e (omega arith)))
        (λ e. absurd (apart 4 e (omega arith)))
        (λ e parts c w. subst Out (same_Some _ _ (sym is ∙ w.left.rule)) (out r h)) (λ e parts c w. subst Out (same_Some _ _ (sym is ∙ w.left.rule)) (out r h))
        (λ e from c w. subst Out (same_Some _ _ (sym is ∙ w.left.rule)) (out r h))

    adds : (weight : Work → ℕ) → TurnWeighs lib site rows rows (rules_of a) (rules_of b) (state_of a mine) (state_of b theirs) t turned weight 0 0
    adds weight =
        record {
          decl = λ depth x s c left n k. absurd (other (does (stmt.Decl x) s (only x.name c) c) 0 left.rule (decl_kind x s (only x.name c) c) (omega arith));
          call = λ depth x s g d left n q at k runs. absurd (other (does (stmt.Call x) s g d) 1 left.rule (call_kind x s g d) (omega arith));
          scatter = λ depth x s g d left n q k. absurd (other (does (stmt.Scatter x) s g d) 2 left.rule (scatter_kind x s g d) (omega arith));
          condition = λ depth x s g d left n q k. absurd (other (does (stmt.If x) s g d) 3 left.rule (if_kind x s g d) (omega arith));
          declared = λ name e s c left n k. absurd (other (declares name e s c) 4 left.rule refl (omega arith));
          told = λ u e depth x s g d w q. absurd (not_done_at lib site rows t a mine b theirs m u e q.done.done);
        }

    keeps : (v k : ℕ) → TurnLeaves lib site rows rows (rules_of a) (rules_of b) (state_of a mine) (state_of b theirs) t turned v k 0 0
    keeps v k =
        record {
          decl = λ depth x s c left n q. absurd (other (does (stmt.Decl x) s (only x.name c) c) 0 left.rule (decl_kind x s (only x.name c) c) (omega arith));
          call = λ depth x s g d left n is_ at q runs. absurd (other (does (stmt.Call x) s g d) 1 left.rule (call_kind x s g d) (omega arith));
          scatter = λ depth x s g d left n o q. absurd (other (does (stmt.Scatter x) s g d) 2 left.rule (scatter_kind x s g d) (omega arith));
          condition = λ depth x s g d left n o q. absurd (other (does (stmt.If x) s g d) 3 left.rule (if_kind x s g d) (omega arith));
          declared = λ name e s c left n q. absurd (other (declares name e s c) 4 left.rule refl (omega arith));
          told = λ u e depth x s g d w q. absurd (not_done_at lib site rows t a mine b theirs m u e q.done.done);
        }

    costs : (task : TaskCost) → TurnSpends lib site rows rows (rules_of a) (rules_of b) (state_of a mine) (state_of b theirs) t turned task 0 0
    costs task =
        record {
          decl = λ depth x s c left n q. absurd (other (does (stmt.Decl x) s (only x.name c) c) 0 left.rule (decl_kind x s (only x.name c) c) (omega arith));
          call = λ depth x s g d left n is_ at q runs. absurd (other (does (stmt.Call x) s g d) 1 left.rule (call_kind x s g d) (omega arith));
          scatter = λ depth x s g d left n o q. absurd (other (does (stmt.Scatter x) s g d) 2 left.rule (scatter_kind x s g d) (omega arith));
          condition = λ depth x s g d left n o q. absurd (other (does (stmt.If x) s g d) 3 left.rule (if_kind x s g d) (omega arith));
          declared = λ name e s c left n q. absurd (other (declares name e s c) 4 left.rule refl (omega arith));
          told = λ u e depth x s g d w q. absurd (not_done_at lib site rows t a mine b theirs m u e q.done.done);
        }

    pub joined : (depth : ℕ) (f : Form) (root : IsRoot lib depth f) (p : Grown lib site rows a mine depth f) → HasMoved lib site rows t a mine b theirs no_work 0 depth f p
    joined depth f root p =
        record {
          grown = moved lib site rows rows (rules_of a) (rules_of b) (state_of a mine) (state_of b theirs) t (grows lib site rows t a mine b theirs m) (spares lib site rows t a mine b theirs m) turned p (root_callable lib depth f root) (rows_same lib site rows t a mine b theirs m (askers lib site rows (rules_of a) (state_of a mine) p));
          weighs = λ weight i.
              let e = weighed lib site rows rows (rules_of a) (rules_of b) (state_of a mine) (state_of b theirs) t (grows lib site rows t a mine b theirs m) (spares lib site rows t a mine b theirs m) turned weight i 0 0 (adds weight) p (root_callable lib depth f root) (rows_same lib site rows t a mine b theirs m (askers lib site rows (rules_of a) (state_of a mine) p)) in
              let z = i.nothing in
              omega (arith, e, z);
          leaves = λ v k n. let e = leaves lib site rows rows (rules_of a) (rules_of b) (state_of a mine) (state_of b theirs) t (grows lib site rows t a mine b theirs m) (spares lib site rows t a mine b theirs m) turned v k 0 0 (keeps v k) p (root_callable lib depth f root) (rows_same lib site rows t a mine b theirs m (askers lib site rows (rules_of a) (state_of a mine) p)) in omega (arith, e);
          spends = λ task. let e = spends lib site rows rows (rules_of a) (rules_of b) (state_of a mine) (state_of b theirs) t (grows lib site rows t a mine b theirs m) (spares lib site rows t a mine b theirs m) turned task 0 0 (costs task) p (root_callable lib depth f root) (rows_same lib site rows t a mine b theirs m (askers lib site rows (rules_of a) (state_of a mine) p)) in omega (arith, e);
        }

pub joints : JointsMove
joints lib site rows t a mine b theirs m r is h depth f root p = joined lib site rows t a mine b theirs m r is h depth f root p
