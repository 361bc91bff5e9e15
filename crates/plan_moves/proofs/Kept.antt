-- What every move keeps.
use Rattle.std.proofs.Common.{◌≡◌, ℕ, zero, suc, ◌+◌, Bool, true, cond, List, [], ◌∷◌, Option, Some, None, length, slice_get, arith, ap, refl, sym, ◌∙◌}
use Rattle.std.proofs.lemmas.Bool.{and_from, and_parts, false≢true, ne_eqb, true≢false}
use Rattle.wdl_value.specs.declared.value.Value.{Value}
use Rattle.wdl_value.specs.Outcome.{Outcome}
use Rattle.wdl_value.specs.Tables.{Row}
use Rattle.wdl_typed.specs.declared.expr.TExpr.{TExpr}
use Rattle.wdl_typed.specs.Bodies.{Library}
use Rattle.wdl_typed.specs.KnownTypes.{is_some}
use Rattle.step_net.specs.Views.{Wants}
use Rattle.value_net.specs.Nets.{value_at}
use Rattle.net_laws.specs.Growing.{IsDone, NamesNeeded, Rule, State, are_set, is_set}
use Rattle.net_laws.specs.Net.{Cells, Scope}
use Rattle.net_laws.specs.Rules.{head}
use Rattle.net_laws.proofs.Shown.{head_same, on_head}
use Rattle.plan_moves.specs.Laws.{HasHead}
use Rattle.net_laws.specs.Askers.{Asker}
use Rattle.net_laws.specs.Moving.{Grows, OthersAnswered, Untouched, hit}
use Rattle.plan_moves.specs.Sheets.{IsMove, Sheet, needs_in, rules_of, state_of, taken_in}

pub plus_zero : (n : ℕ) → n + 0 ≡ n
plus_zero n = omega arith

pub zero_plus : (n : ℕ) → n ≡ 0 → 0 + 0 ≡ n + 0
zero_plus n e = omega (arith, e)

pub no_less : (n l k : ℕ) → n ≡ l → k ≡ 0 → n + 0 ≡ k + l
no_less n l k e z = omega (arith, e, z)

-- Another step has no leaf of this one.
pub hit_other : (v k t : ℕ) → (v ≡ t → ⊥) → hit v k t ≡ 0
hit_other v k t n = ap (λ (b : Bool). cond b k 0) (ne_eqb t v (λ e. n (sym e)))

as_head : (cells : Cells) (o : Option (Outcome Value)) → on_head cells (λ (r : Outcome Value). Some r) None o ≡ o
as_head cells None = refl
as_head cells (Some r) = refl

-- Lists of one length have elements at the same places.
pub there_too : {A B : Type 0} (xs : List A) (ys : List B) (i : ℕ) (x : A) → length xs ≡ length ys → slice_get xs i ≡ Some x → (y : B) × (slice_get ys i ≡ Some y)
there_too [] ys i x same e = absurd (let f : ⊥ = cc in f)
there_too (z ∷ xs) [] i x same e = absurd (omega (arith, same))
there_too (z ∷ xs) (y ∷ ys) zero x same e = (y, refl)
there_too (z ∷ xs) (y ∷ ys) (suc i) x same e = there_too xs ys i x (omega (arith, same)) e

some_in : (o : Option Wants) → taken_in o ≡ true → (w : Wants) × (o ≡ Some w)
some_in None h = absurd (false≢true h)
some_in (Some w) h = (w, refl)

pub value_in : (o : Option Value) → is_some o ≡ true → (x : Value) × (o ≡ Some x)
value_in None h = absurd (false≢true h)
value_in (Some x) h = (x, refl)

pub sets_kept : (a b : State) → ((c : ℕ) → is_set a c ≡ true → b.cells c ≡ a.cells c) → (cs : List ℕ) → are_set a cs ≡ true → are_set b cs ≡ true
sets_kept a b same [] h = refl
sets_kept a b same (c ∷ cs) h =
    let p = and_parts (is_set a c) (are_set a cs) h in
    and_from (is_set b c) (are_set b cs) (ap is_some (same c p.0) ∙ p.0) (sets_kept a b same cs p.1)

module _ (lib : Library) (site : List ℕ) (rows : List Row) (t : ℕ) (a : Sheet) (mine : List ℕ) (b : Sheet) (theirs : List ℕ) (m : IsMove t a mine b theirs) where
  -- The step of the move was not taken.
  pub not_done : taken_in (slice_get a.steps t) ≡ true → ⊥
  not_done h = true≢false (sym h ∙ ap taken_in m.there ∙ m.fresh)

  pub not_done_at : (u : ℕ) → u ≡ t → taken_in (slice_get a.steps u) ≡ true → ⊥
  not_done_at u e h = not_done (ap (λ (n : ℕ). taken_in (slice_get a.steps n)) (sym e) ∙ h)

  done_same : (u : ℕ) → taken_in (slice_get a.steps u) ≡ true → slice_get b.steps u ≡ slice_get a.steps u
  done_same u h =
      let w = some_in (slice_get a.steps u) h in
      m.steps u w.0 (λ e. not_done (ap (λ (n : ℕ). taken_in (slice_get a.steps n)) (sym e) ∙ h)) w.1 ∙ sym w.1

  left_same : (u : ℕ) (r : Rule) → (u ≡ t → ⊥) → slice_get a.rules u ≡ Some r → slice_get b.steps u ≡ slice_get a.steps u
  left_same u r n e = let w = there_too a.rules a.steps u r m.pairs e in m.steps u w.0 n w.1 ∙ sym w.1

  cell_same : (c : ℕ) → is_set (state_of a mine) c ≡ true → value_at b.values c ≡ value_at a.values c
  cell_same c h = let x = value_in (value_at a.values c) h in m.kept c x.0 x.1 ∙ sym x.1

  pub grows : Grows lib site rows rows (rules_of a) (rules_of b) (state_of a mine) (state_of b theirs)
  grows =
      record {
        cells = cell_same;
        done = λ u r d. record { rule = m.rules u r d.rule; done = ap taken_in (done_same u d.done) ∙ d.done };
        needs = λ u r d. ap needs_in (done_same u d.done);
      }

  pub spares : (u : ℕ) → (u ≡ t → ⊥) → Untouched lib site rows rows (rules_of a) (rules_of b) (state_of a mine) (state_of b theirs) u
  spares u n =
      record {
        owner = λ c h. m.owners c u h n;
        cells = λ c h. m.others c u h n;
        left = λ r d. record { rule = m.rules u r d.rule; left = ap taken_in (left_same u r n d.rule) ∙ d.left };
        needs = λ r d. ap needs_in (left_same u r n d.rule);
      }

  -- The rows are the same.
  pub rows_same : (qs : List Asker) → OthersAnswered lib site rows rows (rules_of a) (rules_of b) (state_of a mine) (state_of b theirs) t qs
  rows_same qs q c n attempt = refl

  -- ---- the step itself

  pub done_now : (r : Rule) → slice_get a.rules t ≡ Some r → IsDone lib site rows (rules_of b) (state_of b theirs) t r
  done_now r e = record { rule = m.rules t r e; done = ap taken_in m.taken }

  pub needs_now : needs_in (slice_get b.steps t) ≡ needs_in (slice_get a.steps t)
  needs_now = ap needs_in m.taken ∙ sym (ap needs_in m.there)

  pub set_now : are_set (state_of b theirs) (needs_in (slice_get b.steps t)) ≡ true
  set_now = ap (are_set (state_of b theirs)) (ap needs_in m.taken) ∙ sets_kept (state_of a mine) (state_of b theirs) cell_same m.step.needs m.ready

  abbrev pub names_now : (s : Scope) (e : TExpr) → NamesNeeded (state_of a mine) t s e → NamesNeeded (state_of b theirs) t s e
  names_now s e n = record { slots = n.slots; distinct = n.distinct; needs = n.needs; uses = n.uses; cells = needs_now ∙ n.cells }

  pub head_now : (s : Scope) (e : TExpr) (o : Outcome Value) → HasHead b s e o → (n : NamesNeeded (state_of a mine) t s e) → head (value_at b.values) n.slots e ≡ Some o
  head_now s e o h n =
      sym (as_head (value_at b.values) (head (value_at b.values) n.slots e)) ∙ sym (head_same (value_at b.values) (λ (r : Outcome Value). Some r) None s n.distinct e n.slots n.needs)
      ∙ head_same (value_at b.values) (λ (r : Outcome Value). Some r) None s n.distinct e h.slots h.needs ∙ as_head (value_at b.values) (head (value_at b.values) h.slots e) ∙ h.value
