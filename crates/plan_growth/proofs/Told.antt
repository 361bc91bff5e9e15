-- The inputs and outputs of a workflow that was just entered have begun to grow.
use Rattle.std.proofs.Common.{◌≡◌, ℕ, ◌+◌, List, [], ◌∷◌, ◌++◌, map, append-nil, length, Option, Some, None, slice_get, arith, sym, ap, ◌∙◌, subst, refl, inl}
use Rattle.std.proofs.lemmas.List.{length-append, map-append}
use Rattle.wdl_base.specs.declared.place.Segment.{Segment}
use Rattle.wdl_value.specs.declared.env.Bind.{Bind}
use Rattle.wdl_value.specs.declared.value.Value.{Value}
use Rattle.wdl_value.specs.declared.value.Value.TheVariants as v
use Rattle.wdl_value.specs.Tables.{Row}
use Rattle.wdl_typed.specs.declared.expr.TExpr.{TExpr}
use Rattle.wdl_typed.specs.declared.task.TDecl.{TDecl}
use Rattle.wdl_typed.specs.declared.task.TInput.{TInput}
use Rattle.wdl_typed.specs.Bodies.{Library}
use Rattle.wdl_typed.specs.Declarations.{plain_key}
use Rattle.wdl_typed.specs.Journal.{keys_distinct}
use Rattle.wdl_typed.specs.Scope.{lookup, names_of}
use Rattle.value_net.specs.Nets.{joined}
use Rattle.net_laws.specs.Growing as net
use Rattle.net_laws.specs.Growing.{Declared, NamesNeeded, State, absent_input, declares, default_input, given_input, no_input, no_output, nothing_given, only, output_next, takes, tells}
use Rattle.net_laws.specs.Moving.{IsWeight, at_step, hit}
use Rattle.net_laws.specs.Net.{Given, Mark, Scope, Slot, Work, beyond, both_given, both_works, no_work}
use Rattle.net_laws.specs.Works.{evaluated, work_of}
use Rattle.plan_moves.specs.Sheets.{Sheet, needs_in, rules_of, state_of, taken_in}
use Rattle.plan_layout.specs.declared.layout.Need.{Need}
use Rattle.plan_layout.specs.Cells.{cell_at, slot_at, slots_at}
use Rattle.plan_layout.specs.Laid.{with_plain}
use Rattle.plan_layout.specs.Sees.{DefaultSees, ExprSees, InputsSee, OutputsSee}
use Rattle.plan_layout.specs.Spots.{needs_of}
use Rattle.plan_layout.proofs.Needed.{needs_all, needs_resolved, needs_used, slots_keys}
use Rattle.plan_growth.specs.declared.rule.Rule.TheVariants as rule
use Rattle.plan_growth.specs.Begun.{HasBegun, IsFree, hits}
use Rattle.plan_growth.specs.Entering.{cells_of}
use Rattle.plan_growth.specs.News.{New, left_wants}
use Rattle.plan_growth.proofs.Seen.{slots_cells}

-- what is told over names of a workflow's own instance, from a base on
module _ (base : ℕ) (place : List Segment) (calls : List Mark) where
  abbrev pub told_scope : List Need → Scope
  told_scope seen = record { names = slots_at (base ∷ []) seen; calls = calls; place = place }

  pub scope_next : (seen : List Need) (name : List ℕ) (c : ℕ) → c ≡ base + length seen → told_scope (with_plain seen name) ≡ beyond (told_scope seen) (only name c)
  scope_next seen name c e =
      ap (λ (ns : List Slot). record { names = ns; calls = calls; place = place }) (map-append (slot_at (base ∷ [])) seen (record { key = plain_key name; level = 0; slot = length seen } ∷ []))
      ∙ ap (λ (d : ℕ). record { names = slots_at (base ∷ []) seen ++ record { key = plain_key name; cell = d } ∷ []; calls = calls; place = place }) (sym e)
      ∙ ap (λ (ms : List Mark). record { names = slots_at (base ∷ []) seen ++ record { key = plain_key name; cell = c } ∷ []; calls = ms; place = place }) (sym (append-nil calls))

abbrev pub told_cells : ℕ → List Need → TExpr → List ℕ
told_cells base seen e = cells_of (base ∷ []) (needs_of seen (names_of e)) []

-- The step is to tell what the expression comes to, at a cell that is free.
pub record ToldSits (b : Sheet) (owners : List ℕ) (u : ℕ) (name : List ℕ) (e : TExpr) (s : Scope) (c : ℕ) (cells : List ℕ) : Type 0 where
  pub rule_at : slice_get b.rules u ≡ Some (declares name e s c)
  pub step_at : slice_get b.steps u ≡ Some (left_wants cells)
  pub free : IsFree b owners u c

-- ---- the steps of defaults and outputs

module _ (instance base : ℕ) (place : List Segment) where
  abbrev pub one_news : ℕ → List ℕ → List Need → Option TExpr → Option Value → List New
  one_news k name seen d (Some x) = []
  one_news k name seen None None = []
  one_news k name seen (Some e) None =
      record { code = rule.Input instance k; needs = told_cells base seen e; means = declares name e (told_scope base place [] seen) (base + k) } ∷ []

  abbrev pub input_news : List Bind → ℕ → List TInput → List Need → List New
  input_news given k [] seen = []
  input_news given k (i ∷ is) seen = one_news k i.name seen i.value (lookup given (plain_key i.name)) ++ input_news given (k + 1) is (with_plain seen i.name)

  abbrev pub output_news : List Mark → ℕ → List TDecl → List Need → List New
  output_news calls k [] seen = []
  output_news calls k (d ∷ ds) seen =
      record { code = rule.Output instance k; needs = told_cells base seen d.value; means = declares d.name d.value (told_scope base place calls seen) (base + length seen) } ∷ output_news calls (k + 1) ds (with_plain seen d.name)

-- what the inputs from one on give out, and the outputs
abbrev pub inputs_given : ℕ → ℕ → List TInput → Given
inputs_given base k [] = nothing_given
inputs_given base k (i ∷ is) = both_given (only i.name (base + k)) (inputs_given base (k + 1) is)

abbrev pub outputs_given : ℕ → ℕ → List TDecl → Given
outputs_given base k [] = nothing_given
outputs_given base k (d ∷ ds) = both_given (only d.name (base + k)) (outputs_given base (k + 1) ds)

module _ (lib : Library) (site : List ℕ) (rows : List Row) (b : Sheet) (owners : List ℕ) (instance base : ℕ) (place : List Segment) where
  abbrev st : State
  st = state_of b owners

  abbrev Begins : ℕ → net.Form → (ℕ → ℕ → ℕ) → Type 0
  Begins depth f leaves = HasBegun lib site rows b owners depth f no_work leaves

  module _ (calls : List Mark) (seen : List Need) (u : ℕ) (name : List ℕ) (e : TExpr) (c : ℕ) (sees : ExprSees seen e) (h : ToldSits b owners u name e (told_scope base place calls seen) c (told_cells base seen e)) where
    abbrev needed : NamesNeeded st u (told_scope base place calls seen) e
    needed =
        record {
          slots = slots_at (base ∷ []) (needs_of seen (names_of e));
          distinct = ap keys_distinct (slots_keys (base ∷ []) seen) ∙ sees.distinct;
          needs = record { resolved = needs_resolved (base ∷ []) seen (names_of e); all = needs_all (base ∷ []) seen (names_of e) sees.names };
          uses = needs_used (base ∷ []) seen (names_of e);
          cells = ap needs_in h.step_at ∙ append-nil (map (cell_at (base ∷ [])) (needs_of seen (names_of e))) ∙ sym (slots_cells (base ∷ []) (needs_of seen (names_of e)));
        }

    abbrev left_told : Declared lib site rows (rules_of b) st name e (told_scope base place calls seen) c
    left_told = (u, needed, inl (record { rule = h.rule_at; left = ap taken_in h.step_at }, (h.free.0, ap joined h.free.1)))

  -- ---- works and leaves that add up

  none_both : (weight : Work → ℕ) → IsWeight weight → (w : Work) → weight w ≡ weight no_work → weight (both_works no_work w) ≡ weight no_work
  none_both weight is_weight w e =
      let sum = is_weight.both no_work w refl in
      let none = is_weight.nothing in
      omega (arith, sum, none, e)

  plus : (m n i j : ℕ) → m ≡ i → n ≡ j → m + n ≡ i + j
  plus m n i j e f = omega (arith, e, f)

  plus_none : (m n : ℕ) → m ≡ n → m ≡ 0 + n
  plus_none m n e = omega (arith, e)

  -- ---- inputs

  module _ (given : List Bind) where
    abbrev OneSits : ℕ → ℕ → List ℕ → List Need → Option TExpr → Option Value → Type 0
    OneSits u k name seen d (Some x) = slice_get b.values (base + k) ≡ Some (Some x)
    OneSits u k name seen None None = slice_get b.values (base + k) ≡ Some (Some v.Absent)
    OneSits u k name seen (Some e) None = ToldSits b owners u name e (told_scope base place [] seen) (base + k) (told_cells base seen e)

    abbrev pub InputsSit : ℕ → ℕ → List TInput → List Need → Type 0
    InputsSit u k [] seen = Unit {0}
    InputsSit u k (i ∷ is) seen =
        OneSits u k i.name seen i.value (lookup given (plain_key i.name)) × InputsSit (u + length (one_news instance base place k i.name seen i.value (lookup given (plain_key i.name)))) (k + 1) is (with_plain seen i.name)

    one_begins : (depth u k : ℕ) (i : TInput) (is : List TInput) (seen : List Need) (h : Given) (leaves : ℕ → ℕ → ℕ) (o : Option Value) → lookup given (plain_key i.name) ≡ o → (d : Option TExpr) → i.value ≡ d
        → OneSits u k i.name seen d o → DefaultSees seen d → Begins depth (takes given is (beyond (told_scope base place [] seen) (only i.name (base + k))) h) leaves
        → Begins depth (takes given (i ∷ is) (told_scope base place [] seen) (both_given (only i.name (base + k)) h)) (λ w n. hits w n u (one_news instance base place k i.name seen d o) + leaves w n)
    one_begins depth u k i is seen h leaves (Some x) e d f sit sees p =
        record {
          grown = given_input depth given i is (told_scope base place [] seen) h (base + k) x e (ap joined sit) p.grown;
          weighs = λ weight is_weight. none_both weight is_weight (work_of lib site rows (rules_of b) st p.grown) (p.weighs weight is_weight);
          leaves_are = λ w n. plus_none (at_step lib site rows (rules_of b) st w n p.grown) (leaves w n) (p.leaves_are w n);
          spends = λ task. p.spends task;
        }
    one_begins depth u k i is seen h leaves None e None f sit sees p =
        record {
          grown = absent_input depth given i is (told_scope base place [] seen) h (base + k) e f (ap joined sit) p.grown;
          weighs = λ weight is_weight. none_both weight is_weight (work_of lib site rows (rules_of b) st p.grown) (p.weighs weight is_weight);
          leaves_are = λ w n. plus_none (at_step lib site rows (rules_of b) st w n p.grown) (leaves w n) (p.leaves_are w n);
          spends = λ task. p.spends task;
        }
    one_begins depth u k i is seen h leaves None e (Some x) f sit sees p =
        record {
          grown = default_input depth given i is (told_scope base place [] seen) h (base + k) x e f (left_told [] seen u i.name x (base + k) sees sit) p.grown;
          weighs = λ weight is_weight. none_both weight is_weight (work_of lib site rows (rules_of b) st p.grown) (p.weighs weight is_weight);
          leaves_are = λ w n.
              plus (hit w n u) (at_step lib site rows (rules_of b) st w n p.grown) (hit w n u + 0) (leaves w n) (let z : hit w n u ≡ hit w n u + 0 = omega arith in z) (p.leaves_are w n);
          spends = λ task. plus 0 (evaluated lib site rows (rules_of b) st task p.grown) 0 0 refl (p.spends task);
        }

    abbrev pub inputs_leaves : ℕ → ℕ → ℕ → ℕ → List TInput → List Need → ℕ
    inputs_leaves w n u k [] seen = 0
    inputs_leaves w n u k (i ∷ is) seen =
        hits w n u (one_news instance base place k i.name seen i.value (lookup given (plain_key i.name)))
        + inputs_leaves w n (u + length (one_news instance base place k i.name seen i.value (lookup given (plain_key i.name)))) (k + 1) is (with_plain seen i.name)

    pub inputs_begin : (is : List TInput) (seen : List Need) (u k : ℕ) → k ≡ length seen → InputsSee seen is → InputsSit u k is seen → (depth : ℕ)
        → Begins depth (takes given is (told_scope base place [] seen) (inputs_given base k is)) (λ w n. inputs_leaves w n u k is seen)
    inputs_begin [] seen u k at sees sit depth =
        record { grown = no_input depth given (told_scope base place [] seen); weighs = λ weight is_weight. refl; leaves_are = λ w n. refl; spends = λ task. refl }
    inputs_begin (i ∷ is) seen u k at sees sit depth =
        let more = length-append seen (record { key = plain_key i.name; level = 0; slot = length seen } ∷ []) in
        let u_next = u + length (one_news instance base place k i.name seen i.value (lookup given (plain_key i.name))) in
        one_begins depth u k i is seen (inputs_given base (k + 1) is) (λ w n. inputs_leaves w n u_next (k + 1) is (with_plain seen i.name)) (lookup given (plain_key i.name)) refl i.value refl sit.0 sees.0
        (subst (λ (s : Scope). Begins depth (takes given is s (inputs_given base (k + 1) is)) (λ w n. inputs_leaves w n u_next (k + 1) is (with_plain seen i.name)))
        (scope_next base place [] seen i.name (base + k) (omega (arith, at))) (inputs_begin is (with_plain seen i.name) u_next (k + 1) (omega (arith, more, at)) sees.1 sit.1 depth))

  -- ---- outputs

  module _ (calls : List Mark) where
    abbrev pub OutputsSit : ℕ → List TDecl → List Need → Type 0
    OutputsSit u [] seen = Unit {0}
    OutputsSit u (d ∷ ds) seen =
        ToldSits b owners u d.name d.value (told_scope base place calls seen) (base + length seen) (told_cells base seen d.value) × OutputsSit (u + 1) ds (with_plain seen d.name)

    output_begins : (depth u k : ℕ) (d : TDecl) (ds : List TDecl) (seen : List Need) (h : Given) (leaves : ℕ → ℕ → ℕ) → k ≡ length seen → ExprSees seen d.value
        → ToldSits b owners u d.name d.value (told_scope base place calls seen) (base + k) (told_cells base seen d.value)
        → Begins depth (tells ds (beyond (told_scope base place calls seen) (only d.name (base + k))) h) leaves
        → Begins depth (tells (d ∷ ds) (told_scope base place calls seen) (both_given (only d.name (base + k)) h)) (λ w n. hit w n u + leaves w n)
    output_begins depth u k d ds seen h leaves at sees sit p =
        record {
          grown = output_next depth d ds (told_scope base place calls seen) h (base + k) (left_told calls seen u d.name d.value (base + k) sees sit) p.grown;
          weighs = λ weight is_weight. none_both weight is_weight (work_of lib site rows (rules_of b) st p.grown) (p.weighs weight is_weight);
          leaves_are = λ w n. plus (hit w n u) (at_step lib site rows (rules_of b) st w n p.grown) (hit w n u) (leaves w n) refl (p.leaves_are w n);
          spends = λ task. plus 0 (evaluated lib site rows (rules_of b) st task p.grown) 0 0 refl (p.spends task);
        }

    pub outputs_begin : (ds : List TDecl) (seen : List Need) (u k : ℕ) → k ≡ length seen → OutputsSee seen ds → OutputsSit u ds seen → (depth : ℕ)
        → Begins depth (tells ds (told_scope base place calls seen) (outputs_given base k ds)) (λ w n. hits w n u ds)
    outputs_begin [] seen u k at sees sit depth =
        record { grown = no_output depth (told_scope base place calls seen); weighs = λ weight is_weight. refl; leaves_are = λ w n. refl; spends = λ task. refl }
    outputs_begin (d ∷ ds) seen u k at sees sit depth =
        let more = length-append seen (record { key = plain_key d.name; level = 0; slot = length seen } ∷ []) in
        let here : base + length seen ≡ base + k = omega (arith, at) in
        output_begins depth u k d ds seen (outputs_given base (k + 1) ds) (λ w n. hits w n (u + 1) ds) at sees.0
        (subst (λ (c : ℕ). ToldSits b owners u d.name d.value (told_scope base place calls seen) c (told_cells base seen d.value)) here sit.0)
        (subst (λ (s : Scope). Begins depth (tells ds s (outputs_given base (k + 1) ds)) (λ w n. hits w n (u + 1) ds)) (scope_next base place calls seen d.name (base + k) (omega (arith, at)))
        (outputs_begin ds (with_plain seen d.name) (u + 1) (k + 1) (omega (arith, more, at)) sees.1 sit.1 depth))
