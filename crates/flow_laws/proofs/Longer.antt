-- Over a table that answers more, every flow of a checked form gives more: by induction on the depth of calls.
use Rattle.std.proofs.Common.{◌≡◌, ℕ, zero, suc, true, ◌⊎◌, inl, inr, nat_lt, length, List, [], ◌∷◌, map, Option, Some, None, slice_get, arith, ap, ◌∙◌, refl}
use Rattle.std.proofs.lemmas.Bool.{lt-ltb, ltb-true, or_cases, or_left, or_right}
use Rattle.wdl_base.specs.declared.place.Segment.{Segment}
use Rattle.wdl_value.specs.declared.env.Bind.{Bind}
use Rattle.wdl_value.specs.Tables.{Row}
use Rattle.wdl_typed.specs.declared.flow.FlowDef.{FlowDef}
use Rattle.wdl_typed.specs.declared.flow.Statement.{fold-Statement}
use Rattle.wdl_typed.specs.Bodies.{Library}
use Rattle.wdl_typed.specs.Flow.{Callee, Flowing, Names, Part, all_given, beginning, body_names, flow, flow_at, flow_run, is_clean, nothing, statement_step, too_many}
use Rattle.wdl_typed.specs.Journal.{keys_distinct}
use Rattle.wdl_typed.specs.Kept.{flow_names}
use Rattle.flow_laws.specs.Below.{AnswersStay, IsBelow}
use Rattle.flow_laws.specs.Laws.{LongerTables, TooManyStay, run_with}
use Rattle.flow_laws.proofs.Called.{CalleesBelow}
use Rattle.flow_laws.proofs.Checked.{IsFlow, IsKept, flow_at_kept, kept, outputs_differ}
use Rattle.flow_laws.proofs.Guarded.{input_names_of, inputs_good, output_names_of, outputs_good}
use Rattle.flow_laws.proofs.KnownNames.{keys_of, lookup_stays}
use Rattle.flow_laws.proofs.Owned.{flow_fresh}
use Rattle.flow_laws.proofs.Runners.{Fresh, Good, good_in_turn, no_more, one_more}
use Rattle.flow_laws.proofs.Statements.{statements_good}
use Rattle.flow_laws.proofs.Under.{Under, ended_stays}
use Rattle.flow_laws.proofs.Within.{within_itself}

pub below_itself : (f : Flowing) → IsBelow f f
below_itself f =
    record {
      names = λ key x h. h;
      calls = λ call h. h;
      jobs = within_itself f.jobs;
      size = omega arith;
      faults = within_itself f.faults;
      count = omega arith;
      clean = λ h. refl;
    }

-- Where the keys differ, what is under another one name by name is below it.
below_from_under : (f g : Flowing) → keys_distinct (keys_of f.names) ≡ true → Under f g → (is_clean f ≡ true → f ≡ g) → IsBelow f g
below_from_under f g d u same =
    record {
      names = lookup_stays f.names g.names u.names d;
      calls = ended_stays f.calls g.calls u.calls;
      jobs = u.jobs;
      size = u.size;
      faults = u.faults;
      count = u.count;
      clean = same;
    }

module _ (lib : Library) (kept : IsKept lib) (site : List ℕ) (a b : List Row) (stay : AnswersStay a b) where
  run_below : (f g : Callee) → CalleesBelow f g → (w : FlowDef) → IsFlow w → (given : List Bind) (place : List Segment)
      → IsBelow (flow_run (run_with lib site a) f w given (beginning place)) (flow_run (run_with lib site b) g w given (beginning place))
  run_below f g below w h given place =
      below_from_under x y (ap keys_distinct (good.left (beginning place)).keys ∙ fresh.distinct) (good.under place [] [] [] [] tt tt fresh) (good.same (beginning place))
    where
      names : Names
      names = body_names (map (fold-Statement Part (statement_step (run_with lib site a) f)) w.body)

      all : Names
      all = all_given (all_given (input_names_of w.inputs) ∷ names ∷ all_given (output_names_of w.outputs) ∷ [])

      x : Flowing
      x = flow_run (run_with lib site a) f w given (beginning place)

      y : Flowing
      y = flow_run (run_with lib site b) g w given (beginning place)

      fresh : Fresh (flow_names w) all.keys
      fresh = flow_fresh (run_with lib site a) f (outputs_differ lib kept) w h

      good : Good (flow_names w) all (flow_run (run_with lib site a) f w given) (flow_run (run_with lib site b) g w given)
      good =
          good_in_turn (one_more (inputs_good (flow_names w) given w.inputs)
          (one_more (statements_good lib site a b stay f g below w.body (flow_names w) h.items)
          (one_more (outputs_good (flow_names w) w.outputs) no_more)))

  at_below : (f g : Callee) → CalleesBelow f g → (o : Option FlowDef) → ((w : FlowDef) → o ≡ Some w → IsFlow w) → (given : List Bind) (place : List Segment)
      → IsBelow (flow_at (run_with lib site a) f o given place) (flow_at (run_with lib site b) g o given place)
  at_below f g below None h given place = below_itself nothing
  at_below f g below (Some w) h given place = run_below f g below w (h w refl) given place

  pub flow_below : (depth : ℕ) → CalleesBelow (flow (run_with lib site a) depth) (flow (run_with lib site b) depth)
  flow_below zero k given place = below_itself nothing
  flow_below (suc depth) k given place =
      at_below (flow (run_with lib site a) depth) (flow (run_with lib site b) depth) (flow_below depth) (slice_get lib.flows k) (flow_at_kept lib kept k) given place

pub too_many_stay : TooManyStay
too_many_stay f g below h = by_case (or_cases (nat_lt 20000 (length f.jobs)) (nat_lt 1000000 f.count) h)
  where
    by_case : (nat_lt 20000 (length f.jobs) ≡ true) ⊎ (nat_lt 1000000 f.count ≡ true) → too_many g ≡ true
    by_case (inl e) = or_left (nat_lt 20000 (length g.jobs)) (nat_lt 1000000 g.count) (lt-ltb 20000 (length g.jobs) (omega (arith, below.size, ltb-true 20000 (length f.jobs) e)))
    by_case (inr e) = or_right (nat_lt 20000 (length g.jobs)) (nat_lt 1000000 g.count) (lt-ltb 1000000 g.count (omega (arith, below.count, ltb-true 1000000 f.count e)))

pub longer_tables : LongerTables
longer_tables lib checked h site a b stay depth = flow_below lib (kept lib checked h) site a b stay depth
