-- The laws of flows, for the flow of a run.
use Rattle.std.proofs.Common.{◌≡◌, ℕ, true, false, List, [], ◌∷◌, ◌++◌, Option, Some, None, IsSome, sym, ap, subst, refl}
use Rattle.std.proofs.lemmas.Bool.{false≢true}
use Rattle.wdl_base.specs.declared.entry.Entry.{Entry}
use Rattle.wdl_value.specs.declared.env.Bind.{Bind}
use Rattle.wdl_value.specs.Tables.{has_row, table}
use Rattle.wdl_typed.specs.Bodies.{Library}
use Rattle.wdl_typed.specs.Flow.{Flowing}
use Rattle.wdl_typed.specs.Journal.{fed_after, flow_over, is_asked}
use Rattle.scatter_plan.specs.Plans as plans
use Rattle.scatter_plan.specs.Plans.{flow_with, library_in}
use Rattle.flow_laws.specs.Below.{IsBelow}
use Rattle.flow_laws.specs.Jobs.{jobs_differ}
use Rattle.flow_laws.proofs.Fed.{fed_by_one, journals_grow}
use Rattle.flow_laws.proofs.FlowJobs.{flow_jobs_differ}
use Rattle.ready_core.specs.Cores.{Origin, fed_at, flow_at}
use Rattle.ready_core.specs.Flows.{flow_after, flow_in}

pub main_number : (m : Option ℕ) → IsSome m → (k : ℕ) × (m ≡ Some k)
main_number (Some k) h = (k, refl)
main_number None h = absurd (false≢true h)

pub over_main : (o : Origin) (k : ℕ) → o.checked.main ≡ Some k → flow_at o ≡ flow_over (library_in o.checked) k o.inputs o.site
unfolding flow_after
over_main o k e = ap (λ (m : Option ℕ). λ (j : List Entry). flow_in (library_in o.checked) m o.inputs o.site j) e

same_flows : (m : Option ℕ) (lib : Library) (given : List Bind) (site : List ℕ) → (λ (j : List Entry). plans.flow_in lib m given site (table j)) ≡ flow_in lib m given site
same_flows None lib given site = refl
same_flows (Some k) lib given site = refl

-- The flow of a plan over the rows of a journal is that over the journal.
pub plan_flow : (o : Origin) → (λ (j : List Entry). flow_with o.checked o.inputs o.site (table j)) ≡ flow_at o
unfolding flow_after flow_with
plan_flow o = same_flows o.checked.main (library_in o.checked) o.inputs o.site

module _ (o : Origin) (main : IsSome o.checked.main) where
  abbrev number : ℕ
  number = (main_number o.checked.main main).0

  same : flow_at o ≡ flow_over (library_in o.checked) number o.inputs o.site
  same = over_main o number (main_number o.checked.main main).1

  pub grow : (j more : List Entry) → IsBelow (flow_at o j) (flow_at o (j ++ more))
  grow =
      subst (λ (f : List Entry → Flowing). (j more : List Entry) → IsBelow (f j) (f (j ++ more))) (sym same)
      (journals_grow (library_in o.checked) o.checked.main o.checked.kept number o.inputs o.site)

  pub fed_more : (j : List Entry) (e : Entry) → fed_at o j ≡ true → is_asked e.request (flow_at o j) ≡ true → has_row (table j) e.request.place e.request.attempt ≡ false → fed_at o (j ++ e ∷ []) ≡ true
  fed_more =
      subst
      (λ (f : List Entry → Flowing). (j : List Entry) (e : Entry) → fed_after f [] j ≡ true → is_asked e.request (f j) ≡ true → has_row (table j) e.request.place e.request.attempt ≡ false
      → fed_after f [] (j ++ e ∷ []) ≡ true)
      (sym same) (fed_by_one (library_in o.checked) number o.inputs o.site)

  pub differ : (j : List Entry) → jobs_differ (flow_at o j).jobs ≡ true
  differ =
      subst (λ (f : List Entry → Flowing). (j : List Entry) → jobs_differ (f j).jobs ≡ true) (sym same)
      (λ j. flow_jobs_differ (library_in o.checked) o.checked.main o.checked.kept o.site (table j) 25 number o.inputs [])
