-- Where no step of a plan is ready, it ends as its flow from scratch.
use Rattle.std.proofs.Common.{◌≡◌, ◌≤◌, ℕ, suc, ◌+◌, slice_get, List, Option, Some, arith, sym, subst, ◌∙◌}
use Rattle.wdl_base.specs.declared.fault.Fault.{Fault}
use Rattle.wdl_typed.specs.declared.flow.FlowDef.{FlowDef}
use Rattle.wdl_typed.specs.Flow.{flow}
use Rattle.net_laws.specs.Net.{Given, Work}
use Rattle.flow_laws.specs.Laws.{run_with}
use Rattle.net_laws.specs.Cost.{TaskCost, flow_cost, flow_cost_at}
use Rattle.net_laws.specs.Works.{evaluated}
use Rattle.net_laws.proofs.Spent.{within as spent_within}
use Rattle.wdl_base.specs.declared.place.Segment.{Segment}
use Rattle.wdl_value.specs.declared.env.Bind.{Bind}
use Rattle.wdl_value.specs.Tables.{Row}
use Rattle.wdl_typed.specs.Bodies.{Library}
use Rattle.net_laws.specs.Growing as growing
use Rattle.plan_moves.specs.Sheets.{rules_of, state_of}
use Rattle.plan_lists.specs.Lists.{JobTest, Listed, Same}
use Rattle.plan_lists.proofs.Ends.{ends, stuck_too}
use Rattle.plan_lists.proofs.Steps.{works}
use Rattle.plan_growth.specs.Growth.{growth_work, sheet_of}
use Rattle.plan_ends.specs.Ends.{GrowthsEnd}

-- ---- the end

-- What weighs the same is listed by the same lists.
pub listed_too : (w x : Work) (jobs : JobTest → ℕ) (faults : List Fault) (count : ℕ) → Same w x → Listed x jobs faults count → Listed w jobs faults count
listed_too w x jobs faults count same l =
    let m = works w x same in
    record { jobs_are = λ is. m.jobs_are is ∙ l.jobs_are is; faults_are = λ is. m.faults_are is ∙ l.faults_are is; count_is = m.count_is ∙ l.count_is }

spends : (lib : Library) (site : List ℕ) (rows : List Row) (desc : ℕ → growing.Rule → Type 0) (st : growing.State) → growing.AllStuck lib site rows desc st → (depth k : ℕ) (f : FlowDef) → slice_get lib.flows k ≡ Some f
    → (given : List Bind) (place : List Segment) (g : Given) (ds : List ℕ) (p : growing.Growing lib site rows desc st depth (growing.whole f given place g ds)) (task : TaskCost)
    → evaluated lib site rows desc st task p ≤ flow_cost (run_with lib site rows) task (suc depth) k given place
spends lib site rows desc st stuck depth k f found given place g ds p task =
    subst
    (λ (o : Option FlowDef). evaluated lib site rows desc st task p ≤ flow_cost_at (run_with lib site rows) task (flow (run_with lib site rows) depth) (flow_cost (run_with lib site rows) task depth) o given place)
    (sym found) (spent_within lib site rows desc st task stuck p)

pub growths_end : GrowthsEnd
growths_end lib main checked layout site rows depth k f found given place g ds distinct v is listed asked paid grows stuck waiting answered faults count l waits over =
    let o = grows.growth in
    let b = sheet_of v o.rules in
    let pairs = grows.even.rules_too in
    record {
      rules = o.rules;
      ended =
          ends lib main checked site rows b o.owners depth k f found given place g ds distinct o.grown waiting answered faults count
          (listed_too (growth_work lib layout site rows o) listed (λ t. waiting t + answered t) faults count grows.weighs l)
          (record { pairs = pairs; stuck = stuck; waits = waits; over = over });
      within =
          λ task. omega (
            arith,
            grows.spends task,
            spends lib site rows (rules_of b) (state_of b o.owners) (stuck_too lib site rows b o.owners pairs stuck) depth k f found given place g ds o.grown task,
          );
    }
