-- Where a plan ends: no step is ready.
use Rattle.std.specs.Prelude.{◌≡◌, ◌≤◌, ℕ, suc, ◌+◌, true, List, Option, Some, slice_get}
use Rattle.wdl_base.specs.declared.fault.Fault.{Fault}
use Rattle.wdl_base.specs.declared.place.Segment.{Segment}
use Rattle.wdl_value.specs.declared.env.Bind.{Bind}
use Rattle.wdl_value.specs.Tables.{Row}
use Rattle.wdl_typed.specs.declared.flow.FlowDef.{FlowDef}
use Rattle.wdl_typed.specs.Bodies.{Library}
use Rattle.wdl_typed.specs.Flow.{flow}
use Rattle.wdl_typed.specs.Journal.{keys_distinct}
use Rattle.wdl_typed.specs.Kept.{is_checked}
use Rattle.flow_laws.specs.Laws.{run_with}
use Rattle.value_net.specs.Nets.{AllStuck}
use Rattle.net_laws.specs.Cost.{TaskCost, flow_cost}
use Rattle.net_laws.specs.Growing as net
use Rattle.net_laws.specs.Growing.{whole}
use Rattle.net_laws.specs.Net.{Given, Work, slot_keys}
use Rattle.plan_lists.specs.Laws.{Ended}
use Rattle.plan_lists.specs.Lists.{JobTest, Listed, unanswered}
use Rattle.plan_layout.specs.declared.layout.Layout.{Layout}
use Rattle.plan_growth.specs.declared.instance.Instance.{Instance}
use Rattle.plan_growth.specs.Entering.{Sown}
use Rattle.plan_growth.specs.Growth.{AskedCall, IsGrowing, sheet_of}

-- The flow from scratch is what the lists tell of, and the evaluations are no more than it costs.
pub record EndsAs (lib : Library) (site : List ℕ) (rows : List Row) (depth k : ℕ) (given : List Bind) (place : List Segment) (g : Given) (v : Sown) (waiting answered : JobTest → ℕ) (faults : List Fault) (count : ℕ)
    (paid : TaskCost → ℕ) : Type 0 where
  pub rules : List net.Rule
  pub ended : Ended (flow (run_with lib site rows) (suc depth) k given place) rows waiting answered faults count (sheet_of v rules) g
  pub within : (task : TaskCost) → paid task ≤ flow_cost (run_with lib site rows) task (suc depth) k given place

abbrev pub GrowthsEnd : Type 0
GrowthsEnd =
    (lib : Library) (main : Option ℕ) → is_checked lib main ≡ true → (layout : Layout) (site : List ℕ) (rows : List Row) (depth k : ℕ) (f : FlowDef) → slice_get lib.flows k ≡ Some f
    → (given : List Bind) (place : List Segment) (g : Given) (ds : List ℕ) → keys_distinct (slot_keys g.names) ≡ true → (v : Sown) (is : List Instance) (listed : Work) (asked : List AskedCall) (paid : TaskCost → ℕ)
    → IsGrowing lib layout site rows depth (whole f given place g ds) v is listed asked paid → AllStuck v
    → (waiting answered : JobTest → ℕ) (faults : List Fault) (count : ℕ) → Listed listed (λ (t : JobTest). waiting t + answered t) faults count
    → ((t : JobTest) → waiting (unanswered rows t) ≡ waiting t) → ((t : JobTest) → answered (unanswered rows t) ≡ 0) → EndsAs lib site rows depth k given place g v waiting answered faults count paid
