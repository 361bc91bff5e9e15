-- The laws of the growth of plans, each the promise of a function in `laws`.
use Rattle.std.specs.Prelude.{◌≡◌, ◌≤◌, ℕ, ◌+◌, true, List, [], ◌∷◌, Option, Some, length, slice_get}
use Rattle.wdl_base.specs.declared.place.Segment.{Segment}
use Rattle.wdl_value.specs.declared.env.Bind.{Bind}
use Rattle.wdl_value.specs.Tables.{Row}
use Rattle.wdl_typed.specs.declared.flow.FlowDef.{FlowDef}
use Rattle.wdl_typed.specs.declared.flow.Statement.{Statement}
use Rattle.wdl_typed.specs.declared.flow.Statement.TheVariants as stmt
use Rattle.wdl_typed.specs.declared.flow.TCall.{TCall}
use Rattle.wdl_typed.specs.declared.task.TDecl.{TDecl}
use Rattle.wdl_typed.specs.Bodies.{Library}
use Rattle.wdl_typed.specs.Declarations.{plain_key}
use Rattle.wdl_typed.specs.Journal.{keys_distinct}
use Rattle.wdl_typed.specs.Kept.{is_checked}
use Rattle.value_net.specs.Nets.{IsTaken, empty}
use Rattle.net_laws.specs.Cost.{TaskCost}
use Rattle.net_laws.specs.Growing.{Form, all, whole}
use Rattle.net_laws.specs.Net.{Given, Work, find, no_work, slot_keys}
use Rattle.net_laws.specs.Planned.{counted}
use Rattle.plan_moves.specs.Sheets.{Sheet}
use Rattle.plan_layout.specs.declared.layout.BodyLayout.{BodyLayout}
use Rattle.plan_layout.specs.declared.layout.FlowLayout.{FlowLayout}
use Rattle.plan_layout.specs.declared.layout.Layout.{Layout}
use Rattle.plan_layout.specs.declared.layout.StatementLayout.{StatementLayout}
use Rattle.plan_layout.specs.Cells.{slots_at}
use Rattle.plan_layout.specs.Laid as laid
use Rattle.plan_layout.specs.Laid.{IsLayout, Laid, Stand, body_seen}
use Rattle.plan_layout.specs.Sees.{FlowSees, Sees, with_outputs}
use Rattle.plan_growth.specs.Begun.{AllSit, HasBegun, all_given, base_at, hits, scope_at}
use Rattle.plan_growth.specs.declared.instance.Instance.{Instance}
use Rattle.plan_growth.specs.declared.rule.Rule.TheVariants as rule
use Rattle.plan_growth.specs.Entering.{Plot, Sown, dones_at, flow_dones, with_flow}
use Rattle.plan_growth.specs.Growth.{IsGrowing, AskedCall}
use Rattle.plan_growth.specs.Keeps.{BlocksGoOn, CallsGoOn, DeclarationsGoOn, IsAt, JointsGoOn}

-- The statements of a body that was just entered have begun to grow, at every depth.
abbrev pub BodiesBegin : Type 0
BodiesBegin =
    (lib : Library) (site : List ℕ) (rows : List Row) (b : Sheet) (owners bases : List ℕ) (place : List Segment) (flow : ℕ) (root : List Statement) (bodies : List BodyLayout) (ss : List Statement) (a : Stand)
    (ls : List StatementLayout) → Laid (Sees lib) lib flow root bodies (laid.all ss a ls) → (t : ℕ) → AllSit b owners lib bases place t ss a ls → (depth : ℕ)
    → HasBegun lib site rows b owners depth (all ss (scope_at bases a place) (all_given lib bases a ss) (dones_at (base_at bases a) ls)) no_work (λ v k. hits v k t ss)

-- Each kind of step keeps a plan growing.
pub record PlansGoOn : Type 0 where
  pub joints : (lib : Library) (layout : Layout) (site : List ℕ) (rows : List Row) (depth : ℕ) (form : Form) (v : Sown) (is : List Instance) (listed : Work) (asked : List AskedCall) (paid : TaskCost → ℕ)
      → IsGrowing lib layout site rows depth form v is listed asked paid → (t : ℕ) (w : Sown) (taken : IsTaken v t w) → JointsGoOn lib layout site rows depth form v is listed asked paid t w taken.step
  pub declarations : (lib : Library) (layout : Layout) (site : List ℕ) (rows : List Row) (depth : ℕ) (form : Form) (v : Sown) (is : List Instance) (listed : Work) (asked : List AskedCall) (paid : TaskCost → ℕ)
      → IsGrowing lib layout site rows depth form v is listed asked paid → (t : ℕ) (w : Sown) (taken : IsTaken v t w) → DeclarationsGoOn lib layout site rows depth form v is listed asked paid t w taken.step
  pub blocks : (lib : Library) (layout : Layout) (site : List ℕ) (rows : List Row) (depth : ℕ) (form : Form) (v : Sown) (is : List Instance) (listed : Work) (asked : List AskedCall) (paid : TaskCost → ℕ)
      → IsGrowing lib layout site rows depth form v is listed asked paid → (t : ℕ) (w : Sown) (taken : IsTaken v t w) (i k : ℕ) (code : slice_get v.rules t ≡ Some (rule.Statement i k)) (q : Instance) (body : BodyLayout) (flow : FlowDef)
      (l : StatementLayout) → BlocksGoOn lib layout site rows depth form v is listed asked paid t w taken.step i k code q body flow l
  pub calls : (lib : Library) (layout : Layout) (site : List ℕ) (rows : List Row) (depth : ℕ) (form : Form) (v : Sown) (is : List Instance) (listed : Work) (asked : List AskedCall) (paid : TaskCost → ℕ)
      → IsGrowing lib layout site rows depth form v is listed asked paid → (t : ℕ) (w : Sown) (taken : IsTaken v t w) (i k : ℕ) (code : slice_get v.rules t ≡ Some (rule.Statement i k)) (q : Instance) (body : BodyLayout) (flow : FlowDef)
      (l : StatementLayout) (x : TCall) (at : IsAt lib layout is i k q body flow l (stmt.Call x)) → CallsGoOn lib layout site rows depth form v is listed asked paid t w taken.step i k code q body flow l x at

-- A plan begins as a net that grows of the main workflow, whose names are those of its layout.
abbrev pub PlansBegin : Type 0
PlansBegin =
    (lib : Library) (layout : Layout) (site : List ℕ) (rows : List Row) → IsLayout (Sees lib) lib layout → (main : Option ℕ) → is_checked lib main ≡ true → (k : ℕ) (f : FlowDef) → slice_get lib.flows k ≡ Some f → FlowSees lib f
    → (fl : FlowLayout) → slice_get layout.flows k ≡ Some fl → (own : BodyLayout) → slice_get layout.bodies fl.body ≡ Some own → (given : List Bind) (depth : ℕ) → 24 ≤ depth
    → (let p : Plot = with_flow f given [] fl own (record { net = empty; instances = [] }) in
    (g : Given) × IsGrowing lib layout site rows depth (whole f given [] g (flow_dones f fl own 0)) p.net p.instances (counted (length f.body) no_work) [] (λ task. 0)
    × (g.names ≡ slots_at (0 ∷ []) (with_outputs (body_seen lib f) f.outputs)) × (keys_distinct (slot_keys g.names) ≡ true)
    × ((j : ℕ) (d : TDecl) → slice_get f.outputs j ≡ Some d → find g.names (plain_key d.name) ≡ Some (fl.first_output + j)))
