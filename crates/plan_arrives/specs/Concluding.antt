-- A call that was asked, as the plan has it: its statement and line, its task, and its cells once it has ended.
use Rattle.std.specs.Prelude.{◌≡◌, ◌<◌, ◌+◌, ℕ, true, List, Some, Ok, length, slice_get, [], ◌∷◌, ◌++◌}
use Rattle.wdl_base.specs.declared.answer.Answer.{Answer}
use Rattle.wdl_base.specs.declared.place.Segment.TheVariants as segment
use Rattle.wdl_value.specs.declared.env.Bind.{Bind}
use Rattle.wdl_value.specs.Tables.{Row}
use Rattle.wdl_typed.specs.declared.flow.FlowDef.{FlowDef}
use Rattle.wdl_typed.specs.declared.flow.Statement.{Statement, out-Statement}
use Rattle.wdl_typed.specs.declared.flow.Statement.TheOpen as layer
use Rattle.wdl_typed.specs.declared.flow.Statement.TheVariants as stmt
use Rattle.wdl_typed.specs.declared.flow.Target.TheVariants as target
use Rattle.wdl_typed.specs.Bodies.{Library}
use Rattle.wdl_typed.specs.Declarations.{task_typed}
use Rattle.wdl_typed.specs.Requests.{Asked, tells}
use Rattle.wdl_task.specs.Readiness.{are_given}
use Rattle.net_laws.specs.Cost.{TaskCost}
use Rattle.net_laws.specs.Growing.{Form}
use Rattle.net_laws.specs.Net.{Work}
use Rattle.plan_moves.specs.Telling.{HasOutputs}
use Rattle.plan_layout.specs.declared.layout.BodyLayout.{BodyLayout}
use Rattle.plan_layout.specs.declared.layout.Layout.{Layout}
use Rattle.plan_layout.specs.declared.layout.StatementLayout.{StatementLayout}
use Rattle.plan_layout.specs.Paths.{body_at}
use Rattle.plan_room.specs.Room.{HasRuns}
use Rattle.plan_growth.specs.declared.instance.Instance.{Instance}
use Rattle.plan_growth.specs.declared.rule.Rule.TheVariants as rule
use Rattle.plan_growth.specs.Blocks.{with_ended}
use Rattle.plan_growth.specs.Entering.{Sown}
use Rattle.plan_growth.specs.Growth.{AskedCall, IsAsker, IsGrowing, sheet_of}
use Rattle.plan_growth.specs.Meaning.{IsInstance}
use Rattle.plan_may.specs.May.{HasInputs, last_base}
use Rattle.plan_arrives.specs.Arrivals.{SetsCells}

module _ (lib : Library) (layout : Layout) (site : List ℕ) (rows : List Row) (depth : ℕ) (form : Form) (v : Sown) (is : List Instance) (listed : Work) (asked : List AskedCall) (paid : TaskCost → ℕ)
    (growing : IsGrowing lib layout site rows depth form v is listed asked paid) (c : AskedCall) (q : IsAsker lib layout site rows growing.growth c) where
  pub record Concludes : Type 0 where
    -- where its statement is
    pub i : ℕ
    pub k : ℕ
    pub code : slice_get v.rules c.step ≡ Some (rule.Statement i k)
    pub instance : Instance
    pub body : BodyLayout
    pub flow : FlowDef
    pub of_instance : IsInstance lib layout is i instance body flow
    pub line : StatementLayout
    pub line_there : slice_get body.statements k ≡ Some line
    pub statement : Statement
    pub statement_there : slice_get (body_at flow.body body.path) k ≡ Some statement
    pub some : 0 < length instance.bases
    -- what it calls
    pub statement_is : statement ≡ stmt.Call q.call
    pub is_call : out-Statement statement ≡ layer.Call q.call
    pub place : c.place ≡ instance.place ++ segment.Call q.call.name ∷ []
    pub number : ℕ
    pub target_is : q.call.target ≡ target.Task number
    pub task_there : slice_get lib.tasks number ≡ Some c.task
    pub typed : task_typed lib.structs c.task ≡ true
    pub given_fit : are_given lib.structs c.task.inputs c.args ≡ true
    -- its cells
    pub names : line.names ≡ length c.task.outputs
    pub runs : HasRuns (length v.values) (last_base instance.bases) line
    pub ends : (a : Asked) (dir : List ℕ) (answer : Answer) (outs : List Bind) → tells lib.structs c.task a dir answer ≡ Ok outs
        → (let w : Sown = with_ended (last_base instance.bases + line.first_name) (last_base instance.bases + line.done) outs v in
        SetsCells v growing.growth.owners c.step w × HasOutputs (sheet_of w growing.growth.rules) q.call q.given outs)

abbrev pub CallsConclude : Type 0
CallsConclude =
    (lib : Library) (layout : Layout) (site : List ℕ) (rows : List Row) (depth : ℕ) (form : Form) (v : Sown) (is : List Instance) (listed : Work) (asked : List AskedCall) (paid : TaskCost → ℕ)
    → HasInputs lib form → (growing : IsGrowing lib layout site rows depth form v is listed asked paid) (c : AskedCall) (q : IsAsker lib layout site rows growing.growth c)
    → Concludes lib layout site rows depth form v is listed asked paid growing c q
