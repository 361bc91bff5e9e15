-- What a step made ready stands behind what waited before.
use Rattle.std.proofs.Common.{◌≡◌, ℕ, List, [], ◌∷◌, ◌++◌, append-nil, Ok, Err, sym, ap, ◌∙◌}
use Rattle.wdl_base.specs.declared.place.Segment.{Segment}
use Rattle.wdl_base.specs.declared.place.Segment.TheVariants as segment
use Rattle.wdl_value.specs.declared.env.Bind.{Bind}
use Rattle.wdl_typed.specs.declared.checked.Checked.{Checked}
use Rattle.wdl_typed.specs.declared.flow.Statement.{Statement, Statement-F, out-Statement}
use Rattle.wdl_typed.specs.declared.flow.Statement.TheOpen as layer
use Rattle.wdl_typed.specs.declared.flow.Target.{Target}
use Rattle.wdl_typed.specs.declared.flow.Target.TheVariants as target
use Rattle.wdl_typed.specs.Flow.{args_met}
use Rattle.wdl_typed.specs.Requests.{Asked, Tried, asks as asks_of}
use Rattle.wdl_task.specs.declared.request.Prepared.{Prepared}
use Rattle.plan_layout.specs.declared.layout.Layout.{Layout}
use Rattle.plan_layout.specs.declared.layout.StatementLayout.{StatementLayout}
use Rattle.plan_growth.specs.declared.rule.Rule.{Rule}
use Rattle.plan_growth.specs.declared.rule.Rule.TheVariants as rule
use Rattle.plan_steps.specs.Doing.{Asks, Called, CalledWith, State, StatementDone, TaskCalled}
use Rattle.plan_steps.specs.Stepping.{CanTake, Did}
use Rattle.plan_steps.specs.Values.{own_env}

module _ (checked : Checked) (layout : Layout) (site : List ℕ) (old : State) (t : ℕ) where
  abbrev pub Readies : State → Type 0
  Readies new = (more : List Prepared) × (new.asks.ready ≡ old.asks.ready ++ more)

  no_more : (new : State) → new.asks ≡ old.asks → Readies new
  no_more new e = ([], ap (λ (a : Asks). a.ready) e ∙ sym (append-nil old.asks.ready))

  by_asked : (place : List Segment) (new : State) (o : Tried Asked) → TaskCalled site place t old.field.faults old.asks new.field.faults new.asks o → Readies new
  by_asked place new (Err f) done = no_more new done.1
  by_asked place new (Ok a) done = (done.1.0 ∷ [], ap (λ (z : Asks). z.ready) done.1.3)

  by_target : (bases : List ℕ) (here place : List Segment) (l : StatementLayout) (args : List Bind) (u : Target) (new : State) → Called checked layout site bases here t l args place old new u → Readies new
  by_target bases here place l args (target.Task c) new done = by_asked place new (asks_of done.0 args) done.4
  by_target bases here place l args (target.Flow c) new done = no_more new done.7

  by_args : (bases : List ℕ) (here place : List Segment) (l : StatementLayout) (u : Target) (o : Tried (List Bind)) (new : State) → CalledWith checked layout site bases here t l u place old new o → Readies new
  by_args bases here place l u (Err f) new done = no_more new done.1
  by_args bases here place l u (Ok args) new done = by_target bases here place l args u new done

  by_layer : (bases : List ℕ) (here : List Segment) (l : StatementLayout) (y : Statement-F Statement) (new : State) → StatementDone checked layout site bases here t l old new y → Readies new
  by_layer bases here l (layer.Decl x) new done = no_more new done.1
  by_layer bases here l (layer.Call x) new done = by_args bases here (here ++ segment.Call x.name ∷ []) l x.target (args_met (own_env old.field.plot.net bases l.needs) x.args) new done
  by_layer bases here l (layer.Scatter x) new done = no_more new done.3
  by_layer bases here l (layer.If x) new done = no_more new done.3

  pub readies : (z : Rule) → CanTake checked layout old t z → (new : State) → Did checked layout site old new t z → Readies new
  readies (rule.Statement i k) m new done =
      by_layer m.instance.bases m.instance.place m.line (out-Statement m.statement) new (done m.instance m.body m.flow m.line m.statement m.here)
  readies (rule.Input i k) m new done = no_more new done.1
  readies (rule.Output i k) m new done = no_more new done.1
  readies (rule.Gathers c) m new done = no_more new done.0.asks
  readies (rule.Ends c) m new done = no_more new done.0.asks
  readies (rule.Copies c) m new done = no_more new done.0.asks
