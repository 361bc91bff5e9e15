-- What a step that is ready asks for, and what it made of the state.
use Rattle.std.specs.Prelude.{◌≡◌, ℕ, ◌+◌, ◌<◌, ◌≤◌, true, List, [], length}
use Rattle.wdl_typed.specs.declared.checked.Checked.{Checked}
use Rattle.wdl_typed.specs.declared.expr.TExpr.{TExpr}
use Rattle.wdl_typed.specs.declared.flow.FlowDef.{FlowDef}
use Rattle.wdl_typed.specs.declared.flow.Statement.{Statement, out-Statement}
use Rattle.wdl_typed.specs.declared.task.TDecl.{TDecl}
use Rattle.wdl_typed.specs.declared.task.TInput.{TInput}
use Rattle.wdl_typed.specs.Bodies.{Library, library}
use Rattle.wdl_eval.specs.Ready.{IsReady}
use Rattle.value_net.specs.Nets.{are_set, with_value}
use Rattle.wdl_value.specs.declared.value.Value.TheVariants as v
use Rattle.plan_layout.specs.declared.layout.BodyLayout.{BodyLayout}
use Rattle.plan_layout.specs.declared.layout.FlowLayout.{FlowLayout}
use Rattle.plan_layout.specs.declared.layout.Layout.{Layout}
use Rattle.plan_layout.specs.declared.layout.Need.{Need}
use Rattle.plan_layout.specs.declared.layout.StatementLayout.{StatementLayout}
use Rattle.plan_room.specs.Reached.{AreReached}
use Rattle.plan_growth.specs.declared.instance.Instance.{Instance}
use Rattle.plan_growth.specs.declared.rule.Rule.{Rule}
use Rattle.plan_growth.specs.declared.rule.Rule.TheVariants as rule
use Rattle.plan_growth.specs.Keeps.{IsAt, IsInputAt, IsOutputAt}
use Rattle.plan_steps.specs.Doing.{CanStand, Field, IsPastStatement, State, StatementDone, declared, statement_count}
use Rattle.plan_bodies.specs.Bases.{last_base}
use Rattle.plan_bodies.specs.Joined.{IsCopied, IsGathered, needs_at}
use Rattle.plan_steps.specs.Values.{own_env, own_value}

abbrev pub library_in : Checked → Library
library_in c = library c.structs c.tasks c.flows

-- ---- statements

module _ (checked : Checked) (layout : Layout) where
  pub record CanTakeStatement (s : State) (i k : ℕ) : Type 0 where
    pub instance : Instance
    pub body : BodyLayout
    pub flow : FlowDef
    pub line : StatementLayout
    pub statement : Statement
    pub here : IsAt (library_in checked) layout s.field.plot.instances i k instance body flow line statement
    pub stand : CanStand checked layout instance.bases instance.place line s statement

  -- ---- declarations: defaults of inputs, and outputs

  -- The expression may be evaluated where it stands.
  pub record CanDeclare (s : Field) (q : Instance) (e : TExpr) (needs : List Need) (slot : ℕ) : Type 0 where
    pub some : 0 < length q.bases
    pub cell : last_base q.bases + slot < length s.plot.net.values
    pub reached : AreReached (length s.plot.net.values) q.bases needs
    pub ready : IsReady e (own_env s.plot.net q.bases needs)

  pub record CanTakeInput (s : Field) (i k : ℕ) : Type 0 where
    pub instance : Instance
    pub body : BodyLayout
    pub flow : FlowDef
    pub line : FlowLayout
    pub input : TInput
    pub value : TExpr
    pub needs : List Need
    pub here : IsInputAt (library_in checked) layout s.plot.instances i k instance body flow line input value needs
    pub can : CanDeclare s instance value needs k

  pub record CanTakeOutput (s : Field) (i k : ℕ) : Type 0 where
    pub instance : Instance
    pub body : BodyLayout
    pub flow : FlowDef
    pub line : FlowLayout
    pub output : TDecl
    pub needs : List Need
    pub here : IsOutputAt (library_in checked) layout s.plot.instances i k instance body flow line output needs
    pub can : CanDeclare s instance output.value needs (line.first_output + k)

  -- ---- steps

  pub record CanJoin (s : State) (step into : ℕ) : Type 0 where
    pub cell : into < length s.field.plot.net.values
    pub set : are_set s.field.plot.net.values (needs_at s.field.plot.net step) ≡ true

  abbrev pub CanTake : State → ℕ → Rule → Type 0
  CanTake s step (rule.Statement i k) = CanTakeStatement s i k
  CanTake s step (rule.Input i k) = CanTakeInput s.field i k
  CanTake s step (rule.Output i k) = CanTakeOutput s.field i k
  CanTake s step (rule.Gathers c) = CanJoin s step c
  CanTake s step (rule.Ends c) = CanJoin s step c
  CanTake s step (rule.Copies c) = CanJoin s step c × (0 < length (needs_at s.field.plot.net step))

  abbrev pub DidInput : Field → Field → ℕ → ℕ → Type 0
  DidInput old new i k =
      (q : Instance) (b : BodyLayout) (f : FlowDef) (l : FlowLayout) (x : TInput) (e : TExpr) (needs : List Need) → IsInputAt (library_in checked) layout old.plot.instances i k q b f l x e needs
      → new ≡ declared old (last_base q.bases + k) q.place x.name (own_value old.plot.net q.bases needs e)

  abbrev pub DidOutput : Field → Field → ℕ → ℕ → Type 0
  DidOutput old new i k =
      (q : Instance) (b : BodyLayout) (f : FlowDef) (l : FlowLayout) (x : TDecl) (needs : List Need) → IsOutputAt (library_in checked) layout old.plot.instances i k q b f l x needs
      → new ≡ declared old (last_base q.bases + (l.first_output + k)) q.place x.name (own_value old.plot.net q.bases needs x.value)

  module _ (site : List ℕ) where
    -- what a step made of the state
    abbrev pub DidStatement : State → State → ℕ → ℕ → ℕ → Type 0
    DidStatement old new step i k =
        (q : Instance) (b : BodyLayout) (f : FlowDef) (l : StatementLayout) (x : Statement) → IsAt (library_in checked) layout old.field.plot.instances i k q b f l x
        → StatementDone checked layout site q.bases q.place step l old new (out-Statement x)

    -- Only the net is another.
    pub record OnlyNet (old new : State) : Type 0 where
      pub instances : new.field.plot.instances ≡ old.field.plot.instances
      pub faults : new.field.faults ≡ old.field.faults
      pub count : new.field.count ≡ old.field.count
      pub asks : new.asks ≡ old.asks

    abbrev pub Did : State → State → ℕ → Rule → Type 0
    Did old new step (rule.Statement i k) = DidStatement old new step i k
    Did old new step (rule.Input i k) = DidInput old.field new.field i k × (new.asks ≡ old.asks)
    Did old new step (rule.Output i k) = DidOutput old.field new.field i k × (new.asks ≡ old.asks)
    Did old new step (rule.Gathers c) = OnlyNet old new × IsGathered old.field.plot.net step c new.field.plot.net
    Did old new step (rule.Ends c) = OnlyNet old new × (new.field.plot.net ≡ with_value old.field.plot.net c v.Absent)
    Did old new step (rule.Copies c) = OnlyNet old new × IsCopied old.field.plot.net step c new.field.plot.net

  -- There are too many jobs, or too many instances of statements.
  abbrev pub IsPastTaken : State → ℕ → ℕ → ℕ → Type 0
  IsPastTaken old step i k =
      (q : Instance) (b : BodyLayout) (f : FlowDef) (l : StatementLayout) (x : Statement) → IsAt (library_in checked) layout old.field.plot.instances i k q b f l x
      → IsPastStatement checked layout [] q.bases q.place step l old (out-Statement x)

  abbrev pub IsPastStep : State → ℕ → Rule → Type 0
  IsPastStep old step (rule.Statement i k) = IsPastTaken old step i k
  IsPastStep old step (rule.Input i k) = ⊥
  IsPastStep old step (rule.Output i k) = ⊥
  IsPastStep old step (rule.Gathers c) = ⊥
  IsPastStep old step (rule.Ends c) = ⊥
  IsPastStep old step (rule.Copies c) = ⊥

  -- what it evaluates at most
  abbrev pub IsWithin : State → ℕ → ℕ → Rule → Type 0
  IsWithin old step spent (rule.Statement i k) =
      (q : Instance) (b : BodyLayout) (f : FlowDef) (l : StatementLayout) (x : Statement) → IsAt (library_in checked) layout old.field.plot.instances i k q b f l x
      → spent ≤ statement_count checked layout [] q.bases q.place step l old (out-Statement x)
  IsWithin old step spent (rule.Input i k) = spent ≤ 1
  IsWithin old step spent (rule.Output i k) = spent ≤ 1
  IsWithin old step spent (rule.Gathers c) = spent ≤ 0
  IsWithin old step spent (rule.Ends c) = spent ≤ 0
  IsWithin old step spent (rule.Copies c) = spent ≤ 0
