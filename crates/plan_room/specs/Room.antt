-- The cells that a statement, a body and a workflow speak of are there.
use Rattle.std.specs.Prelude.{◌≡◌, ℕ, ◌+◌, ◌<◌, ◌≤◌, List, [], ◌∷◌, length}
use Rattle.std.specs.List.{All}
use Rattle.wdl_typed.specs.declared.flow.FlowDef.{FlowDef}
use Rattle.plan_layout.specs.declared.layout.BodyLayout.{BodyLayout}
use Rattle.plan_layout.specs.declared.layout.FlowLayout.{FlowLayout}
use Rattle.plan_layout.specs.declared.layout.StatementLayout.{StatementLayout}
use Rattle.plan_room.specs.Reached.{AreReached, HasRoom}

-- What a statement gives out has cells, of an instance whose cells begin at the base.
pub record HasRuns (count base : ℕ) (l : StatementLayout) : Type 0 where
  pub names : 0 < l.names → base + l.first_name + l.names ≤ count
  pub calls : 0 < l.calls → base + l.first_call + l.calls ≤ count
  pub done : base + l.done < count

-- The cells that say that statements are done are among so many.
abbrev pub AreDonesWithin : ℕ → List StatementLayout → Type 0
AreDonesWithin cells ls = All (λ (s : StatementLayout). s.done < cells) ls

-- What a body gives out to such a statement is among its cells.
pub record HasInner (l : StatementLayout) (inner : BodyLayout) : Type 0 where
  pub names : inner.first_name + l.names ≤ inner.cells
  pub calls : inner.first_call + l.calls ≤ inner.cells
  pub dones : AreDonesWithin inner.cells inner.statements

-- A workflow may be entered behind so many cells.
pub record HasFlowRoom (count : ℕ) (f : FlowDef) (layout : FlowLayout) (body : BodyLayout) : Type 0 where
  pub room : HasRoom count [] body
  pub dones : AreDonesWithin body.cells body.statements
  pub given : length layout.inputs ≡ length f.inputs
  pub told : length layout.outputs ≡ length f.outputs
  pub inputs : length f.inputs ≤ body.cells
  pub outputs : layout.first_output + length f.outputs ≤ body.cells
  pub inputs_reached : (first : ℕ) → count ≤ first → All (AreReached (first + body.cells) (first ∷ [])) layout.inputs
  pub outputs_reached : (first : ℕ) → count ≤ first → All (AreReached (first + body.cells) (first ∷ [])) layout.outputs
