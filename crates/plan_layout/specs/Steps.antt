-- What each call that lays out a part has done.
use Rattle.std.specs.Prelude.{◌≡◌, ℕ, ◌+◌, List, ◌++◌, Some, slice_get}
use Rattle.wdl_typed.specs.declared.flow.FlowDef.{FlowDef}
use Rattle.wdl_typed.specs.declared.flow.Statement.{Statement}
use Rattle.wdl_typed.specs.Bodies.{Library, library}
use Rattle.wdl_typed.specs.Flow.{Names}
use Rattle.net_laws.specs.Growing.{body_given}
use Rattle.plan_layout.specs.declared.layout.BodyLayout.{BodyLayout}
use Rattle.plan_layout.specs.declared.layout.FlowLayout.{FlowLayout}
use Rattle.plan_layout.specs.declared.layout.Need.{Need}
use Rattle.plan_layout.specs.declared.layout.StatementLayout.{StatementLayout}
use Rattle.plan_layout.specs.declared.scope.Next.{Next}
use Rattle.plan_layout.specs.declared.scope.Origin.{Origin}
use Rattle.plan_layout.specs.declared.scope.CellScope.{CellScope}
use Rattle.plan_layout.specs.Laid.{HasSlots, IsLaidAs, Laid, Stand, anything, beginning, behind_all, behind_names, behind_one, one, whole}
use Rattle.plan_layout.specs.Paths.{body_at, flow_body}

abbrev pub lib_of : Origin → Library
lib_of o = library o.checked.now.structs o.checked.now.tasks o.checked.now.flows

abbrev pub root_of : Origin → List Statement
root_of o = flow_body (slice_get o.checked.now.flows o.flow)

abbrev pub stand_of : CellScope → Next → ℕ → Stand
stand_of s n index =
    record { names = s.names; calls = s.calls; path = s.path; index = index; next_name = n.name; next_call = n.call; next_done = n.done }

abbrev pub scope_of : Stand → CellScope
scope_of a = record { names = a.names; calls = a.calls; path = a.path }

-- Bodies were added behind the others.
abbrev pub Grows : List BodyLayout → List BodyLayout → Type 0
Grows old new = (more : List BodyLayout) × (new ≡ old ++ more)

-- A statement has its slots, and what it gives out is seen.
pub record Settles (needs after : List Need) (inner done blocks : ℕ) (given : Names) (s : CellScope) (n : Next) (t : CellScope) (m : Next) (l : StatementLayout) : Type 0 where
  pub needs_are : l.needs ≡ needs
  pub after_are : l.after ≡ after
  pub inner_is : l.inner ≡ inner
  pub slots : (index : ℕ) → HasSlots given (stand_of s n index) done l
  pub behind : (index : ℕ) → stand_of t m (index + 1) ≡ behind_names given blocks (stand_of s n index)

-- A statement was laid out, where it stands there, and the stand is the one behind it.
pub record LaysOne (o : Origin) (st : Statement) (index : ℕ) (s : CellScope) (n : Next) (old : List BodyLayout) (t : CellScope) (m : Next) (new : List BodyLayout) (l : StatementLayout) : Type 0 where
  pub laid : slice_get (body_at (root_of o) s.path) index ≡ Some st → Laid anything (lib_of o) o.flow (root_of o) new (one st (stand_of s n index) l)
  pub behind : stand_of t m (index + 1) ≡ behind_one (lib_of o) st (stand_of s n index)
  pub grows : Grows old new

-- A body was laid out, where its path leads to it, and has that number.
pub record LaysBody (o : Origin) (ss : List Statement) (names calls : List Need) (path : List ℕ) (before after : ℕ) (old new : List BodyLayout) (number : ℕ) : Type 0 where
  pub body : BodyLayout
  pub there : slice_get new number ≡ Some body
  pub laid : body_at (root_of o) path ≡ ss → Laid anything (lib_of o) o.flow (root_of o) new (whole ss names calls path before after body)
  pub grows : Grows old new

-- the scope behind the statements of a body
abbrev pub scope_behind : Origin → List Statement → CellScope → ℕ → ℕ → CellScope
scope_behind o ss s before after = scope_of (behind_all (lib_of o) ss (beginning s.names s.calls s.path (body_given (lib_of o) ss) before after))

-- A workflow was laid out.
pub record LaysFlow (o : Origin) (f : FlowDef) (old new : List BodyLayout) (l : FlowLayout) : Type 0 where
  pub grows : Grows old new
  pub laid : IsLaidAs anything (lib_of o) new o.flow f l
