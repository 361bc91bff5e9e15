-- The laws of cells that are there, each the promise of a function in `laws`.
use Rattle.std.specs.Prelude.{◌≡◌, ℕ, ◌+◌, ◌≤◌, List, [], ◌∷◌, ◌++◌, Some, length, slice_get}
use Rattle.std.specs.List.{All}
use Rattle.wdl_base.specs.declared.name.Key.{Key}
use Rattle.wdl_typed.specs.declared.flow.FlowDef.{FlowDef}
use Rattle.wdl_typed.specs.declared.flow.Statement.{Statement}
use Rattle.wdl_typed.specs.declared.flow.Statement.TheVariants as stmt
use Rattle.wdl_typed.specs.declared.flow.TIf.{TIf}
use Rattle.wdl_typed.specs.declared.flow.TScatter.{TScatter}
use Rattle.wdl_typed.specs.Bodies.{Library}
use Rattle.plan_layout.specs.declared.layout.BodyLayout.{BodyLayout}
use Rattle.plan_layout.specs.declared.layout.FlowLayout.{FlowLayout}
use Rattle.plan_layout.specs.declared.layout.Need.{Need}
use Rattle.plan_layout.specs.declared.layout.StatementLayout.{StatementLayout}
use Rattle.plan_layout.specs.Laid.{IsLaidAs, Laid, Stand, one, whole}
use Rattle.plan_layout.specs.Sees.{Sees}
use Rattle.plan_layout.specs.Spots.{needs_of}
use Rattle.plan_room.specs.Reached.{AreReached, HasRoom}
use Rattle.plan_room.specs.Room.{AreDonesWithin, HasFlowRoom, HasInner, HasRuns}

abbrev pub NeedsFit : Type 0
NeedsFit = (count : ℕ) (bases : List ℕ) (seen : List Need) (keys : List Key) → AreReached count bases seen → AreReached count bases (needs_of seen keys)

-- Its lines have runs of cells at each base from which its cells are there; and it has room inside these bodies.
pub record BodyFits (b : BodyLayout) : Type 0 where
  pub runs : (base count : ℕ) → base + b.cells ≤ count → All (HasRuns count base) b.statements
  pub dones : AreDonesWithin b.cells b.statements

pub record BodiesFit : Type 0 where
  pub fit : (lib : Library) (flow : ℕ) (root : List Statement) (bodies : List BodyLayout) (ss : List Statement) (names calls : List Need) (path : List ℕ) (before after : ℕ) (b : BodyLayout)
      → Laid (Sees lib) lib flow root bodies (whole ss names calls path before after b) → BodyFits b
  pub room : (lib : Library) (flow : ℕ) (root : List Statement) (bodies : List BodyLayout) (ss : List Statement) (names calls : List Need) (path : List ℕ) (before after : ℕ) (b : BodyLayout)
      → Laid (Sees lib) lib flow root bodies (whole ss names calls path before after b) → (count : ℕ) (outer : List ℕ) → length path ≡ length outer
      → ((first : ℕ) → count ≤ first → AreReached (first + b.cells) (outer ++ first ∷ []) names) → ((first : ℕ) → count ≤ first → AreReached (first + b.cells) (outer ++ first ∷ []) calls)
      → HasRoom count outer b

-- the body of a block, which may be entered behind so many cells
pub record BlockFits (bodies : List BodyLayout) (count : ℕ) (bases : List ℕ) (l : StatementLayout) (before : ℕ) : Type 0 where
  pub inner : BodyLayout
  pub there : slice_get bodies l.inner ≡ Some inner
  pub room : HasRoom count bases inner
  pub within : HasInner l inner
  pub fits : BodyFits inner
  pub first : inner.first_name ≡ before
  pub cells : before ≤ inner.cells

pub record BlocksFit : Type 0 where
  pub scatter : (lib : Library) (flow : ℕ) (root : List Statement) (bodies : List BodyLayout) (x : TScatter Statement) (a : Stand) (l : StatementLayout)
      → Laid (Sees lib) lib flow root bodies (one (stmt.Scatter x) a l) → (count : ℕ) (bases : List ℕ) → length bases ≡ length a.path + 1 → AreReached count bases a.names → AreReached count bases a.calls
      → BlockFits bodies count bases l 1
  pub condition : (lib : Library) (flow : ℕ) (root : List Statement) (bodies : List BodyLayout) (x : TIf Statement) (a : Stand) (l : StatementLayout)
      → Laid (Sees lib) lib flow root bodies (one (stmt.If x) a l) → (count : ℕ) (bases : List ℕ) → length bases ≡ length a.path + 1 → AreReached count bases a.names → AreReached count bases a.calls
      → BlockFits bodies count bases l 0

abbrev pub FlowsFit : Type 0
FlowsFit =
    (lib : Library) (bodies : List BodyLayout) (k : ℕ) (f : FlowDef) (l : FlowLayout) (laid : IsLaidAs (Sees lib) lib bodies k f l) (count : ℕ) → HasFlowRoom count f l laid.body × BodyFits laid.body
