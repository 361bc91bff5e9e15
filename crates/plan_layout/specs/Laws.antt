-- The laws of layouts, each the promise of a function in `laws`.
use Rattle.std.specs.Prelude.{◌≡◌, ℕ, true, List, Option, Some, slice_get}
use Rattle.wdl_base.specs.declared.name.Key.{Key}
use Rattle.wdl_base.specs.declared.place.Segment.{Segment}
use Rattle.wdl_typed.specs.declared.flow.FlowDef.{FlowDef}
use Rattle.wdl_typed.specs.Bodies.{Library}
use Rattle.wdl_typed.specs.Kept.{is_checked}
use Rattle.net_laws.specs.Growing.{AreUsed}
use Rattle.net_laws.specs.Net.{Mark}
use Rattle.net_laws.specs.Rules.{Needs}
use Rattle.plan_layout.specs.declared.layout.Layout.{Layout}
use Rattle.plan_layout.specs.declared.layout.Need.{Need}
use Rattle.plan_layout.specs.Cells.{slots_at}
use Rattle.plan_layout.specs.Laid.{IsLayout, anything}
use Rattle.plan_layout.specs.Sees.{AllSeen, FlowSees, Sees}
use Rattle.plan_layout.specs.Spots.{needs_of}

-- With whatever bases of cells, what names need is what the scope of these cells has of them, and nothing else.
abbrev pub NeedsResolve : Type 0
NeedsResolve =
    (bases : List ℕ) (seen : List Need) (keys : List Key) → AllSeen seen keys → (marks : List Mark) (place : List Segment)
    → Needs (record { names = slots_at bases seen; calls = marks; place = place }) keys (slots_at bases (needs_of seen keys)) × AreUsed keys (slots_at bases (needs_of seen keys))

-- In a checked form each statement sees all that it refers to.
abbrev pub LayoutsSee : Type 0
LayoutsSee = (lib : Library) (main : Option ℕ) (l : Layout) → is_checked lib main ≡ true → IsLayout anything lib l → IsLayout (Sees lib) lib l

-- So do the inputs and outputs of its workflows.
abbrev pub FlowsSee : Type 0
FlowsSee = (lib : Library) (main : Option ℕ) → is_checked lib main ≡ true → (k : ℕ) (f : FlowDef) → slice_get lib.flows k ≡ Some f → FlowSees lib f
