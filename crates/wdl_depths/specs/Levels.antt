-- Tables of the depths of workflows.
use Rattle.std.specs.Prelude.{ℕ, zero, suc, Bool, false, List, [], ◌∷◌, ◌++◌, Option, Some, None, map}
use Rattle.wdl_typed.specs.declared.flow.FlowDef.{FlowDef}
use Rattle.wdl_typed.specs.Bodies.{body_nests}

-- for each workflow whether at most that many blocks and calls stand on each path through it
abbrev pub nesting_level : List FlowDef → ℕ → List Bool
nesting_level flows level = map (λ (f : FlowDef). body_nests flows level f.body) flows

-- a test that was made and held
abbrev pub holds : Option Bool → Bool
holds None = false
holds (Some b) = b

-- the tables below a level
unfoldable pub nesting_levels : List FlowDef → ℕ → List (List Bool)
nesting_levels flows zero = []
nesting_levels flows (suc level) = nesting_levels flows level ++ nesting_level flows level ∷ []
