-- Workflows with the leaves in the places of their struct inputs, where main reaches them.
use Rattle.std.specs.Prelude.{ℕ, Bool, List, [], ◌∷◌, Option, Some, None, option_and_then, option_map, if◌then◌else◌}
use Rattle.wdl_value.specs.Fits.{Structs}
use Rattle.wdl_typed.specs.declared.flow.FlowDef.{FlowDef}
use Rattle.wdl_typed.specs.Bodies.{Library, library}
use Rattle.wdl_typed.specs.Kept.{is_checked}
use Rattle.leaf_image.specs.declared.leaf.Leaf.{Leaf}
use Rattle.leaf_image.specs.Leaves.{leaves_of}
use Rattle.leaf_image.specs.Reached.{reached}
use Rattle.leaf_image.specs.Records.{expanded_flow}

-- a workflow that main does not reach
abbrev pub emptied : FlowDef → FlowDef
emptied f = record { name = f.name; inputs = f.inputs; body = []; outputs = []; span = f.span }

abbrev pub with_flows : Library → List FlowDef → Library
with_flows lib flows = library lib.structs lib.tasks flows

abbrev pub are_checked : Library → ℕ → List FlowDef → Bool
are_checked lib main flows = is_checked (with_flows lib flows) (Some main)

-- ---- struct inputs

abbrev pub leaves_if : Bool → Structs → FlowDef → Option (List Leaf)
leaves_if b structs f = if b then leaves_of structs f else Some []

abbrev pub leaves_where : Structs → List FlowDef → List Bool → Option (List (List Leaf))
leaves_where structs [] bs = Some []
leaves_where structs (f ∷ fs) [] = Some []
leaves_where structs (f ∷ fs) (b ∷ bs) =
    option_and_then (λ ls. option_map (λ more. ls ∷ more) (leaves_where structs fs bs)) (leaves_if b structs f)

abbrev pub expanded_if : Bool → List FlowDef → List (List Leaf) → List Leaf → FlowDef → FlowDef
expanded_if b flows leaves ls f = if b then expanded_flow flows leaves ls f else emptied f

-- (each workflow has a mark and a list of leaves)
abbrev pub expanded_where : List FlowDef → List (List Leaf) → List FlowDef → List Bool → List (List Leaf) → List FlowDef
expanded_where flows leaves [] bs table = []
expanded_where flows leaves (f ∷ fs) [] table = []
expanded_where flows leaves (f ∷ fs) (b ∷ bs) [] = []
expanded_where flows leaves (f ∷ fs) (b ∷ bs) (ls ∷ table) =
    expanded_if b flows leaves ls f ∷ expanded_where flows leaves fs bs table

-- the workflows with the leaves in the places of the struct inputs, and the leaves of each
pub record Replaced : Type 0 where
  pub flows : List FlowDef
  pub leaves : List (List Leaf)

abbrev pub replaced_by : Library → ℕ → List Bool → List (List Leaf) → Option Replaced
replaced_by lib main marks leaves =
    let flows = expanded_where lib.flows leaves lib.flows marks leaves in
    if are_checked lib main flows then Some (record { flows = flows; leaves = leaves }) else None

-- The struct inputs of all workflows that main reaches, or none of them. Where each use of one is a path that ends at a
-- leaf, or gives members to a struct input of a called workflow, what is made is well typed; a use of another form still
-- names the struct input, which is no longer there.
unfoldable pub with_leaves : Library → ℕ → Option Replaced
with_leaves lib main =
    let marks = reached lib.flows main in
    option_and_then (replaced_by lib main marks) (leaves_where lib.structs lib.flows marks)
