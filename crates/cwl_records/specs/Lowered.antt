-- Checked forms without aliases and struct inputs.
use Rattle.std.specs.Prelude.{ℕ, Bool, List, [], ◌∷◌, Option, Some, None, if◌then◌else◌, map, slice_get}
use Rattle.wdl_typed.specs.declared.flow.FlowDef.{FlowDef}
use Rattle.wdl_typed.specs.declared.task.TInput.{TInput}
use Rattle.wdl_typed.specs.Bodies.{Library}
use Rattle.leaf_image.specs.declared.leaf.Leaf.{Leaf}
use Rattle.leaf_image.specs.Reached.{reached}
use Rattle.leaf_image.specs.Records.{inputs_at, leaves_at}
use Rattle.leaf_image.specs.Replaced.{Replaced, are_checked, emptied, with_flows, with_leaves}
use Rattle.cwl_records.specs.declared.leaf.RecordLeaf.{RecordLeaf}
use Rattle.cwl_records.specs.Aliases.{unaliased}

-- these workflows, or those that are there
abbrev pub checked_or : Library → ℕ → List FlowDef → List FlowDef
checked_or lib main flows = if are_checked lib main flows then flows else lib.flows

-- ---- aliases

abbrev pub unaliased_if : Bool → Library → FlowDef → FlowDef
unaliased_if b lib f = if b then unaliased lib f else emptied f

abbrev pub unaliased_where : Library → List FlowDef → List Bool → List FlowDef
unaliased_where lib [] bs = []
unaliased_where lib (f ∷ fs) [] = []
unaliased_where lib (f ∷ fs) (b ∷ bs) = unaliased_if b lib f ∷ unaliased_where lib fs bs

-- Every declaration that is an alias goes, and each workflow that main does not reach loses its body and its outputs.
-- (What is made is a checked form.)
unfoldable pub without_aliases : Library → ℕ → List FlowDef
without_aliases lib main =
    checked_or lib main (unaliased_where lib lib.flows (reached lib.flows main))

-- ---- both

abbrev pub record_leaf : Leaf → RecordLeaf
record_leaf l = record { input = l.input; path = l.path; leaf = l.name }

pub record Lowered : Type 0 where
  pub flows : List FlowDef
  pub records : List RecordLeaf
  pub source : List TInput

abbrev pub lowered_by : List FlowDef → ℕ → List TInput → Option Replaced → Lowered
lowered_by flows main source None = record { flows = flows; records = []; source = source }
lowered_by flows main source (Some r) =
    record { flows = r.flows; records = map record_leaf (leaves_at (slice_get r.leaves main)); source = source }

-- the workflows without aliases and struct inputs; the leaves of main's replaced inputs; and main's inputs as they were
abbrev pub lowered : Library → ℕ → Lowered
lowered lib main =
    let flows = without_aliases lib main in
    lowered_by flows main (inputs_at (slice_get lib.flows main)) (with_leaves (with_flows lib flows) main)
