-- What the steps of lowering answer.
use Rattle.std.specs.Prelude.{◌≡◌, ℕ, Bool, List, [], Option, Some, None, option_map, if◌then◌else◌, map, slice_get}
use Rattle.wdl_typed.specs.declared.checked.Checked.{Checked}
use Rattle.wdl_typed.specs.declared.flow.FlowDef.{FlowDef}
use Rattle.wdl_typed.specs.declared.task.TInput.{TInput}
use Rattle.wdl_typed.specs.Bodies.{Library, library}
use Rattle.wdl_typed.specs.Kept.{is_checked}
use Rattle.leaf_image.specs.declared.leaf.Leaf.{Leaf}
use Rattle.cwl_records.specs.declared.leaf.RecordLeaf.{RecordLeaf}
use Rattle.cwl_records.specs.declared.lowering.Lowered.{Lowered as Form}
use Rattle.cwl_records.specs.declared.lowering.Replacing.{Replacing}
use Rattle.cwl_records.specs.Lowered.{Lowered, lowered, lowered_by, record_leaf, unaliased_where}
use Rattle.leaf_image.specs.Replaced.{expanded_where, leaves_where, with_leaves}
use Rattle.leaf_image.specs.Reached.{reached}
use Rattle.leaf_image.specs.Records.{leaves_at}

abbrev pub library_of : Checked → Library
library_of c = library c.structs c.tasks c.flows

-- The checked form has the workflows where they are well typed there, and else those that it had.
pub record IsTried (before : Checked) (flows : List FlowDef) (after : Checked) (is_new : Bool) : Type 0 where
  pub structs : after.structs ≡ before.structs
  pub tasks : after.tasks ≡ before.tasks
  pub main : after.main ≡ before.main
  pub new : is_new ≡ is_checked (library before.structs before.tasks flows) before.main
  pub flows_are : after.flows ≡ (if is_new then flows else before.flows)

abbrev pub flows_without_aliases : Library → ℕ → List FlowDef
flows_without_aliases lib main = unaliased_where lib lib.flows (reached lib.flows main)

abbrev pub replacing_by : Library → ℕ → List Bool → List (List Leaf) → Replacing
replacing_by lib main marks leaves =
    record { flows = expanded_where lib.flows leaves lib.flows marks leaves; records = map record_leaf (leaves_at (slice_get leaves main)) }

abbrev pub replacing : Library → ℕ → Option Replacing
replacing lib main =
    let marks = reached lib.flows main in
    option_map (replacing_by lib main marks) (leaves_where lib.structs lib.flows marks)

pub record IsLoweredBy (tried : Checked) (is_new : Bool) (records : List RecordLeaf) (source : List TInput) (after : Form) : Type 0 where
  pub checked : after.checked ≡ tried
  pub records_are : after.records ≡ (if is_new then records else [])
  pub source_is : after.source ≡ source

abbrev pub form_of : Form → Lowered
form_of l = record { flows = l.checked.flows; records = l.records; source = l.source }

pub record KeepsParts (before after : Checked) : Type 0 where
  pub structs : after.structs ≡ before.structs
  pub tasks : after.tasks ≡ before.tasks
  pub main : after.main ≡ before.main

-- Struct inputs are replaced, or none is.
pub record WithLeaves (before : Checked) (main : ℕ) (source : List TInput) (after : Form) : Type 0 where
  pub kept : KeepsParts before after.checked
  pub is : form_of after ≡ lowered_by before.flows main source (with_leaves (library_of before) main)

abbrev pub lowered_form : Library → Option ℕ → Lowered
lowered_form lib None = record { flows = lib.flows; records = []; source = [] }
lowered_form lib (Some main) = lowered lib main

-- The form is the lowered one. Its structs, its tasks and the number of main are as they were.
pub record IsLowered (before : Checked) (after : Form) : Type 0 where
  pub kept : KeepsParts before after.checked
  pub is : form_of after ≡ lowered_form (library_of before) before.main
