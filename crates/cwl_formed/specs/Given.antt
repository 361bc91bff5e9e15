-- The inputs of checked forms, and the input object that is written for them.
use Rattle.std.specs.Prelude.{◌≡◌, ℕ, true, List, Some, Ok, slice_get}
use Rattle.serde_json.specs.Data.{Data}
use Rattle.wdl_value.specs.declared.env.Bind.{Bind}
use Rattle.wdl_typed.specs.declared.flow.FlowDef.{FlowDef}
use Rattle.wdl_typed.specs.Bodies.{Library}
use Rattle.wdl_typed.specs.Journal.{inputs_fit}
use Rattle.wdl_typed.specs.Kept.{is_checked}
use Rattle.wdl_json.specs.Inputs as json
use Rattle.json_values.specs.Ordered.{is_ordered}
use Rattle.cwl_model.specs.declared.process.Process.{Process}
use Rattle.cwl_model.specs.Means.{Named, value_at}
use Rattle.cwl_image.specs.Image.{image}
use Rattle.cwl_image.specs.Subset.{in_subset}
use Rattle.cwl_emit.specs.Objects.{object_json}
use Rattle.cwl_laws.specs.Simulation.{object_of}
use Rattle.cwl_formed.specs.Objects.{in_order, inputs_of, object_in}

-- The JSON value, with members in byte order, reads as the object of the process, whose values stand in the order of the inputs;
-- these have the values of the object, and no others.
pub record IsObject (p : Process) (object : List Named) (d : Data) : Type 0 where
  pub ordered : is_ordered d ≡ true
  pub reads : object_in (inputs_of p) d ≡ Some (in_order (inputs_of p) object)
  pub same : (id : List ℕ) → value_at (in_order (inputs_of p) object) id ≡ value_at object id

-- What is written for inputs that fit reads as the object that the law of simulation speaks of.
abbrev pub ObjectsStand : Type 0
ObjectsStand =
    (lib : Library) (main : ℕ) (f : FlowDef) (given : List Bind) → is_checked lib (Some main) ≡ true → in_subset lib main ≡ true → slice_get lib.flows main ≡ Some f
    → inputs_fit lib.structs f.inputs given ≡ true → IsObject (image lib main) (object_of given) (object_json given)

-- What is written for the inputs that a text gives reads as these inputs, in their order.
abbrev pub TextsStand : Type 0
TextsStand =
    (lib : Library) (main : ℕ) (f : FlowDef) (text : List ℕ) (given : List Bind) → is_checked lib (Some main) ≡ true → in_subset lib main ≡ true → slice_get lib.flows main ≡ Some f
    → json.inputs_in lib.structs f text ≡ Ok given → (is_ordered (object_json given) ≡ true) × (object_in (inputs_of (image lib main)) (object_json given) ≡ Some (object_of given))
