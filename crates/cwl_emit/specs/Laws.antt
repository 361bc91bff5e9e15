-- The JSON of a process.
use Rattle.std.specs.Prelude.{◌≡◌, ℕ, Bool, true, List, Some}
use Rattle.serde_json.specs.Data.{Data}
use Rattle.serde_json.specs.Written.{compact_text}
use Rattle.json_values.specs.Ordered.{is_ordered}
use Rattle.cwl_model.specs.declared.process.Process.{Process}
use Rattle.cwl_emit.specs.Reading.{cwl_of}
use Rattle.cwl_emit.specs.Writing.{process_json}

-- some JSON value stands for the process
abbrev pub HasJson : Bool → Process → Type 0
HasJson outermost p = (d : Data) × (cwl_of outermost d ≡ Some p)

-- the text of a JSON value that stands for the process as the outermost one, with members in byte order and without blanks
pub record IsText (p : Process) (text : List ℕ) : Type 0 where
  pub json : Data
  pub stands : cwl_of true json ≡ Some p
  pub ordered : is_ordered json ≡ true
  pub written : text ≡ compact_text json

-- The one JSON value that stands for a process is what is written for it.
abbrev pub ProcessesAreWritten : Type 0
ProcessesAreWritten = (outermost : Bool) (d : Data) (p : Process) → cwl_of outermost d ≡ Some p → d ≡ process_json p outermost
