-- The JSON of a process with record inputs.
use Rattle.std.specs.Prelude.{◌≡◌, ℕ, true, List, Some}
use Rattle.serde_json.specs.Data.{Data}
use Rattle.serde_json.specs.Written.{compact_text}
use Rattle.json_values.specs.Ordered.{is_ordered}
use Rattle.cwl_records.specs.declared.wide.RecordProcess.{RecordProcess}
use Rattle.cwl_records.specs.WideReading.{wide_of}
use Rattle.cwl_records.specs.WideWriting.{wide_json}

-- some JSON value stands for the process
abbrev pub HasWideJson : RecordProcess → Type 0
HasWideJson p = (d : Data) × (wide_of d ≡ Some p)

-- the text of a JSON value that stands for the process, with members in byte order and without blanks
pub record IsWideText (p : RecordProcess) (text : List ℕ) : Type 0 where
  pub json : Data
  pub stands : wide_of json ≡ Some p
  pub ordered : is_ordered json ≡ true
  pub written : text ≡ compact_text json

-- The one JSON value that stands for a process is what is written for it.
abbrev pub RecordsAreWritten : Type 0
RecordsAreWritten = (d : Data) (p : RecordProcess) → wide_of d ≡ Some p → d ≡ wide_json p
