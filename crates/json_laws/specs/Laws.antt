-- Texts of JSON, the promise of the function in `laws`.
use Rattle.std.specs.Prelude.{◌≡◌, false}
use Rattle.serde_json.specs.Data.{Data}
use Rattle.serde_json.specs.Written.{compact_text}
use Rattle.wdl_base.specs.Plain.{has_nul}

abbrev pub TextsHoldNoNul : Type 0
TextsHoldNoNul = (d : Data) → has_nul (compact_text d) ≡ false
