-- The processes of checked forms, and what is written for them.
use Rattle.std.specs.Prelude.{◌≡◌, ℕ, true, Some}
use Rattle.wdl_typed.specs.Bodies.{Library}
use Rattle.wdl_typed.specs.Kept.{is_checked}
use Rattle.cwl_image.specs.Image.{image}
use Rattle.cwl_image.specs.Named.{names_are_names}
use Rattle.cwl_image.specs.Subset.{in_subset}
use Rattle.cwl_emit.specs.Formed.{is_formed}
use Rattle.cwl_emit.specs.Reading.{cwl_of}
use Rattle.cwl_emit.specs.Writing.{process_json}
use Rattle.cwl_formed.specs.Plain.{texts_are_plain}

abbrev pub ImagesAreFormed : Type 0
ImagesAreFormed =
    (lib : Library) (main : ℕ) → is_checked lib (Some main) ≡ true → in_subset lib main ≡ true → names_are_names lib ≡ true → texts_are_plain (image lib main) ≡ true
    → is_formed (image lib main) ≡ true

-- The JSON value that is written reads as the process.
abbrev pub ImagesStand : Type 0
ImagesStand =
    (lib : Library) (main : ℕ) → is_checked lib (Some main) ≡ true → in_subset lib main ≡ true → names_are_names lib ≡ true → texts_are_plain (image lib main) ≡ true
    → cwl_of true (process_json (image lib main) true) ≡ Some (image lib main)
