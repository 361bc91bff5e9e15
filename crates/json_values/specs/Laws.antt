-- Laws of writing and reading.
use Rattle.std.specs.Prelude.{◌≡◌, ℕ, true, List, Some}
use Rattle.serde_json.specs.Data.{Data}
use Rattle.serde_json.specs.Read.{read}
use Rattle.wdl_value.specs.declared.ty.Ty.{Ty}
use Rattle.wdl_value.specs.declared.value.Value.{Value}
use Rattle.wdl_value.specs.Fits.{Structs, fits}
use Rattle.json_values.specs.Ordered.{is_ordered}
use Rattle.json_values.specs.Reading.{reads}
use Rattle.json_values.specs.Formed.{is_formed}
use Rattle.json_values.specs.Writing.{json_of}

-- a text is read as JSON whose members are in byte order
abbrev pub TextsAreOrdered : Type 0
TextsAreOrdered = (text : List ℕ) (d : Data) → read text ≡ Some d → is_ordered d ≡ true

-- what is read at a type fits it
abbrev pub ReadsFit : Type 0
ReadsFit = (structs : Structs) (d : Data) (t : Ty) (x : Value) → is_ordered d ≡ true → reads structs d t ≡ Some x → fits structs x t ≡ true

-- What is written for a value that fits a type is read back at it, where the value's texts hold no NUL, the keys of each of its maps ascend by the
-- bytes of their texts, and the names of the members of each of its structs differ.
abbrev pub WritingsAreRead : Type 0
WritingsAreRead = (structs : Structs) (x : Value) (t : Ty) → fits structs x t ≡ true → is_formed x ≡ true → reads structs (json_of x) t ≡ Some x
