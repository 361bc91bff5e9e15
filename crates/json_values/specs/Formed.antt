-- Values that are read back as they were written.
use Rattle.std.specs.Prelude.{ℕ, Bool, true, not, ◌&&◌, List, [], ◌∷◌}
use Rattle.std.specs.Str.{bytes_eq}
use Rattle.wdl_base.specs.Plain.{has_nul}
use Rattle.wdl_value.specs.declared.value.Value.{Value, Value-F, fold-Value}
use Rattle.wdl_value.specs.declared.value.Value.TheOpen as layer
use Rattle.wdl_value.specs.declared.value.Field.{Field}
use Rattle.wdl_value.specs.declared.value.MapRow.{MapRow}
use Rattle.wdl_value.specs.ValueText.{has_text_at, text_at}
use Rattle.json_values.specs.Ordered.{is_before}

-- whether a value has a text, the text, and whether it is read back
pub record Form : Type 0 where
  pub has_text : Bool
  pub text : List ℕ
  pub formed : Bool

abbrev pub all_formed : List Form → Bool
all_formed [] = true
all_formed (f ∷ fs) = f.formed && all_formed fs

abbrev pub before_rows : List ℕ → List (MapRow Form) → Bool
before_rows k [] = true
before_rows k (r ∷ rows) = is_before k r.key.text && before_rows k rows

-- the keys have texts, which ascend by their bytes
abbrev pub rows_formed : List (MapRow Form) → Bool
rows_formed [] = true
rows_formed (r ∷ rows) = (r.key.has_text && r.key.formed) && r.value.formed && before_rows r.key.text rows && rows_formed rows

abbrev pub is_new : List ℕ → List (Field Form) → Bool
is_new name [] = true
is_new name (f ∷ fs) = not (bytes_eq name f.name) && is_new name fs

-- the names differ
abbrev pub fields_formed : List (Field Form) → Bool
fields_formed [] = true
fields_formed (f ∷ fs) = f.value.formed && is_new f.name fs && fields_formed fs

-- texts hold no NUL
abbrev pub formed_at : Value-F Form → Bool
formed_at (layer.Str s) = not (has_nul s)
formed_at (layer.File s) = not (has_nul s)
formed_at (layer.List fs) = all_formed fs
formed_at (layer.Pair a b) = a.formed && b.formed
formed_at (layer.Map rows) = rows_formed rows
formed_at (layer.Struct name fields) = fields_formed fields
formed_at x = true

abbrev pub form_step : Value-F Form → Form
form_step x = record { has_text = has_text_at x; text = text_at x; formed = formed_at x }

abbrev pub form : Value → Form
form = fold-Value Form form_step

-- Texts hold no NUL, the keys of a map have texts that ascend by their bytes, and the names of a struct's members differ.
abbrev pub is_formed : Value → Bool
is_formed x = (form x).formed
