-- What is written is read back.
use Rattle.std.specs.Prelude.{◌≡◌, ℕ, ◌==◌, Bool, true, false, not, ◌&&◌, ◌||◌, nat_le, List, [], ◌∷◌, length, Some, Ok}
use Rattle.std.specs.List.{list_any, list_all}
use Rattle.std.specs.Str.{is_utf8}
use Rattle.wdl_base.specs.declared.answer.Answer.{Answer}
use Rattle.wdl_base.specs.declared.body.Body.TheVariants.{Bytes}
use Rattle.wdl_value.specs.declared.operator.Func.{Func}
use Rattle.wdl_value.specs.declared.operator.Func.TheVariants as func
use Rattle.wdl_value.specs.declared.ty.Ty.{Ty}
use Rattle.wdl_value.specs.declared.ty.Ty.TheVariants as ty
use Rattle.wdl_value.specs.declared.value.MapRow.{MapRow}
use Rattle.wdl_value.specs.declared.value.Value.{Value}
use Rattle.wdl_value.specs.declared.value.Value.TheVariants as v
use Rattle.wdl_value.specs.Apply.{apply}
use Rattle.wdl_value.specs.Files.{file_body}
use Rattle.wdl_value.specs.Fits.{Structs, fits}
use Rattle.wdl_value.specs.Limits.{is_within}
use Rattle.wdl_value.specs.Parts.{items_in, rows_in}
use Rattle.wdl_base.specs.Plain.{has_nul}
use Rattle.wdl_value.specs.ValueText.{text_of}
use Rattle.wdl_value.specs.Written.{written}

abbrev pub lacks : ℕ → List ℕ → Bool
lacks c s = not (list_any (λ b. b == c) s)

abbrev pub last_byte : List ℕ → ℕ
last_byte [] = 0
last_byte (b ∷ []) = b
last_byte (b ∷ c ∷ cs) = last_byte (c ∷ cs)

-- no newline, and no carriage return at its end
abbrev pub is_line : List ℕ → Bool
is_line s = lacks 10 s && not (last_byte s == 13)

-- no tab either
abbrev pub is_cell : List ℕ → Bool
is_cell s = is_line s && lacks 9 s

abbrev pub are_lines : List Value → Bool
are_lines = list_all (λ x. is_line (text_of x))

-- cells, of which there is one or more
abbrev pub are_cells : List Value → Bool
are_cells [] = false
are_cells (x ∷ []) = is_cell (text_of x)
are_cells (x ∷ y ∷ more) = is_cell (text_of x) && are_cells (y ∷ more)

abbrev pub are_rows : List Value → Bool
are_rows = list_all (λ row. are_cells (items_in row))

abbrev pub are_entries : List (MapRow Value) → Bool
are_entries = list_all (λ row. is_cell (text_of row.key) && is_cell (text_of row.value))

abbrev pub can_be_read : Func → Value → Bool
can_be_read func.WriteLines x = are_lines (items_in x)
can_be_read func.WriteTsv x = are_rows (items_in x)
can_be_read func.WriteMap x = are_entries (rows_in x)
can_be_read f x = false

-- the function that reads what this one writes
abbrev pub reader : Func → Func
reader func.WriteLines = func.ReadLines
reader func.WriteTsv = func.ReadTsv
reader func.WriteMap = func.ReadMap
reader f = f

abbrev pub written_type : Func → Ty
written_type func.WriteLines = ty.Array ty.Str false
written_type func.WriteTsv = ty.Array (ty.Array ty.Str false) false
written_type func.WriteMap = ty.Map ty.Str ty.Str
written_type f = ty.Empty

-- A value that keeps the limits of values, as each one in a run does, or that is written in at most 65,536 bytes.
abbrev pub keeps_limits : Func → Value → Bool
keeps_limits f x = is_within x || nat_le (length (written f x)) 65536

-- For texts of UTF-8 without a newline and a carriage return at their end, without tabs for `write_tsv` and `write_map`
-- and without empty rows: what a file with that body is read as is the value.
abbrev pub ReadBack : Type 0
ReadBack = (structs : Structs) (f : Func) (x : Value) → fits structs x (written_type f) ≡ true → can_be_read f x ≡ true → keeps_limits f x ≡ true
    → is_utf8 (written f x) ≡ true → has_nul (written f x) ≡ false
    → (dir path : List ℕ) (answer : Answer) → file_body dir (Some answer) path ≡ Some (Bytes (written f x)) → apply dir (Some answer) (reader f) (v.File path ∷ []) ≡ Ok x
