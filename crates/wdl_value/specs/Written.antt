-- What the functions that write files write (OpenWDL 1.1, "File Parsing").
use Rattle.std.specs.Prelude.{ℕ, Bool, true, ◌&&◌, nat_le, length, List, [], ◌∷◌, ◌++◌, codes, decimal}
use Rattle.std.specs.List.{flat_map, join_by, list_all}
use Rattle.wdl_value.specs.declared.operator.Func.{Func}
use Rattle.wdl_value.specs.declared.operator.Func.TheVariants as func
use Rattle.wdl_value.specs.declared.value.Value.{Value}
use Rattle.wdl_value.specs.declared.value.MapRow.{MapRow}
use Rattle.wdl_value.specs.Parts.{items_in, rows_in}
use Rattle.wdl_value.specs.ValueText.{text_of}

-- a text and a newline
abbrev pub text_line : Value → List ℕ
text_line x = text_of x ++ 10 ∷ []

-- texts joined by tabs, and a newline
abbrev pub cells_line : Value → List ℕ
cells_line row = join_by text_of (9 ∷ []) (items_in row) ++ 10 ∷ []

-- a key, a tab, a value and a newline
abbrev pub entry_line : MapRow Value → List ℕ
entry_line row = text_of row.key ++ 9 ∷ (text_of row.value ++ 10 ∷ [])

abbrev pub written : Func → Value → List ℕ
written func.WriteLines x = flat_map text_line (items_in x)
written func.WriteTsv x = flat_map cells_line (items_in x)
written func.WriteMap x = flat_map entry_line (rows_in x)
written f x = []

-- at most 65,536 bytes
abbrev pub is_short_text : Value → Bool
is_short_text x = nat_le (length (text_of x)) 65536

abbrev pub short_row : MapRow Value → Bool
short_row row = is_short_text row.key && is_short_text row.value

-- each text that is written is short
abbrev pub short_texts : Func → Value → Bool
short_texts func.WriteLines x = list_all is_short_text (items_in x)
short_texts func.WriteTsv x = list_all (λ row. list_all is_short_text (items_in row)) (items_in x)
short_texts func.WriteMap x = list_all short_row (rows_in x)
short_texts f x = true

-- at most 4,194,304 bytes, as what is written for one request together
abbrev pub written_within : ℕ → Bool
written_within n = nat_le n 4194304

-- the name of the file that the write of that number lays down
abbrev pub written_name : ℕ → List ℕ
written_name k = codes ".written-" ++ decimal k
