-- The values of the functions that read files (OpenWDL 1.1, "File Parsing"), by the text of the file.
use Rattle.std.specs.Prelude.{ℕ, ◌+◌, ◌-◌, ◌*◌, ◌==◌, Bool, true, false, ◌&&◌, ◌||◌, List, [], ◌∷◌, map, Ok, Err, if◌then◌else◌, codes, ℤ, pos, neg_ℤ}
use Rattle.std.specs.Char.{to_ascii_lowercase}
use Rattle.std.specs.List.{slice_split, list_all}
use Rattle.std.specs.Str.{bytes_eq, all_ascii_digits}
use Rattle.std.specs.Str.Lines.{lines}
use Rattle.wdl_base.specs.declared.fault.EvalCode.TheVariants.{NotAnInteger, NotABoolean, NotTwoColumns}
use Rattle.wdl_value.specs.declared.value.Value.{Value}
use Rattle.wdl_value.specs.declared.value.Value.TheVariants as v
use Rattle.wdl_value.specs.Fits.{is_int}
use Rattle.wdl_value.specs.Functions.{as_map_of}
use Rattle.wdl_value.specs.Outcome.{Outcome, and_then}

-- ---- parts of a text

-- without the bytes at its end that pass
abbrev pub trimmed_end : (ℕ → Bool) → List ℕ → List ℕ
trimmed_end test [] = []
trimmed_end test (b ∷ bs) = if list_all test (b ∷ bs) then [] else b ∷ trimmed_end test bs

abbrev pub trimmed_start : (ℕ → Bool) → List ℕ → List ℕ
trimmed_start test [] = []
trimmed_start test (b ∷ bs) = if test b then trimmed_start test bs else b ∷ bs

-- a carriage return or a newline
abbrev pub ends_line : ℕ → Bool
ends_line b = b == 13 || b == 10

-- blank, tab, carriage return and newline
abbrev pub is_blank : ℕ → Bool
is_blank b = b == 32 || b == 9 || ends_line b

abbrev pub trimmed : List ℕ → List ℕ
trimmed text = trimmed_end is_blank (trimmed_start is_blank text)

-- the parts of a line between tabs
abbrev pub cells : List ℕ → List (List ℕ)
cells = slice_split (λ b. b == 9)

-- ---- values

abbrev pub string_read : List ℕ → Outcome Value
string_read text = Ok (v.Str (trimmed_end ends_line text))

-- `lines`: each ends at a newline, and a carriage return before it goes; a last one without a newline counts unless it is empty
abbrev pub lines_read : List ℕ → Outcome Value
lines_read text = Ok (v.List (map v.Str (lines text)))

abbrev pub row_read : List ℕ → Value
row_read line = v.List (map v.Str (cells line))

abbrev pub tsv_read : List ℕ → Outcome Value
tsv_read text = Ok (v.List (map row_read (lines text)))

-- the number that decimal digits write, after the number n before them
abbrev pub digits_after : ℕ → List ℕ → ℕ
digits_after n [] = n
digits_after n (d ∷ ds) = digits_after (10 * n + (d - 48)) ds

abbrev pub are_digits : List ℕ → Bool
are_digits [] = false
are_digits (d ∷ ds) = all_ascii_digits (d ∷ ds)

abbrev pub numeral_read : (ℕ → ℤ) → List ℕ → Outcome Value
numeral_read sign digits = if are_digits digits && is_int (sign (digits_after 0 digits)) then Ok (v.Int (sign (digits_after 0 digits))) else Err NotAnInteger

abbrev pub minus : ℕ → ℤ
minus n = neg_ℤ (pos n)

-- an optional sign, and digits
abbrev pub signed_read : List ℕ → Outcome Value
signed_read [] = Err NotAnInteger
signed_read (c ∷ cs) = if c == 45 then numeral_read minus cs else (if c == 43 then numeral_read pos cs else numeral_read pos (c ∷ cs))

abbrev pub int_read : List ℕ → Outcome Value
int_read text = signed_read (trimmed text)

-- in any case of ASCII
abbrev pub word_read : List ℕ → Outcome Value
word_read word = if bytes_eq word (codes "true") then Ok (v.Bool true) else (if bytes_eq word (codes "false") then Ok (v.Bool false) else Err NotABoolean)

abbrev pub boolean_read : List ℕ → Outcome Value
boolean_read text = word_read (map to_ascii_lowercase (trimmed text))

abbrev pub pair_read : List (List ℕ) → Outcome Value
pair_read (key ∷ value ∷ []) = Ok (v.Pair (v.Str key) (v.Str value))
pair_read cells = Err NotTwoColumns

abbrev pub pairs_read : List (List ℕ) → Outcome (List Value)
pairs_read [] = Ok []
pairs_read (line ∷ more) = and_then (pair_read (cells line)) (λ pair. and_then (pairs_read more) (λ pairs. Ok (pair ∷ pairs)))

-- the columns come before the keys
abbrev pub map_read : List ℕ → Outcome Value
map_read text = and_then (pairs_read (lines text)) (λ pairs. as_map_of (v.List pairs))
