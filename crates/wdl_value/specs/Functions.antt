-- The values of the functions on numbers, lists and maps (OpenWDL 1.1, "Standard Library").
use Rattle.std.specs.Prelude.{ℕ, Bool, true, false, not, ◌&&◌, ◌||◌, ◌==◌, List, [], ◌∷◌, ◌++◌, length, map, get_or, Ok, Err, if◌then◌else◌, ℤ, pos, negsuc}
use Rattle.std.specs.Int.{int_min, int_max}
use Rattle.std.specs.List.{range_with_len, flat_map, filter, list_any, join_by}
use Rattle.std.specs.Str.{bytes_eq}
use Rattle.wdl_base.specs.declared.fault.EvalCode.TheVariants.{NothingDefined, RepeatedKey, LengthsDiffer, NegativeRange}
use Rattle.wdl_value.specs.declared.value.Value.{Value}
use Rattle.wdl_value.specs.declared.value.Value.TheVariants as v
use Rattle.wdl_value.specs.declared.value.MapRow.{MapRow}
use Rattle.wdl_value.specs.Operate.{int_of}
use Rattle.wdl_value.specs.Outcome.{Outcome, and_then}
use Rattle.wdl_value.specs.Parts.{is_undefined, int_in, items_in, rows_in, left_in, right_in}
use Rattle.wdl_value.specs.ValueText.{text_of}

-- ---- numbers

abbrev pub least : Value → Value → Outcome Value
least x y = Ok (v.Int (int_min (int_in x) (int_in y)))

abbrev pub greatest : Value → Value → Outcome Value
greatest x y = Ok (v.Int (int_max (int_in x) (int_in y)))

abbrev pub length_of : Value → Outcome Value
length_of x = int_of (pos (length (items_in x)))

-- the numbers from 0 up to below n
abbrev pub numbers_below : ℕ → List Value
numbers_below n = map (λ k. v.Int (pos k)) (range_with_len 0 n)

abbrev pub range_to : ℤ → Outcome Value
range_to (pos n) = Ok (v.List (numbers_below n))
range_to (negsuc n) = Err NegativeRange

abbrev pub range_of : Value → Outcome Value
range_of x = range_to (int_in x)

-- ---- lists of lists, lists of pairs

abbrev pub width : List Value → ℕ
width [] = 0
width (row ∷ rows) = length (items_in row)

abbrev pub have_length : ℕ → List Value → Bool
have_length n [] = true
have_length n (row ∷ rows) = length (items_in row) == n && have_length n rows

-- item k of each row
abbrev pub column : List Value → ℕ → List Value
column rows k = map (λ row. get_or (items_in row) k v.Absent) rows

abbrev pub columns : List Value → List Value
columns rows = map (λ k. v.List (column rows k)) (range_with_len 0 (width rows))

-- rows of one length
abbrev pub transpose_of : Value → Outcome Value
transpose_of x = if have_length (width (items_in x)) (items_in x) then Ok (v.List (columns (items_in x))) else Err LengthsDiffer

-- each item of the first list, in order, with each of the second
abbrev pub crossed : List Value → List Value → List Value
crossed [] ys = []
crossed (x ∷ xs) ys = map (λ y. v.Pair x y) ys ++ crossed xs ys

abbrev pub cross_of : Value → Value → Outcome Value
cross_of x y = Ok (v.List (crossed (items_in x) (items_in y)))

-- two lists of one length, item by item
abbrev pub zipped : List Value → List Value → Outcome (List Value)
zipped [] [] = Ok []
zipped (x ∷ xs) (y ∷ ys) = and_then (zipped xs ys) (λ pairs. Ok (v.Pair x y ∷ pairs))
zipped xs ys = Err LengthsDiffer

abbrev pub zip_of : Value → Value → Outcome Value
zip_of x y = and_then (zipped (items_in x) (items_in y)) (λ pairs. Ok (v.List pairs))

abbrev pub unzip_of : Value → Outcome Value
unzip_of x = Ok (v.Pair (v.List (map left_in (items_in x))) (v.List (map right_in (items_in x))))

abbrev pub flatten_of : Value → Outcome Value
flatten_of x = Ok (v.List (flat_map items_in (items_in x)))

-- ---- texts of items

abbrev pub prefix_of : Value → Value → Outcome Value
prefix_of before x = Ok (v.List (map (λ item. v.Str (text_of before ++ text_of item)) (items_in x)))

abbrev pub suffix_of : Value → Value → Outcome Value
suffix_of after x = Ok (v.List (map (λ item. v.Str (text_of item ++ text_of after)) (items_in x)))

abbrev pub quoted : ℕ → Value → Value
quoted mark item = v.Str (mark ∷ text_of item ++ mark ∷ [])

-- in double quotes or in single ones, by the mark's code
abbrev pub quote_of : ℕ → Value → Outcome Value
quote_of mark x = Ok (v.List (map (quoted mark) (items_in x)))

abbrev pub sep_of : Value → Value → Outcome Value
sep_of between x = Ok (v.Str (join_by text_of (text_of between) (items_in x)))

-- ---- maps

abbrev pub pair_of : MapRow Value → Value
pair_of row = v.Pair row.key row.value

abbrev pub as_pairs_of : Value → Outcome Value
as_pairs_of x = Ok (v.List (map pair_of (rows_in x)))

abbrev pub key_of : MapRow Value → Value
key_of row = row.key

abbrev pub keys_of : Value → Outcome Value
keys_of x = Ok (v.List (map key_of (rows_in x)))

-- the text of a pair's left part: keys of one type, which is Bool, Int, Str or File, are equal where their texts are
abbrev pub key_text : Value → List ℕ
key_text pair = text_of (left_in pair)

abbrev pub has_key_text : List ℕ → List Value → Bool
has_key_text k = list_any (λ pair. bytes_eq k (key_text pair))

abbrev pub repeat_a_key : List Value → Bool
repeat_a_key [] = false
repeat_a_key (pair ∷ pairs) = has_key_text (key_text pair) pairs || repeat_a_key pairs

abbrev pub row_of : Value → MapRow Value
row_of pair = record { key = left_in pair; value = right_in pair }

abbrev pub as_map_of : Value → Outcome Value
as_map_of x = if repeat_a_key (items_in x) then Err RepeatedKey else Ok (v.Map (map row_of (items_in x)))

-- the pairs with another key
abbrev pub without_key : List ℕ → List Value → List Value
without_key k = filter (λ pair. not (bytes_eq k (key_text pair)))

-- of the pairs with one key the first
abbrev pub first_pairs : List Value → List Value
first_pairs [] = []
first_pairs (pair ∷ pairs) = pair ∷ without_key (key_text pair) (first_pairs pairs)

-- the right parts of the pairs with that key
abbrev pub values_at : List ℕ → List Value → List Value
values_at k pairs = map right_in (filter (λ pair. bytes_eq k (key_text pair)) pairs)

abbrev pub group_of : List Value → Value → MapRow Value
group_of pairs pair = record { key = left_in pair; value = v.List (values_at (key_text pair) pairs) }

-- keys by their first appearance
abbrev pub collect_by_key_of : Value → Outcome Value
collect_by_key_of x = Ok (v.Map (map (group_of (items_in x)) (first_pairs (items_in x))))

-- ---- optional values

abbrev pub is_defined : Value → Bool
is_defined x = not (is_undefined x)

abbrev pub defined_of : Value → Outcome Value
defined_of x = Ok (v.Bool (is_defined x))

abbrev pub first_defined : List Value → Outcome Value
first_defined [] = Err NothingDefined
first_defined (x ∷ xs) = if is_defined x then Ok x else first_defined xs

abbrev pub select_first_of : Value → Outcome Value
select_first_of x = first_defined (items_in x)

abbrev pub select_all_of : Value → Outcome Value
select_all_of x = Ok (v.List (filter is_defined (items_in x)))
