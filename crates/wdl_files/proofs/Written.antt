-- What is written is read as the value.
use Rattle.std.proofs.Common.{◌≡◌, ℕ, Bool, true, false, cond, not, ◌&&◌, List, [], ◌∷◌, ◌++◌, map, Ok, Err, refl, sym, ap, ◌∙◌, append_assoc, append-nil}
use Rattle.std.proofs.lemmas.Bool.{false≢true, and_parts, and_from, or_parts, or_from, not-true}
use Rattle.std.proofs.lemmas.Slice.Eq.{bytes_eq-Decides}
use Rattle.std.specs.List.{list_all, flat_map, join_by}
use Rattle.std.specs.Str.{bytes_eq}
use Rattle.std.specs.Str.Lines.{lines}
use Rattle.wdl_value.specs.declared.ty.Ty.TheVariants as ty
use Rattle.wdl_value.specs.declared.value.MapRow.{MapRow}
use Rattle.wdl_value.specs.declared.value.Value.{Value, Value-F}
use Rattle.wdl_value.specs.declared.value.Value.TheVariants as v
use Rattle.wdl_base.specs.declared.fault.EvalCode.TheVariants.{RepeatedKey}
use Rattle.wdl_value.specs.Fits.{Structs, fits}
use Rattle.wdl_value.specs.Functions.{pair_of, row_of, key_text, has_key_text, repeat_a_key, as_map_of}
use Rattle.wdl_value.specs.Keyed.{has_key, distinct_keys}
use Rattle.wdl_value.specs.Outcome.{and_then}
use Rattle.wdl_value.specs.Parts.{items_at, items_in, rows_at, rows_in, left_at, left_in, right_at, right_in}
use Rattle.wdl_value.specs.Reads.{cells, lines_read, row_read, tsv_read, pair_read, pairs_read, map_read}
use Rattle.wdl_value.specs.SameValue.{same_value}
use Rattle.wdl_value.specs.ValueText.{text_at, text_of}
use Rattle.wdl_value.specs.Written.{text_line, cells_line, entry_line}
use Rattle.wdl_value.proofs.FitsForms.{all_fit, rows_fit, a_str, a_list, a_map}
use Rattle.wdl_value.proofs.SameValueLemmas.{same_value-refl}
use Rattle.wdl_files.specs.ReadBack.{is_line, is_cell, are_lines, are_cells, are_rows, are_entries}
use Rattle.wdl_files.proofs.Lines.{block, lines_of_block, joined, all_cells, cells_of_joined, line_of_joined}

abbrev texts : List Value → List (List ℕ)
texts = map text_of

items_of-List : (xs : List Value) → items_in (v.List xs) ≡ xs
items_of-List xs = ap (λ (l : Value-F Value). items_at l) (v.outs-List xs)

-- ---- texts

module _ (structs : Structs) where
  text_back : (x : Value) → fits structs x ty.Str ≡ true → v.Str (text_of x) ≡ x
  text_back x h = let p = a_str structs x h in ap (λ z. v.Str (text_of z)) p.1 ∙ ap (λ (l : Value-F Value). v.Str (text_at l)) (v.outs-Str p.0) ∙ sym p.1

  texts_back : (xs : List Value) → all_fit structs xs ty.Str ≡ true → map v.Str (texts xs) ≡ xs
  texts_back [] h = refl
  texts_back (x ∷ xs) h =
      let p = and_parts (fits structs x ty.Str) (all_fit structs xs ty.Str) h in
      ap (λ z. z ∷ map v.Str (texts xs)) (text_back x p.0) ∙ ap (λ z. x ∷ z) (texts_back xs p.1)

  -- ---- lines

  block_of_texts : (xs : List Value) → flat_map text_line xs ≡ block (texts xs)
  block_of_texts [] = refl
  block_of_texts (x ∷ xs) = ap (λ z. text_line x ++ z) (block_of_texts xs)

  line_texts : (xs : List Value) → are_lines xs ≡ true → list_all is_line (texts xs) ≡ true
  line_texts [] h = refl
  line_texts (x ∷ xs) h = let p = and_parts (is_line (text_of x)) (are_lines xs) h in and_from (is_line (text_of x)) _ p.0 (line_texts xs p.1)

  pub lines_back : (x : Value) → fits structs x (ty.Array ty.Str false) ≡ true → are_lines (items_in x) ≡ true → lines_read (flat_map text_line (items_in x)) ≡ Ok x
  lines_back x h k =
      let p = a_list structs x ty.Str false h in
      let same : items_in x ≡ p.0 = ap (λ (l : Value-F Value). items_at l) p.2 in
      ap (λ z. Ok (v.List (map v.Str z))) (ap lines (block_of_texts (items_in x)) ∙ lines_of_block (texts (items_in x)) (line_texts (items_in x) k))
      ∙ ap (λ z. Ok (v.List (map v.Str (texts z)))) same ∙ ap (λ z. Ok (v.List z)) (texts_back p.0 p.3) ∙ ap Ok (sym p.1)

  -- ---- rows of cells

  abbrev row_line : Value → List ℕ
  row_line row = joined (texts (items_in row))

  joined_tail : (xs : List Value) → flat_map (λ y. (9 ∷ []) ++ text_of y) xs ≡ flat_map (λ t. (9 ∷ []) ++ t) (texts xs)
  joined_tail [] = refl
  joined_tail (x ∷ xs) = ap (λ z. 9 ∷ (text_of x ++ z)) (joined_tail xs)

  joined_texts : (xs : List Value) → join_by text_of (9 ∷ []) xs ≡ joined (texts xs)
  joined_texts [] = refl
  joined_texts (x ∷ xs) = ap (λ z. text_of x ++ z) (joined_tail xs)

  block_of_rows : (rows : List Value) → flat_map cells_line rows ≡ block (map row_line rows)
  block_of_rows [] = refl
  block_of_rows (row ∷ rows) =
      ap (λ z. (z ++ 10 ∷ []) ++ flat_map cells_line rows) (joined_texts (items_in row)) ∙ ap (λ z. (row_line row ++ 10 ∷ []) ++ z) (block_of_rows rows)

  cell_texts : (xs : List Value) → are_cells xs ≡ true → all_cells (texts xs) ≡ true
  cell_texts [] h = h
  cell_texts (x ∷ []) h = h
  cell_texts (x ∷ y ∷ more) h =
      let p = and_parts (is_cell (text_of x)) (are_cells (y ∷ more)) h in
      and_from (is_cell (text_of x)) (all_cells (texts (y ∷ more))) p.0 (cell_texts (y ∷ more) p.1)

  row_lines : (rows : List Value) → are_rows rows ≡ true → list_all is_line (map row_line rows) ≡ true
  row_lines [] h = refl
  row_lines (row ∷ rows) h =
      let p = and_parts (are_cells (items_in row)) (are_rows rows) h in
      and_from (is_line (row_line row)) _ (line_of_joined (texts (items_in row)) (cell_texts (items_in row) p.0)) (row_lines rows p.1)

  row_back : (row : Value) → fits structs row (ty.Array ty.Str false) ≡ true → are_cells (items_in row) ≡ true → row_read (row_line row) ≡ row
  row_back row h k =
      let p = a_list structs row ty.Str false h in
      let same : items_in row ≡ p.0 = ap (λ (l : Value-F Value). items_at l) p.2 in
      ap (λ z. v.List (map v.Str z)) (cells_of_joined (texts (items_in row)) (cell_texts (items_in row) k))
      ∙ ap (λ z. v.List (map v.Str (texts z))) same ∙ ap v.List (texts_back p.0 p.3) ∙ sym p.1

  rows_back : (rows : List Value) → all_fit structs rows (ty.Array ty.Str false) ≡ true → are_rows rows ≡ true → map row_read (map row_line rows) ≡ rows
  rows_back [] h k = refl
  rows_back (row ∷ rows) h k =
      let p = and_parts (fits structs row (ty.Array ty.Str false)) (all_fit structs rows (ty.Array ty.Str false)) h in
      let q = and_parts (are_cells (items_in row)) (are_rows rows) k in
      ap (λ z. z ∷ map row_read (map row_line rows)) (row_back row p.0 q.0) ∙ ap (λ z. row ∷ z) (rows_back rows p.1 q.1)

  pub tsv_back : (x : Value) → fits structs x (ty.Array (ty.Array ty.Str false) false) ≡ true → are_rows (items_in x) ≡ true → tsv_read (flat_map cells_line (items_in x)) ≡ Ok x
  tsv_back x h k =
      let p = a_list structs x (ty.Array ty.Str false) false h in
      let same : items_in x ≡ p.0 = ap (λ (l : Value-F Value). items_at l) p.2 in
      ap (λ z. Ok (v.List (map row_read z))) (ap lines (block_of_rows (items_in x)) ∙ lines_of_block (map row_line (items_in x)) (row_lines (items_in x) k))
      ∙ ap (λ z. Ok (v.List (map row_read (map row_line z)))) same
      ∙ ap (λ z. Ok (v.List z)) (rows_back p.0 p.3 (sym (ap are_rows same) ∙ k)) ∙ ap Ok (sym p.1)

  -- ---- entries

  abbrev entry_texts : MapRow Value → List (List ℕ)
  entry_texts row = text_of row.key ∷ text_of row.value ∷ []

  entry_joined : (row : MapRow Value) → entry_line row ≡ joined (entry_texts row) ++ 10 ∷ []
  entry_joined row =
      let k = text_of row.key in
      let x = text_of row.value in
      ap (λ z. k ++ 9 ∷ (z ++ 10 ∷ [])) (sym (append-nil x)) ∙ sym (append_assoc k (9 ∷ (x ++ [])) (10 ∷ []))

  block_of_entries : (rows : List (MapRow Value)) → flat_map entry_line rows ≡ block (map (λ row. joined (entry_texts row)) rows)
  block_of_entries [] = refl
  block_of_entries (row ∷ rows) = ap (λ z. z ++ flat_map entry_line rows) (entry_joined row) ∙ ap (λ z. (joined (entry_texts row) ++ 10 ∷ []) ++ z) (block_of_entries rows)

  entry_lines : (rows : List (MapRow Value)) → are_entries rows ≡ true → list_all is_line (map (λ row. joined (entry_texts row)) rows) ≡ true
  entry_lines [] h = refl
  entry_lines (row ∷ rows) h =
      let p = and_parts (is_cell (text_of row.key) && is_cell (text_of row.value)) (are_entries rows) h in
      and_from (is_line (joined (entry_texts row))) _ (line_of_joined (entry_texts row) p.0) (entry_lines rows p.1)

  pairs_back : (rows : List (MapRow Value)) → rows_fit structs rows ty.Str ty.Str ≡ true → are_entries rows ≡ true → pairs_read (map (λ row. joined (entry_texts row)) rows) ≡ Ok (map pair_of rows)
  pairs_back [] h k = refl
  pairs_back (row ∷ rows) h k =
      let p = and_parts (fits structs row.key ty.Str && fits structs row.value ty.Str) (rows_fit structs rows ty.Str ty.Str) h in
      let f = and_parts (fits structs row.key ty.Str) (fits structs row.value ty.Str) p.0 in
      let q = and_parts (is_cell (text_of row.key) && is_cell (text_of row.value)) (are_entries rows) k in
      let pair : pair_read (cells (joined (entry_texts row))) ≡ Ok (pair_of row) =
      ap pair_read (cells_of_joined (entry_texts row) q.0) ∙ ap (λ z. Ok (v.Pair z (v.Str (text_of row.value)))) (text_back row.key f.0) ∙ ap (λ z. Ok (v.Pair row.key z)) (text_back row.value f.1) in
      ap (λ r. and_then r (λ x. and_then (pairs_read (map (λ row. joined (entry_texts row)) rows)) (λ xs. Ok (x ∷ xs)))) pair
      ∙ ap (λ r. and_then r (λ xs. Ok (pair_of row ∷ xs))) (pairs_back rows p.1 q.1)

  left_of-pair : (row : MapRow Value) → left_in (pair_of row) ≡ row.key
  left_of-pair row = ap (λ (l : Value-F Value). left_at (pair_of row) l) (v.outs-Pair row.key row.value)

  right_of-pair : (row : MapRow Value) → right_in (pair_of row) ≡ row.value
  right_of-pair row = ap (λ (l : Value-F Value). right_at (pair_of row) l) (v.outs-Pair row.key row.value)

  -- keys that are texts differ where their texts do
  texts_differ : (x y : Value) → fits structs x ty.Str ≡ true → fits structs y ty.Str ≡ true → same_value x y ≡ false → bytes_eq (text_of x) (text_of y) ≡ false
  texts_differ x y f g n = by_test (bytes_eq (text_of x) (text_of y)) refl
    where
      by_test : (b : Bool) → bytes_eq (text_of x) (text_of y) ≡ b → b ≡ false
      by_test true e =
          let same : x ≡ y = sym (text_back x f) ∙ ap v.Str ((bytes_eq-Decides (text_of x) (text_of y)).0 e) ∙ text_back y g in
          absurd (false≢true (sym n ∙ ap (same_value x) (sym same) ∙ same_value-refl x))
      by_test false e = refl

  key_new : (key : Value) (rows : List (MapRow Value)) → fits structs key ty.Str ≡ true → rows_fit structs rows ty.Str ty.Str ≡ true → has_key key rows ≡ false → has_key_text (text_of key) (map pair_of rows) ≡ false
  key_new key [] f h n = refl
  key_new key (row ∷ rows) f h n =
      let p = and_parts (fits structs row.key ty.Str && fits structs row.value ty.Str) (rows_fit structs rows ty.Str ty.Str) h in
      let g = (and_parts (fits structs row.key ty.Str) (fits structs row.value ty.Str) p.0).0 in
      let q = or_parts (same_value key row.key) (has_key key rows) n in
      or_from (bytes_eq (text_of key) (key_text (pair_of row))) _ (ap (λ z. bytes_eq (text_of key) (text_of z)) (left_of-pair row) ∙ texts_differ key row.key f g q.0) (key_new key rows f p.1 q.1)

  no_repeat : (rows : List (MapRow Value)) → rows_fit structs rows ty.Str ty.Str ≡ true → distinct_keys rows ≡ true → repeat_a_key (map pair_of rows) ≡ false
  no_repeat [] h d = refl
  no_repeat (row ∷ rows) h d =
      let p = and_parts (fits structs row.key ty.Str && fits structs row.value ty.Str) (rows_fit structs rows ty.Str ty.Str) h in
      let g = (and_parts (fits structs row.key ty.Str) (fits structs row.value ty.Str) p.0).0 in
      let q = and_parts (not (has_key row.key rows)) (distinct_keys rows) d in
      or_from (has_key_text (key_text (pair_of row)) (map pair_of rows)) _
      (ap (λ z. has_key_text (text_of z) (map pair_of rows)) (left_of-pair row) ∙ key_new row.key rows g p.1 (not-true _ q.0)) (no_repeat rows p.1 q.1)

  rows_of_pairs : (rows : List (MapRow Value)) → map row_of (map pair_of rows) ≡ rows
  rows_of_pairs [] = refl
  rows_of_pairs (row ∷ rows) =
      ap (λ z. record { key = z; value = right_in (pair_of row) } ∷ map row_of (map pair_of rows)) (left_of-pair row)
      ∙ ap (λ z. record { key = row.key; value = z } ∷ map row_of (map pair_of rows)) (right_of-pair row) ∙ ap (λ z. row ∷ z) (rows_of_pairs rows)

  made_map : (rows : List (MapRow Value)) → rows_fit structs rows ty.Str ty.Str ≡ true → distinct_keys rows ≡ true → as_map_of (v.List (map pair_of rows)) ≡ Ok (v.Map rows)
  made_map rows h d =
      ap (λ z. cond (repeat_a_key z) (Err RepeatedKey) (Ok (v.Map (map row_of z)))) (items_of-List (map pair_of rows))
      ∙ ap (λ b. cond b (Err RepeatedKey) (Ok (v.Map (map row_of (map pair_of rows))))) (no_repeat rows h d) ∙ ap (λ z. Ok (v.Map z)) (rows_of_pairs rows)

  pub map_back : (x : Value) → fits structs x (ty.Map ty.Str ty.Str) ≡ true → are_entries (rows_in x) ≡ true → map_read (flat_map entry_line (rows_in x)) ≡ Ok x
  map_back x h k =
      let p = a_map structs x ty.Str ty.Str h in
      let same : rows_in x ≡ p.0 = ap (λ (l : Value-F Value). rows_at l) p.2 in
      let entries : are_entries p.0 ≡ true = sym (ap are_entries same) ∙ k in
      ap (λ z. and_then (pairs_read z) (λ pairs. as_map_of (v.List pairs))) (ap (λ z. lines (flat_map entry_line z)) same ∙ ap lines (block_of_entries p.0) ∙ lines_of_block (map (λ row. joined (entry_texts row)) p.0) (entry_lines p.0 entries))
      ∙ ap (λ r. and_then r (λ pairs. as_map_of (v.List pairs))) (pairs_back p.0 p.3 entries) ∙ made_map p.0 p.3 p.4 ∙ ap Ok (sym p.1)
