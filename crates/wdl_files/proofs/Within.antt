-- A value that was written in at most 65,536 bytes keeps the limits of values.
use Rattle.std.proofs.Common.{◌≡◌, ℕ, ◌+◌, ◌≤◌, Bool, true, false, cond, ◌&&◌, nat_le, List, [], ◌∷◌, ◌++◌, length, Ok, Err, refl, sym, ap, ◌∙◌, arith, length-append}
use Rattle.std.proofs.lemmas.Bool.{false≢true, and_parts, and_from}
use Rattle.std.proofs.lemmas.Bool.Decides.{nat_tests}
use Rattle.std.proofs.lemmas.List.{length-map}
use Rattle.std.specs.List.{flat_map, join_by}
use Rattle.wdl_value.specs.declared.ty.Ty.TheVariants as ty
use Rattle.wdl_value.specs.declared.value.MapRow.{MapRow}
use Rattle.wdl_value.specs.declared.value.Value.{Value, Value-F, map-Value, fold_out-Value}
use Rattle.wdl_value.specs.declared.value.Value.TheVariants as v
use Rattle.wdl_base.specs.declared.fault.EvalCode.TheVariants.{TooLarge}
use Rattle.wdl_value.specs.Fits.{Structs, fits}
use Rattle.wdl_value.specs.Limits.{short_step, is_short, list_is_short, rows_are_short, limited}
use Rattle.wdl_value.specs.Parts.{items_at, items_in, rows_at, rows_in}
use Rattle.wdl_value.specs.Size.{size, size_step, size_list, size_row_list}
use Rattle.wdl_value.specs.ValueText.{text_at, text_of}
use Rattle.wdl_value.specs.Written.{text_line, cells_line, entry_line}
use Rattle.wdl_value.proofs.FitsForms.{all_fit, rows_fit, a_str, a_list, a_map}
use Rattle.wdl_stdlib.proofs.Past.{size-List, is_short-List}
use Rattle.wdl_files.specs.ReadBack.{is_cell, are_cells, are_rows}

at_most : (n m : ℕ) → n ≤ m → nat_le n m ≡ true
at_most n m h = grind (arith, nat_tests)

kept : (x : Value) → size x ≤ 4194304 → is_short x ≡ true → limited x ≡ Ok x
kept x h k = ap (λ b. cond b (Ok x) (Err TooLarge)) (and_from (nat_le (size x) 4194304) (is_short x) (at_most (size x) 4194304 h) k)

size-Str : (s : List ℕ) → size (v.Str s) ≡ 1 + length s
size-Str s = fold_out-Value ℕ size_step (v.Str s) ∙ ap (λ (l : Value-F Value). size_step (map-Value Value ℕ size l)) (v.outs-Str s)

size-Map : (rows : List (MapRow Value)) → size (v.Map rows) ≡ 1 + size_row_list rows
size-Map rows = fold_out-Value ℕ size_step (v.Map rows) ∙ ap (λ (l : Value-F Value). size_step (map-Value Value ℕ size l)) (v.outs-Map rows)

is_short-Str : (s : List ℕ) → is_short (v.Str s) ≡ true
is_short-Str s = fold_out-Value Bool short_step (v.Str s) ∙ ap (λ (l : Value-F Value). short_step (map-Value Value Bool is_short l)) (v.outs-Str s)

is_short-Map : (rows : List (MapRow Value)) → length rows ≤ 100000 → rows_are_short rows ≡ true → is_short (v.Map rows) ≡ true
is_short-Map rows h k =
    let test : MapRow Value → MapRow Bool = λ r. record { key = is_short r.key; value = is_short r.value } in
    fold_out-Value Bool short_step (v.Map rows) ∙ ap (λ (l : Value-F Value). short_step (map-Value Value Bool is_short l)) (v.outs-Map rows)
    ∙ and_from _ (rows_are_short rows) (at_most _ 100000 (omega (arith, length-map rows test))) k

short_list : (xs : List Value) → length xs ≤ 100000 → list_is_short xs ≡ true → is_short (v.List xs) ≡ true
short_list xs h k = is_short-List xs ∙ and_from _ (list_is_short xs) (at_most _ 100000 (omega (arith, length-map xs is_short))) k

module _ (structs : Structs) where
  -- ---- texts

  size_text : (x : Value) → fits structs x ty.Str ≡ true → size x ≡ 1 + length (text_of x)
  size_text x h =
      let p = a_str structs x h in
      ap size p.1 ∙ size-Str p.0 ∙ ap (λ s. 1 + length s) (sym (ap text_of p.1 ∙ ap (λ (l : Value-F Value). text_at l) (v.outs-Str p.0)))

  short_text : (x : Value) → fits structs x ty.Str ≡ true → is_short x ≡ true
  short_text x h = let p = a_str structs x h in ap is_short p.1 ∙ is_short-Str p.0

  short_texts : (xs : List Value) → all_fit structs xs ty.Str ≡ true → list_is_short xs ≡ true
  short_texts [] h = refl
  short_texts (x ∷ xs) h = let p = and_parts (fits structs x ty.Str) (all_fit structs xs ty.Str) h in and_from (is_short x) _ (short_text x p.0) (short_texts xs p.1)

  counted_texts : (xs : List Value) → all_fit structs xs ty.Str ≡ true → length xs ≤ size_list xs
  counted_texts [] h = omega arith
  counted_texts (x ∷ xs) h =
      let p = and_parts (fits structs x ty.Str) (all_fit structs xs ty.Str) h in
      omega (arith, size_text x p.0, counted_texts xs p.1)

  -- ---- lines

  size_lines : (xs : List Value) → all_fit structs xs ty.Str ≡ true → size_list xs ≡ length (flat_map text_line xs)
  size_lines [] h = refl
  size_lines (x ∷ xs) h =
      let p = and_parts (fits structs x ty.Str) (all_fit structs xs ty.Str) h in
      omega (arith, size_text x p.0, size_lines xs p.1, length-append (text_line x) (flat_map text_line xs), length-append (text_of x) (10 ∷ []))

  pub lines_within : (x : Value) → fits structs x (ty.Array ty.Str false) ≡ true → length (flat_map text_line (items_in x)) ≤ 65536 → limited x ≡ Ok x
  lines_within x h k =
      let p = a_list structs x ty.Str false h in
      let same : items_in x ≡ p.0 = ap (λ (l : Value-F Value). items_at l) p.2 in
      let sizes = ap (λ z. length (flat_map text_line z)) same in
      let total = size_lines p.0 p.3 in
      let count = counted_texts p.0 p.3 in
      let whole = size-List p.0 in
      ap limited p.1 ∙ kept (v.List p.0) (omega arith) (short_list p.0 (omega arith) (short_texts p.0 p.3)) ∙ ap Ok (sym p.1)

  -- ---- rows of cells

  size_cells : (xs : List Value) → all_fit structs xs ty.Str ≡ true → are_cells xs ≡ true → size_list xs ≡ length (join_by text_of (9 ∷ []) xs) + 1
  size_cells [] h k = absurd (false≢true k)
  size_cells (x ∷ []) h k =
      let p = and_parts (fits structs x ty.Str) true h in
      omega (arith, size_text x p.0, length-append (text_of x) [])
  size_cells (x ∷ y ∷ more) h k =
      let p = and_parts (fits structs x ty.Str) (all_fit structs (y ∷ more) ty.Str) h in
      let q = and_parts (is_cell (text_of x)) (are_cells (y ∷ more)) k in
      omega (arith, size_text x p.0, size_cells (y ∷ more) p.1 q.1, length-append (text_of x) (9 ∷ join_by text_of (9 ∷ []) (y ∷ more)))

  -- a row's size and how many cells it has, by its line
  size_row : (row : Value) → fits structs row (ty.Array ty.Str false) ≡ true → are_cells (items_in row) ≡ true
      → (size row ≡ 1 + length (cells_line row)) × (length (cells_line row) ≤ 65536 → is_short row ≡ true) × (1 ≤ length (cells_line row))
  size_row row h k =
      let p = a_list structs row ty.Str false h in
      let same : items_in row ≡ p.0 = ap (λ (l : Value-F Value). items_at l) p.2 in
      let line = length-append (join_by text_of (9 ∷ []) (items_in row)) (10 ∷ []) in
      let total = size_cells p.0 p.3 (sym (ap are_cells same) ∙ k) in
      let moved = ap (λ z. length (join_by text_of (9 ∷ []) z)) same in
      let count = counted_texts p.0 p.3 in
      let whole = size-List p.0 in
      let own = ap size p.1 in
      (omega arith, λ l. ap is_short p.1 ∙ short_list p.0 (omega arith) (short_texts p.0 p.3), omega arith)

  size_rows : (rows : List Value) → all_fit structs rows (ty.Array ty.Str false) ≡ true → are_rows rows ≡ true
      → (size_list rows ≤ length (flat_map cells_line rows) + length (flat_map cells_line rows)) × (length rows ≤ length (flat_map cells_line rows))
  size_rows [] h k = (omega arith, omega arith)
  size_rows (row ∷ rows) h k =
      let p = and_parts (fits structs row (ty.Array ty.Str false)) (all_fit structs rows (ty.Array ty.Str false)) h in
      let q = and_parts (are_cells (items_in row)) (are_rows rows) k in
      let here = size_row row p.0 q.0 in
      let rest = size_rows rows p.1 q.1 in
      let joined = length-append (cells_line row) (flat_map cells_line rows) in
      (omega arith, omega arith)

  short_rows : (rows : List Value) → all_fit structs rows (ty.Array ty.Str false) ≡ true → are_rows rows ≡ true → length (flat_map cells_line rows) ≤ 65536 → list_is_short rows ≡ true
  short_rows [] h k l = refl
  short_rows (row ∷ rows) h k l =
      let p = and_parts (fits structs row (ty.Array ty.Str false)) (all_fit structs rows (ty.Array ty.Str false)) h in
      let q = and_parts (are_cells (items_in row)) (are_rows rows) k in
      let joined = length-append (cells_line row) (flat_map cells_line rows) in
      and_from (is_short row) (list_is_short rows) ((size_row row p.0 q.0).1 (omega arith)) (short_rows rows p.1 q.1 (omega arith))

  pub tsv_within : (x : Value) → fits structs x (ty.Array (ty.Array ty.Str false) false) ≡ true → are_rows (items_in x) ≡ true → length (flat_map cells_line (items_in x)) ≤ 65536 → limited x ≡ Ok x
  tsv_within x h k l =
      let p = a_list structs x (ty.Array ty.Str false) false h in
      let same : items_in x ≡ p.0 = ap (λ (l : Value-F Value). items_at l) p.2 in
      let sizes = ap (λ z. length (flat_map cells_line z)) same in
      let rows : are_rows p.0 ≡ true = sym (ap are_rows same) ∙ k in
      let total = size_rows p.0 p.3 rows in
      let whole = size-List p.0 in
      ap limited p.1 ∙ kept (v.List p.0) (omega arith) (short_list p.0 (omega arith) (short_rows p.0 p.3 rows (omega arith))) ∙ ap Ok (sym p.1)

  -- ---- entries

  size_entries : (rows : List (MapRow Value)) → rows_fit structs rows ty.Str ty.Str ≡ true
      → (size_row_list rows ≡ length (flat_map entry_line rows)) × (length rows ≤ length (flat_map entry_line rows)) × (rows_are_short rows ≡ true)
  size_entries [] h = (refl, omega arith, refl)
  size_entries (row ∷ rows) h =
      let p = and_parts (fits structs row.key ty.Str && fits structs row.value ty.Str) (rows_fit structs rows ty.Str ty.Str) h in
      let f = and_parts (fits structs row.key ty.Str) (fits structs row.value ty.Str) p.0 in
      let rest = size_entries rows p.1 in
      let k = size_text row.key f.0 in
      let x = size_text row.value f.1 in
      let line = length-append (text_of row.key) (9 ∷ (text_of row.value ++ 10 ∷ [])) in
      let tail = length-append (text_of row.value) (10 ∷ []) in
      let joined = length-append (entry_line row) (flat_map entry_line rows) in
      (omega arith, omega arith, and_from (is_short row.key && is_short row.value) (rows_are_short rows) (and_from (is_short row.key) (is_short row.value) (short_text row.key f.0) (short_text row.value f.1)) rest.2)

  pub map_within : (x : Value) → fits structs x (ty.Map ty.Str ty.Str) ≡ true → length (flat_map entry_line (rows_in x)) ≤ 65536 → limited x ≡ Ok x
  map_within x h l =
      let p = a_map structs x ty.Str ty.Str h in
      let same : rows_in x ≡ p.0 = ap (λ (l : Value-F Value). rows_at l) p.2 in
      let sizes = ap (λ z. length (flat_map entry_line z)) same in
      let total = size_entries p.0 p.3 in
      let whole = size-Map p.0 in
      ap limited p.1 ∙ kept (v.Map p.0) (omega arith) (is_short-Map p.0 (omega arith) total.2) ∙ ap Ok (sym p.1)
