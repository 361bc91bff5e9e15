-- Lines and cells that were joined, read.
use Rattle.std.proofs.Common.{◌≡◌, ℕ, zero, suc, ◌-◌, ◌==◌, Bool, true, false, cond, not, ◌&&◌, ◌||◌, List, [], ◌∷◌, ◌++◌, length, get_or, take, refl, ap, ◌∙◌, arith, append_assoc, append-nil}
use Rattle.std.proofs.lemmas.Bool.{false≢true, and_parts, and_from, or_parts, not-true}
use Rattle.std.proofs.lemmas.List.Splits.{slice_split_at, slice_split_none}
use Rattle.std.specs.List.{slice_split, list_any, list_all, flat_map, join_by, All}
use Rattle.std.specs.Str.Lines.{lines, lines_of_parts, strip_carriage_return}
use Rattle.wdl_files.specs.ReadBack.{lacks, last_byte, is_line, is_cell}

-- ---- bytes that are not there

each_differs : (c : ℕ) (s : List ℕ) → list_any (λ b. b == c) s ≡ false → All (λ b. (b == c) ≡ false) s
each_differs c [] h k d l = absurd (omega arith)
each_differs c (b ∷ bs) h zero d l = (or_parts (b == c) (list_any (λ z. z == c) bs) h).0
each_differs c (b ∷ bs) h (suc k) d l = each_differs c bs (or_parts (b == c) (list_any (λ z. z == c) bs) h).1 k d (omega arith)

lacking : (c : ℕ) (s : List ℕ) → lacks c s ≡ true → All (λ b. (b == c) ≡ false) s
lacking c s h = each_differs c s (not-true (list_any (λ b. b == c) s) h)

lacks-append : (c : ℕ) (xs ys : List ℕ) → lacks c xs ≡ true → lacks c ys ≡ true → lacks c (xs ++ ys) ≡ true
lacks-append c xs ys h k = ap not (none xs (not-true (list_any (λ b. b == c) xs) h))
  where
    none : (xs : List ℕ) → list_any (λ b. b == c) xs ≡ false → list_any (λ b. b == c) (xs ++ ys) ≡ false
    none [] e = not-true (list_any (λ b. b == c) ys) k
    none (x ∷ xs) e = let p = or_parts (x == c) (list_any (λ b. b == c) xs) e in ap (λ b. b || list_any (λ z. z == c) (xs ++ ys)) p.0 ∙ none xs p.1

-- ---- lines

abbrev pub block : List (List ℕ) → List ℕ
block = flat_map (λ t. t ++ 10 ∷ [])

parts_of_block : (ts : List (List ℕ)) → list_all is_line ts ≡ true → slice_split (λ b. b == 10) (block ts) ≡ ts ++ [] ∷ []
parts_of_block [] h = refl
parts_of_block (t ∷ ts) h =
    let p = and_parts (is_line t) (list_all is_line ts) h in
    let q = and_parts (lacks 10 t) (not (last_byte t == 13)) p.0 in
    ap (slice_split (λ b. b == 10)) (append_assoc t (10 ∷ []) (block ts))
    ∙ slice_split_at (λ b. b == 10) t 10 (block ts) (lacking 10 t q.0) refl
    ∙ ap (λ z. t ∷ z) (parts_of_block ts p.1)

last_is : (s : List ℕ) → get_or s (length s - 1) 0 ≡ last_byte s
last_is [] = refl
last_is (b ∷ []) = refl
last_is (b ∷ c ∷ cs) =
    let e : length (b ∷ c ∷ cs) - 1 ≡ suc (length (c ∷ cs) - 1) = omega arith in
    ap (λ i. get_or (b ∷ c ∷ cs) i 0) e ∙ last_is (c ∷ cs)

kept : (t : List ℕ) → is_line t ≡ true → strip_carriage_return t ≡ t
kept t h =
    let q = and_parts (lacks 10 t) (not (last_byte t == 13)) h in
    ap (λ b. cond b (take (length t - 1) t) t) (ap (λ z. z == 13) (last_is t) ∙ not-true (last_byte t == 13) q.1)

whole_lines : (ts : List (List ℕ)) → list_all is_line ts ≡ true → lines_of_parts (ts ++ [] ∷ []) ≡ ts
whole_lines [] h = refl
whole_lines (t ∷ []) h = ap (λ z. z ∷ []) (kept t (and_parts (is_line t) true h).0)
whole_lines (t ∷ u ∷ us) h =
    let p = and_parts (is_line t) (list_all is_line (u ∷ us)) h in
    ap (λ z. z ∷ lines_of_parts (u ∷ (us ++ [] ∷ []))) (kept t p.0) ∙ ap (λ z. t ∷ z) (whole_lines (u ∷ us) p.1)

pub lines_of_block : (ts : List (List ℕ)) → list_all is_line ts ≡ true → lines (block ts) ≡ ts
lines_of_block ts h = ap lines_of_parts (parts_of_block ts h) ∙ whole_lines ts h

-- ---- cells

abbrev pub joined : List (List ℕ) → List ℕ
joined = join_by (λ t. t) (9 ∷ [])

abbrev pub all_cells : List (List ℕ) → Bool
all_cells [] = false
all_cells (t ∷ []) = is_cell t
all_cells (t ∷ u ∷ us) = is_cell t && all_cells (u ∷ us)

pub cells_of_joined : (ts : List (List ℕ)) → all_cells ts ≡ true → slice_split (λ b. b == 9) (joined ts) ≡ ts
cells_of_joined [] h = absurd (false≢true h)
cells_of_joined (t ∷ []) h =
    ap (slice_split (λ b. b == 9)) (append-nil t) ∙ slice_split_none (λ b. b == 9) t (lacking 9 t (and_parts (is_line t) (lacks 9 t) h).1)
cells_of_joined (t ∷ u ∷ us) h =
    let p = and_parts (is_cell t) (all_cells (u ∷ us)) h in
    slice_split_at (λ b. b == 9) t 9 (joined (u ∷ us)) (lacking 9 t (and_parts (is_line t) (lacks 9 t) p.0).1) refl
    ∙ ap (λ z. t ∷ z) (cells_of_joined (u ∷ us) p.1)

last-append : (xs : List ℕ) (y : ℕ) (ys : List ℕ) → last_byte (xs ++ y ∷ ys) ≡ last_byte (y ∷ ys)
last-append [] y ys = refl
last-append (x ∷ []) y ys = refl
last-append (x ∷ z ∷ zs) y ys = last-append (z ∷ zs) y ys

after_tab : (s : List ℕ) → (last_byte s == 13) ≡ false → (last_byte (9 ∷ s) == 13) ≡ false
after_tab [] h = refl
after_tab (b ∷ bs) h = h

pub line_of_joined : (ts : List (List ℕ)) → all_cells ts ≡ true → is_line (joined ts) ≡ true
line_of_joined [] h = absurd (false≢true h)
line_of_joined (t ∷ []) h = ap is_line (append-nil t) ∙ (and_parts (is_line t) (lacks 9 t) h).0
line_of_joined (t ∷ u ∷ us) h =
    let p = and_parts (is_cell t) (all_cells (u ∷ us)) h in
    let q = and_parts (is_line t) (lacks 9 t) p.0 in
    let here = and_parts (lacks 10 t) (not (last_byte t == 13)) q.0 in
    let rest = and_parts (lacks 10 (joined (u ∷ us))) (not (last_byte (joined (u ∷ us)) == 13)) (line_of_joined (u ∷ us) p.1) in
    and_from (lacks 10 (t ++ 9 ∷ joined (u ∷ us))) _ (lacks-append 10 t (9 ∷ joined (u ∷ us)) here.0 rest.0)
    (ap (λ n. not (n == 13)) (last-append t 9 (joined (u ∷ us))) ∙ ap not (after_tab (joined (u ∷ us)) (not-true _ rest.1)))
