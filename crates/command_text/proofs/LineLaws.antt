-- What the dedent rule keeps of a text, and where lines may be cut.
use Rattle.std.proofs.Common.{◌≡◌, ◌∙◌, sym, ap, ap₂, subst, ℕ, zero, suc, ◌+◌, ◌-◌, ◌<◌, ◌≤◌, ◌==◌, Bool, true, false, true≢false, List, [], ◌∷◌, ◌++◌, length, map, reverse, take, drop, get_or, Bor, Some, None, ◌≢◌, refl, arith, add-one, append-nil, zero-add}
use Rattle.std.specs.List.{All, join_with_byte, prefix_len, sum_by}
use Rattle.std.specs.Str.{IsCharBoundary, IsUtf8}
use Rattle.std.proofs.lemmas.Bool.Decides.{nat_tests}
use Rattle.std.proofs.lemmas.List.{get_or-map, length-map, reverse-append}
use Rattle.std.proofs.Math.Seq.{take-length}
use Rattle.std.proofs.lemmas.List.Elements.{All-head, All-tail}
use Rattle.std.proofs.lemmas.List.Splits.{join_with_byte-slice_split}
use Rattle.std.proofs.lemmas.List.Sums.{prefix_len-le-length, prefix_len_passes, sum_by-append, sum_by-cons}
use Rattle.std.proofs.lemmas.Str.{IsCharBoundary-after_ascii}
use Rattle.std.proofs.lemmas.Str.Pattern.{IsSplitOnceResult, split_parts}
use Rattle.std.proofs.lemmas.Bool.{and_parts}
use Rattle.wdl_base.specs.Plain.{has_nul}
use Rattle.wdl_base.specs.Templates.{common_indent, cut, dedented_lines, dedented_text, is_blank, is_blank_line, is_indent, lines, without_first, without_last, without_returns}
use Rattle.command_text.specs.Marks.{Fits, led, zeros}
use Rattle.command_text.proofs.Indents.{common_fits}
use Rattle.command_text.proofs.Returns.{zeros_kept}
use Rattle.command_text.proofs.Zeros.{rest_zeros, zeros-append}

-- ---- a hole and what stands around it

plain_from_reads : (text : List ℕ) → ((i : ℕ) → i < length text → get_or text i 0 ≢ 0) → has_nul text ≡ false
plain_from_reads [] h = refl
plain_from_reads (zero ∷ text) h = absurd (h 0 (omega arith) refl)
plain_from_reads (suc b ∷ text) h =
    let first : (suc b == 0) ≡ false = grind (arith, nat_tests) in
    rw first (plain_from_reads text (λ i lt. h (suc i) (omega arith)))

-- what stands before the first hole holds none
pub before_hole : (text : List ℕ) (x : Bor (List ℕ) × Bor (List ℕ)) → IsSplitOnceResult 0 text (Some x) → has_nul x.0.now ≡ false
before_hole text x h = plain_from_reads x.0.now (split_parts 0 text (Some x) h (omega arith)).1

-- where no hole is found, there is none
pub without_hole : (text : List ℕ) → IsSplitOnceResult 0 text None → has_nul text ≡ false
without_hole text h = plain_from_reads text (split_parts 0 text None h (omega arith))

-- ---- lines

pub join_led : (line : List ℕ) (more : List (List ℕ)) → join_with_byte 10 (line ∷ more) ≡ line ++ led more
join_led line [] = sym (append-nil line)
join_led line (next ∷ more) = ap (λ rest. line ++ 10 ∷ rest) (join_led next more)

-- the lines after the first, as a pattern gives them
after_first : {X : Type 0} (x : X) (more : List X) → take (length (x ∷ more) - 1) (drop 1 (x ∷ more)) ≡ more
after_first x more =
    let e : length (x ∷ more) - 1 ≡ length more = omega arith in
    rw e (take-length more)

pub join_rest : (width : ℕ) (all : List (Bor (List ℕ))) (d : Bor (List ℕ)) → 1 ≤ length all
    → join_with_byte 10 (map (cut width) (map (λ s. s.now) all))
    ≡ cut width (get_or all 0 d).now ++ led (map (cut width) (map (λ s. s.now) (take (length all - 1) (drop 1 all))))
join_rest width [] d some = absurd (omega arith)
join_rest width (line ∷ more) d some =
    join_led (cut width line.now) (map (cut width) (map (λ (s : Bor (List ℕ)). s.now) more))
    ∙ ap (λ rest. cut width line.now ++ led (map (cut width) (map (λ (s : Bor (List ℕ)). s.now) rest))) (sym (after_first line more))

pub rest_fits : (width : ℕ) (all : List (Bor (List ℕ))) → All (Fits width) (map (λ s. s.now) all)
    → All (Fits width) (map (λ s. s.now) (take (length all - 1) (drop 1 all)))
rest_fits width [] fits = fits
rest_fits width (line ∷ more) fits =
    rw (after_first line more) (All-tail (Fits width) line.now (map (λ (s : Bor (List ℕ)). s.now) more) fits)

-- what holds of lent lines
pub all_lent : (P : List ℕ → Type 0) (all : List (Bor (List ℕ))) → All P (map (λ s. s.now) all) → (i : ℕ) (d : Bor (List ℕ))
    → i < length all → P (get_or all i d).now
all_lent P all h i d lt =
    let k : i < length (map (λ (s : Bor (List ℕ)). s.now) all) = omega (arith, length-map all (λ (s : Bor (List ℕ)). s.now)) in
    subst P (get_or-map (λ (s : Bor (List ℕ)). s.now) all i d [] lt) (h i [] k)

indent_is_ascii : (b : ℕ) → is_indent b ≡ true → b < 128
indent_is_ascii b h = grind (arith, nat_tests)

-- a text may be cut after blanks and tabs
pub after_indent : (line : List ℕ) (width : ℕ) → IsUtf8 line → width ≤ prefix_len is_indent line → 0 < width
    → IsCharBoundary line width
after_indent line zero utf8 fits some = absurd (omega arith)
after_indent line (suc k) utf8 fits some =
    let low : k < prefix_len is_indent line = omega arith in
    let here : k < length line = omega (arith, prefix_len-le-length is_indent line) in
    subst (IsCharBoundary line) (add-one k)
    (IsCharBoundary-after_ascii line k utf8 here (indent_is_ascii _ (prefix_len_passes is_indent line k 0 low)))

-- ---- the holes that lines have

zeros-join : (all : List (List ℕ)) → zeros (join_with_byte 10 all) ≡ sum_by zeros all
zeros-join [] = refl
zeros-join (line ∷ []) = sym (zero-add (zeros line))
zeros-join (line ∷ (next ∷ more)) =
    zeros-append line (10 ∷ join_with_byte 10 (next ∷ more))
    ∙ (ap (λ n. zeros line + n) (rest_zeros 9 (join_with_byte 10 (next ∷ more)) ∙ zeros-join (next ∷ more))
    ∙ sym (sum_by-cons zeros line (next ∷ more)))

total_lines : (text : List ℕ) → sum_by zeros (lines text) ≡ zeros text
total_lines text = sym (zeros-join (lines text)) ∙ ap zeros (join_with_byte-slice_split 10 text)

indent_is_some : (b : ℕ) → is_indent b ≡ true → (b == 0) ≡ false
indent_is_some b h = grind (arith, nat_tests)

indent_zeros : (b : ℕ) (text : List ℕ) → (b == 0) ≡ false → zeros (b ∷ text) ≡ zeros text
indent_zeros zero text h = absurd (true≢false h)
indent_zeros (suc b) text h = rest_zeros b text

blank_zeros : (line : List ℕ) → is_blank_line line ≡ true → zeros line ≡ 0
blank_zeros [] h = refl
blank_zeros (b ∷ line) h =
    let p = and_parts (is_blank b) (is_blank_line line) h in
    let some : (b == 0) ≡ false = grind (arith, nat_tests, p.0) in
    indent_zeros b line some ∙ blank_zeros line p.1

total_first : (all : List (List ℕ)) → sum_by zeros (without_first all) ≡ sum_by zeros all
total_first [] = refl
total_first (line ∷ []) = refl
total_first (line ∷ (next ∷ more)) = go (is_blank_line line) refl
  where
    go : (b : Bool) → is_blank_line line ≡ b → sum_by zeros (without_first (line ∷ (next ∷ more))) ≡ sum_by zeros (line ∷ (next ∷ more))
    go true e = rw e (sym (sum_by-cons zeros line (next ∷ more) ∙ ap (λ n. n + sum_by zeros (next ∷ more)) (blank_zeros line e) ∙ zero-add (sum_by zeros (next ∷ more))))
    go false e = rw e refl

total_reverse : (all : List (List ℕ)) → sum_by zeros (reverse all) ≡ sum_by zeros all
total_reverse [] = refl
total_reverse (line ∷ more) =
    let turned = ap (sum_by zeros) (reverse-append (line ∷ []) more) in
    let parts = sum_by-append zeros (reverse more) (line ∷ []) in
    let rest = total_reverse more in
    omega (arith, turned, parts, rest, sum_by-cons zeros line more, sum_by-cons zeros line [])

total_last : (all : List (List ℕ)) → sum_by zeros (without_last all) ≡ sum_by zeros all
total_last all = total_reverse (without_first (reverse all)) ∙ (total_first (reverse all) ∙ total_reverse all)

drop_zeros : (line : List ℕ) (width : ℕ) → width ≤ prefix_len is_indent line → zeros (drop width line) ≡ zeros line
drop_zeros line zero fits = refl
drop_zeros [] (suc k) fits = refl
drop_zeros (b ∷ line) (suc k) fits = go (is_indent b) refl (drop_zeros line k)
  where
    go : (t : Bool) → is_indent b ≡ t → (k ≤ prefix_len is_indent line → zeros (drop k line) ≡ zeros line)
        → zeros (drop (suc k) (b ∷ line)) ≡ zeros (b ∷ line)
    go true e rest =
        let some : (b == 0) ≡ false = indent_is_some b e in
        let low : k ≤ prefix_len is_indent line = omega (arith, rw e at fits) in
        rest low ∙ sym (indent_zeros b line some)
    go false e rest = absurd (omega (arith, rw e at fits))

cut_zeros : (width : ℕ) (line : List ℕ) → Fits width line → zeros (cut width line) ≡ zeros line
cut_zeros width line fits = go (is_blank_line line) refl
  where
    go : (b : Bool) → is_blank_line line ≡ b → zeros (cut width line) ≡ zeros line
    go true e = rw e (sym (blank_zeros line e))
    go false e = rw e (drop_zeros line width (fits e))

total_cut : (width : ℕ) (all : List (List ℕ)) → All (Fits width) all → sum_by zeros (map (cut width) all) ≡ sum_by zeros all
total_cut width [] fits = refl
total_cut width (line ∷ more) fits =
    let e = cut_zeros width line (All-head (Fits width) line more fits) in
    let f = total_cut width more (All-tail (Fits width) line more fits) in
    sum_by-cons zeros (cut width line) (map (cut width) more) ∙ (ap₂ (λ m n. m + n) e f ∙ sym (sum_by-cons zeros line more))

-- no hole is lost
pub zeros_dedented : (text : List ℕ) → zeros (dedented_text text) ≡ zeros text
unfolding dedented_text
zeros_dedented text =
    let own = without_returns text in
    let all = without_last (without_first (lines own)) in
    zeros-join (map (cut (length (common_indent all))) all)
    ∙ (total_cut (length (common_indent all)) all (common_fits all)
    ∙ (total_last (without_first (lines own)) ∙ (total_first (lines own) ∙ (total_lines own ∙ zeros_kept text))))

-- lent lines that were cut and joined are the text
pub dedented_is : (text : List ℕ) (all first last : List (Bor (List ℕ))) (width : ℕ) → map (λ s. s.now) all ≡ lines (without_returns text)
    → map (λ s. s.now) first ≡ without_first (map (λ s. s.now) all) → map (λ s. s.now) last ≡ without_last (map (λ s. s.now) first)
    → width ≡ length (common_indent (map (λ s. s.now) last))
    → join_with_byte 10 (map (cut width) (map (λ s. s.now) last)) ≡ dedented_text text
unfolding dedented_text
dedented_is text all first last width are one two wide =
    ap (λ w. join_with_byte 10 (map (cut w) (map (λ (s : Bor (List ℕ)). s.now) last))) wide
    ∙ ap (λ ls. join_with_byte 10 (dedented_lines ls)) (two ∙ ap without_last (one ∙ ap without_first are))
