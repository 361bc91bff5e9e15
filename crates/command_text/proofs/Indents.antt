-- The indent that lines have in common.
use Rattle.std.proofs.Common.{◌≡◌, ◌∙◌, sym, ap, ℕ, ◌+◌, ◌<◌, ◌≤◌, ◌==◌, min, Bool, true, false, cond, List, [], ◌∷◌, length, map, take, drop, get_or, Bor, refl, arith}
use Rattle.std.specs.List.{All, common_prefix_len, filter, fold}
use Rattle.std.proofs.lemmas.List.{length-take, length-drop, at_drop_more}
use Rattle.std.proofs.lemmas.List.Elements.{All-nil, All-cons}
use Rattle.std.proofs.lemmas.List.Folds.{length-prefix_len}
use Rattle.std.proofs.lemmas.List.Sums.{common_prefix_len-le}
use Rattle.wdl_base.specs.Templates.{common, common_indent, indent, is_blank_line, is_indent, is_written}
use Rattle.command_text.specs.Marks.{Fits}

common_le : (left right : List ℕ) → (length (common left right) ≤ length left) × (length (common left right) ≤ length right)
common_le left right =
    let n = common_prefix_len-le (λ a b. a == b) left right in
    let e : length (common left right) ≡ min (common_prefix_len (λ a b. a == b) left right) (length left) = length-take _ left in
    (omega (arith, n.0, n.1, e), omega (arith, n.0, n.1, e))

-- where one of two texts ends, the common prefix does
pub common_whole : (left right : List ℕ) (at most : ℕ) → most ≡ min (length left) (length right) → at ≤ most → most ≤ at
    → at + common_prefix_len (λ a b. a == b) (drop at left) (drop at right) ≡ common_prefix_len (λ a b. a == b) left right
    → take most left ≡ common left right
common_whole left right at most is low high kept =
    let over = common_prefix_len-le (λ a b. a == b) (drop at left) (drop at right) in
    let e : most ≡ common_prefix_len (λ a b. a == b) left right =
    omega (arith, over.0, over.1, length-drop at left, length-drop at right) in
    ap (λ n. take n left) e

fold_le : (prefix : List ℕ) (all : List (List ℕ)) → length (fold common prefix all) ≤ length prefix
fold_le prefix [] = omega arith
fold_le prefix (x ∷ all) = let a = fold_le (common prefix x) all in let b = (common_le prefix x).0 in omega (arith, a, b)

second_le : (first second : List ℕ) (all : List (List ℕ)) → length (fold common (common first second) all) ≤ length second
second_le first second all =
    let a = fold_le (common first second) all in
    let b = (common_le first second).1 in
    omega (arith, a, b)

narrowed_more : (prefix line : List ℕ) (all : List (List ℕ))
    → fold common (cond (is_written line) (common prefix (indent line)) prefix) (map indent (filter is_written all))
    ≡ fold common prefix (map indent (filter is_written (line ∷ all)))
narrowed_more prefix line all = go (is_blank_line line) refl
  where
    go : (b : Bool) → is_blank_line line ≡ b
        → fold common (cond (is_written line) (common prefix (indent line)) prefix) (map indent (filter is_written all))
        ≡ fold common prefix (map indent (filter is_written (line ∷ all)))
    go true e = rw e refl
    go false e = rw e refl

-- one line more
pub narrowed_step : (prefix after : List ℕ) (all : List (Bor (List ℕ))) (i : ℕ) (d : Bor (List ℕ)) → i < length all
    → after ≡ cond (is_written (get_or all i d).now) (common prefix (indent (get_or all i d).now)) prefix
    → fold common after (map indent (filter is_written (map (λ s. s.now) (drop (i + 1) all))))
    ≡ fold common prefix (map indent (filter is_written (map (λ s. s.now) (drop i all))))
narrowed_step prefix after all i d lt is =
    ap (λ p. fold common p (map indent (filter is_written (map (λ s. s.now) (drop (i + 1) all))))) is
    ∙ (narrowed_more prefix (get_or all i d).now (map (λ s. s.now) (drop (i + 1) all))
    ∙ sym (at_drop_more (λ ls. fold common prefix (map indent (filter is_written (map (λ s. s.now) ls)))) all i d lt))

fits_line : (width : ℕ) (line : List ℕ) → width ≤ length (indent line) → Fits width line
fits_line width line h written = omega (arith, h, length-prefix_len is_indent line)

fits_blank : (width : ℕ) (line : List ℕ) → is_blank_line line ≡ true → Fits width line
fits_blank width line e written = cc

abbrev width_from : List ℕ → List (List ℕ) → ℕ
width_from prefix all = length (fold common prefix (map indent (filter is_written all)))

narrowed_fits : (prefix : List ℕ) (all : List (List ℕ)) → All (Fits (width_from prefix all)) all
narrowed_fits prefix [] = All-nil _
narrowed_fits prefix (line ∷ all) =
    go (is_blank_line line) refl (narrowed_fits prefix all) (narrowed_fits (common prefix (indent line)) all)
  where
    go : (b : Bool) → is_blank_line line ≡ b → All (Fits (width_from prefix all)) all
        → All (Fits (width_from (common prefix (indent line)) all)) all
        → All (Fits (width_from prefix (line ∷ all))) (line ∷ all)
    go true e same less = rw e (All-cons (Fits (width_from prefix all)) line all (fits_blank (width_from prefix all) line e) same)
    go false e same less =
        rw e (All-cons (Fits (width_from (common prefix (indent line)) all)) line all (fits_line (width_from (common prefix (indent line)) all) line
        (second_le prefix (indent line) (map indent (filter is_written all)))) less)

-- the common indent may be cut from each line
pub common_fits : (all : List (List ℕ)) → All (Fits (length (common_indent all))) all
common_fits [] = All-nil _
common_fits (line ∷ all) = go (is_blank_line line) refl (common_fits all)
  where
    go : (b : Bool) → is_blank_line line ≡ b → All (Fits (length (common_indent all))) all
        → All (Fits (length (common_indent (line ∷ all)))) (line ∷ all)
    go true e rest = rw e (All-cons (Fits (length (common_indent all))) line all (fits_blank (length (common_indent all)) line e) rest)
    go false e rest = rw e (All-cons (Fits (width_from (indent line) all)) line all (fits_line (width_from (indent line) all) line
        (fold_le (indent line) (map indent (filter is_written all)))) (narrowed_fits (indent line) all))
