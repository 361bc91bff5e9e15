-- Rows go on to rise when one is put among them.
use Rattle.std.proofs.Common.{◌≡◌, true, false, List, [], ◌∷◌, ◌++◌, ℕ, ◌<◌, zero, suc, length, get_or, take, drop, drop-cons, slice_set, refl, sym, arith, ◌∙◌, ap}
use Rattle.std.proofs.lemmas.List.{set_split}
use Rattle.std.specs.declared.cmp.Ordering.{Ordering}
use Rattle.std.specs.declared.cmp.Ordering.TheVariants.{Less, Equal, Greater}
use Rattle.std.specs.Cmp.{IsTotalOrder}
use Rattle.std.specs.Cmp.Lexicographic.{on_texts}
use Rattle.std.specs.Ordering.{is_lt, ordering_reverse}
use Rattle.std.proofs.lemmas.Cmp.{then_total, on_total, nat_cmp_total}
use Rattle.std.specs.Cmp.Derive.{both_true}
use Rattle.wdl_base.specs.Places.{place_text}
use Rattle.wdl_base.specs.declared.entry.Entry.{Entry}
use Rattle.wdl_port.specs.Rows.{row_order, is_under, is_kept, are_kept, rises, placed, put_row}

pub row_total : IsTotalOrder row_order
row_total = then_total (on_texts (λ e. place_text e.request.place)) (on_total (λ e. e.request.attempt) nat_cmp_total)

above : (row next : Entry) → row_order row next ≡ Greater → is_lt (row_order next row) ≡ true
above row next h = ap is_lt (row_total.antisymm next row ∙ ap ordering_reverse h)

equal_under : (row next : Entry) (rows : List Entry) → row_order row next ≡ Equal → is_under next rows ≡ true → is_under row rows ≡ true
equal_under row next [] h u = refl
equal_under row next (x ∷ rows) h u = ap is_lt (row_total.congr row next x h) ∙ u

under_placed : (o : Ordering) (x row next : Entry) (rows more : List Entry) → is_lt (row_order x row) ≡ true → is_lt (row_order x next) ≡ true
    → is_under x (placed o row next rows more) ≡ true
under_placed Less x row next rows more h u = h
under_placed Equal x row next rows more h u = h
under_placed Greater x row next rows more h u = u

under_put : (x row : Entry) (rows : List Entry) → is_lt (row_order x row) ≡ true → is_under x rows ≡ true → is_under x (put_row row rows) ≡ true
under_put x row [] h u = h
under_put x row (next ∷ rows) h u = under_placed (row_order row next) x row next rows (put_row row rows) h u

rises_placed : (o : Ordering) (row next : Entry) (rows : List Entry) → row_order row next ≡ o → is_under next rows ≡ true → rises rows ≡ true
    → rises (put_row row rows) ≡ true → rises (placed o row next rows (put_row row rows)) ≡ true
rises_placed Less row next rows h u r more = both_true (ap is_lt h) (both_true u r)
rises_placed Equal row next rows h u r more = both_true (equal_under row next rows h u) r
rises_placed Greater row next rows h u r more = both_true (under_put next row rows (above row next h) u) more

pub rises_put : (row : Entry) (rows : List Entry) → rises rows ≡ true → rises (put_row row rows) ≡ true
rises_put row [] h = refl
rises_put row (next ∷ rows) h =
    let u : is_under next rows ≡ true = grind (arith, h) in
    let r : rises rows ≡ true = grind (arith, h) in
    rises_placed (row_order row next) row next rows refl u r (rises_put row rows r)

-- the row takes the place of the row of its place and attempt
pub at_row : (row : Entry) (rows : List Entry) (i : ℕ) (next : Entry) → i < length rows → put_row row rows ≡ take i rows ++ put_row row (drop i rows)
    → row_order row (get_or rows i next) ≡ Equal → put_row row rows ≡ slice_set rows i row
at_row row rows i next within before same =
    let rest = drop (suc i) rows in
    before
    ∙ ap (λ xs. take i rows ++ put_row row xs) (drop-cons rows i next within)
    ∙ ap (λ o. take i rows ++ placed o row (get_or rows i next) rest (put_row row rest)) same
    ∙ sym (set_split rows i row within)

kept_placed : (o : Ordering) (row next : Entry) (rows more : List Entry) → is_kept row.source ≡ true → is_kept next.source ≡ true → are_kept rows ≡ true
    → are_kept more ≡ true → are_kept (placed o row next rows more) ≡ true
kept_placed Less row next rows more h n r m = both_true h (both_true n r)
kept_placed Equal row next rows more h n r m = both_true h r
kept_placed Greater row next rows more h n r m = both_true n m

pub kept_put : (row : Entry) (rows : List Entry) → is_kept row.source ≡ true → are_kept rows ≡ true → are_kept (put_row row rows) ≡ true
kept_put row [] h k = both_true h refl
kept_put row (next ∷ rows) h k =
    let n : is_kept next.source ≡ true = grind (arith, k) in
    let r : are_kept rows ≡ true = grind (arith, k) in
    kept_placed (row_order row next) row next rows (put_row row rows) h n r (kept_put row rows h r)

pub less : (o : Ordering) → is_lt o ≡ true → o ≡ Less
less Less h = refl
less Equal h = grind arith
less Greater h = grind arith

-- what is not before a row is behind each row before that one
behind : (row x y : Entry) → is_lt (row_order x y) ≡ true → is_lt (row_order row y) ≡ false → row_order row x ≡ Greater
behind row x y under not = behind_by (row_order row y) refl not where
  before : row_order x y ≡ Less
  before = less (row_order x y) under

  behind_by : (o : Ordering) → row_order row y ≡ o → is_lt o ≡ false → row_order row x ≡ Greater
  behind_by Less e h = grind arith
  behind_by Equal e h = row_total.congr row y x e ∙ row_total.antisymm y x ∙ ap ordering_reverse before
  behind_by Greater e h =
      row_total.antisymm row x
      ∙ ap ordering_reverse (row_total.trans x y row before (row_total.antisymm y row ∙ ap ordering_reverse e))

-- the first of rows that rise is before each of the others
first_under : (x d : Entry) (rows : List Entry) (i : ℕ) → i < length rows → is_under x rows ≡ true → rises rows ≡ true
    → is_lt (row_order x (get_or rows i d)) ≡ true
first_under x d [] i within u r = grind arith
first_under x d (y ∷ rows) zero within u r = u
first_under x d (y ∷ []) (suc i) within u r = grind arith
first_under x d (y ∷ z ∷ rows) (suc i) within u r =
    let next : is_lt (row_order y z) ≡ true = grind (arith, r) in
    let more : rises (z ∷ rows) ≡ true = grind (arith, r) in
    let step : is_lt (row_order x z) ≡ true = ap is_lt (row_total.trans x y z (less (row_order x y) u) (less (row_order y z) next)) in
    first_under x d (z ∷ rows) i (grind (arith, within)) step more

-- a row that is not before another of these belongs there or behind it
pub upto : (row d : Entry) (rows : List Entry) (i : ℕ) → i < length rows → rises rows ≡ true → is_lt (row_order row (get_or rows i d)) ≡ false
    → put_row row rows ≡ take i rows ++ put_row row (drop i rows)
upto row d [] i within r h = grind arith
upto row d (x ∷ rows) zero within r h = refl
upto row d (x ∷ rows) (suc i) within r h =
    let u : is_under x rows ≡ true = grind (arith, r) in
    let more : rises rows ≡ true = grind (arith, r) in
    let inside : i < length rows = grind (arith, within) in
    ap (λ o. placed o row x rows (put_row row rows)) (behind row x (get_or rows i d) (first_under x d rows i inside u more) h)
    ∙ ap (λ xs. x ∷ xs) (upto row d rows i inside more h)

-- a row that is behind another of these belongs behind it
pub past : (row d : Entry) (rows : List Entry) (i : ℕ) → i < length rows → rises rows ≡ true → row_order row (get_or rows i d) ≡ Greater
    → put_row row rows ≡ take (suc i) rows ++ put_row row (drop (suc i) rows)
past row d [] i within r h = grind arith
past row d (x ∷ rows) zero within r h = ap (λ o. placed o row x rows (put_row row rows)) h
past row d (x ∷ rows) (suc i) within r h =
    let u : is_under x rows ≡ true = grind (arith, r) in
    let more : rises rows ≡ true = grind (arith, r) in
    let inside : i < length rows = grind (arith, within) in
    ap (λ o. placed o row x rows (put_row row rows)) (behind row x (get_or rows i d) (first_under x d rows i inside u more) (ap is_lt h))
    ∙ ap (λ xs. x ∷ xs) (past row d rows i inside more h)
