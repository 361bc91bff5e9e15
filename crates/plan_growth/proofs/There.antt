-- Names that stand in instances that there are.
use Rattle.std.proofs.Common.{◌≡◌, ℕ, ◌+◌, ◌<◌, ◌≤◌, Bool, true, false, cond, List, [], ◌∷◌, ◌++◌, All, map, length, get_or, Some, None, arith, sym, ap, ◌∙◌, subst, refl}
use Rattle.std.proofs.lemmas.List.{get_or_append_left, length-append}
use Rattle.std.proofs.lemmas.List.Elements.{All-append, All-cons, All-head, All-nil, All-tail}
use Rattle.std.proofs.lemmas.Option.{slice_get_within}
use Rattle.wdl_base.specs.declared.name.Key.{Key}
use Rattle.wdl_typed.specs.Scope.{same_key}
use Rattle.net_laws.specs.Growing.{mark_cell, slot_cell}
use Rattle.net_laws.specs.Net.{Mark, Slot}
use Rattle.plan_moves.specs.Sheets.{Sheet}
use Rattle.plan_layout.specs.declared.layout.Need.{Need}
use Rattle.plan_layout.specs.Cells.{cell_at, marks_at, slots_at}
use Rattle.plan_layout.specs.Spots.{find_spot, needs_of, spots_from}
use Rattle.plan_layout.proofs.Needed.{AreSeen, picks_seen}
use Rattle.plan_growth.specs.Begun.{IsFree}
use Rattle.plan_growth.specs.Entering.{cells_of}
use Rattle.plan_growth.specs.Meaning.{AreThere}

abbrev pub Below : ℕ → ℕ → Type 0
Below n c = c < n

-- ---- more instances and more cells

cell_more : (bases more : List ℕ) (s : Need) → s.level < length bases → cell_at (bases ++ more) s ≡ cell_at bases s
cell_more bases more s lt = ap (λ (c : ℕ). c + s.slot) (get_or_append_left bases more 0 s.level lt)

pub there_more : (bases more : List ℕ) (n m : ℕ) → n ≤ m → (ns : List Need) → AreThere bases n ns → AreThere (bases ++ more) m ns
there_more bases more n m le [] h = tt
there_more bases more n m le (s ∷ ss) h =
    let size = length-append bases more in
    let same = cell_more bases more s h.0 in
    let lower = h.0 in
    let inside = h.1 in
    (omega (arith, size, lower), omega (arith, same, inside, le), there_more bases more n m le ss h.2)

pub there_later : (bases : List ℕ) (n m : ℕ) → n ≤ m → (ns : List Need) → AreThere bases n ns → AreThere bases m ns
there_later bases n m le [] h = tt
there_later bases n m le (s ∷ ss) h = let inside = h.1 in (h.0, omega (arith, inside, le), there_later bases n m le ss h.2)

pub slots_more : (bases more : List ℕ) (n : ℕ) (ns : List Need) → AreThere bases n ns → slots_at (bases ++ more) ns ≡ slots_at bases ns
slots_more bases more n [] h = refl
slots_more bases more n (s ∷ ss) h =
    ap (λ (c : ℕ). record { key = s.key; cell = c } ∷ slots_at (bases ++ more) ss) (cell_more bases more s h.0)
    ∙ ap (λ (xs : List Slot). record { key = s.key; cell = cell_at bases s } ∷ xs) (slots_more bases more n ss h.2)

pub marks_more : (bases more : List ℕ) (n : ℕ) (ns : List Need) → AreThere bases n ns → marks_at (bases ++ more) ns ≡ marks_at bases ns
marks_more bases more n [] h = refl
marks_more bases more n (s ∷ ss) h =
    ap (λ (c : ℕ). record { call = s.key.first; cell = c } ∷ marks_at (bases ++ more) ss) (cell_more bases more s h.0)
    ∙ ap (λ (xs : List Mark). record { call = s.key.first; cell = cell_at bases s } ∷ xs) (marks_more bases more n ss h.2)

-- ---- lists of names

pub there_both : (bases : List ℕ) (n : ℕ) (xs ys : List Need) → AreThere bases n xs → AreThere bases n ys → AreThere bases n (xs ++ ys)
there_both bases n [] ys h j = j
there_both bases n (x ∷ xs) ys h j = (h.0, h.1, there_both bases n xs ys h.2 j)

there_found : (bases : List ℕ) (n : ℕ) (seen : List Need) → AreThere bases n seen → (key : Key) (x : Need) → find_spot seen key ≡ Some x → (x.level < length bases) × (cell_at bases x < n)
there_found bases n [] h key x e = absurd (let f : ⊥ = cc in f)
there_found bases n (s ∷ ss) h key x e = by_key (same_key s.key key) (there_found bases n ss h.2 key x) e
  where
    by_key : (b : Bool) → (find_spot ss key ≡ Some x → (x.level < length bases) × (cell_at bases x < n)) → cond b (Some s) (find_spot ss key) ≡ Some x → (x.level < length bases) × (cell_at bases x < n)
    by_key true rest i = let same : s ≡ x = cc in subst (λ (z : Need). (z.level < length bases) × (cell_at bases z < n)) same (h.0, h.1)
    by_key false rest i = rest i

there_seen : (bases : List ℕ) (n : ℕ) (seen : List Need) → AreThere bases n seen → (ns : List Need) → AreSeen seen ns → AreThere bases n ns
there_seen bases n seen h [] i = tt
there_seen bases n seen h (x ∷ xs) i = let p = there_found bases n seen h x.key x i.0 in (p.0, p.1, there_seen bases n seen h xs i.1)

there_cells : (bases : List ℕ) (n : ℕ) (ns : List Need) → AreThere bases n ns → All (Below n) (map (cell_at bases) ns)
there_cells bases n [] h = All-nil (Below n)
there_cells bases n (x ∷ xs) h = All-cons (Below n) (cell_at bases x) (map (cell_at bases) xs) h.1 (there_cells bases n xs h.2)

pub needs_below : (bases : List ℕ) (n : ℕ) (seen : List Need) → AreThere bases n seen → (keys : List Key) → All (Below n) (map (cell_at bases) (needs_of seen keys))
needs_below bases n seen h keys = there_cells bases n (needs_of seen keys) (there_seen bases n seen h (needs_of seen keys) (picks_seen seen [] keys tt))

pub step_below : (bases : List ℕ) (n : ℕ) (names calls : List Need) → AreThere bases n names → AreThere bases n calls → (keys after : List Key) (needs behind : List Need) → needs ≡ needs_of names keys
    → behind ≡ needs_of calls after → All (Below n) (cells_of bases needs behind)
step_below bases n names calls h i keys after needs behind e f =
    subst (λ (xs : List Need). All (Below n) (cells_of bases xs behind)) (sym e)
    (subst (λ (ys : List Need). All (Below n) (cells_of bases (needs_of names keys) ys)) (sym f)
    (All-append (Below n) (map (cell_at bases) (needs_of names keys)) (map (cell_at bases) (needs_of calls after)) (needs_below bases n names h keys) (needs_below bases n calls i after)))

-- ---- names of free cells

module _ (b : Sheet) (owners bases : List ℕ) (t level : ℕ) (lt : level < length bases) where
  pub names_there : (first : ℕ) (ks : List Key) → All (IsFree b owners t) (map slot_cell (slots_at bases (spots_from level first ks))) → AreThere bases (length b.values) (spots_from level first ks)
  names_there first [] h = tt
  names_there first (k ∷ ks) h = (
    lt,
    slice_get_within b.values (get_or bases level 0 + first) None (All-head (IsFree b owners t) (get_or bases level 0 + first) (map slot_cell (slots_at bases (spots_from level (first + 1) ks))) h).1,
    names_there (first + 1) ks (All-tail (IsFree b owners t) (get_or bases level 0 + first) (map slot_cell (slots_at bases (spots_from level (first + 1) ks))) h),
  )

  pub calls_there : (first : ℕ) (ks : List Key) → All (IsFree b owners t) (map mark_cell (marks_at bases (spots_from level first ks))) → AreThere bases (length b.values) (spots_from level first ks)
  calls_there first [] h = tt
  calls_there first (k ∷ ks) h = (
    lt,
    slice_get_within b.values (get_or bases level 0 + first) None (All-head (IsFree b owners t) (get_or bases level 0 + first) (map mark_cell (marks_at bases (spots_from level (first + 1) ks))) h).1,
    calls_there (first + 1) ks (All-tail (IsFree b owners t) (get_or bases level 0 + first) (map mark_cell (marks_at bases (spots_from level (first + 1) ks))) h),
  )
