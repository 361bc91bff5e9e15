-- The rows of a keeper: a list of entries, which strictly rises by the text of the place and then by the attempt.
use Rattle.std.specs.Prelude.{◌≡◌, Bool, true, false, ◌&&◌, List, [], ◌∷◌, Option, Some}
use Rattle.std.specs.declared.cmp.Ordering.{Ordering}
use Rattle.std.specs.declared.cmp.Ordering.TheVariants.{Less, Equal, Greater}
use Rattle.std.specs.Cmp.Lexicographic.{slice_cmp}
use Rattle.std.specs.Ordering.{is_lt, nat_cmp, ordering_then}
use Rattle.std.specs.Option.{option_map}
use Rattle.wdl_base.specs.Places.{place_text}
use Rattle.wdl_base.specs.declared.entry.Entry.{Entry}
use Rattle.wdl_base.specs.declared.entry.Source.{Source}
use Rattle.wdl_base.specs.declared.entry.Source.TheVariants.{Launched, Kept}
use Rattle.wdl_base.specs.declared.request.Request.{Request}

-- the order of two requests by the text of the place, and then by the attempt
abbrev pub request_order : Request → Request → Ordering
request_order a b =
    ordering_then (slice_cmp nat_cmp (place_text a.place) (place_text b.place)) (nat_cmp a.attempt b.attempt)

abbrev pub row_order : Entry → Entry → Ordering
row_order a b = request_order a.request b.request

-- the row is before the first of these
abbrev pub is_under : Entry → List Entry → Bool
is_under row [] = true
is_under row (next ∷ rows) = is_lt (row_order row next)

-- each row is before the next, so that no place and attempt stands twice
abbrev pub rises : List Entry → Bool
rises [] = true
rises (row ∷ rows) = is_under row rows && rises rows

abbrev pub is_kept : Source → Bool
is_kept Launched = false
is_kept Kept = true

-- each row has the source Kept
abbrev pub are_kept : List Entry → Bool
are_kept [] = true
are_kept (row ∷ rows) = is_kept row.source && are_kept rows

-- the row of an entry
abbrev pub kept_row : Entry → Entry
kept_row e = record { request = e.request; answer = e.answer; source = Kept }

abbrev pub placed : Ordering → Entry → Entry → List Entry → List Entry → List Entry
placed Less row next rows more = row ∷ next ∷ rows
placed Equal row next rows more = row ∷ rows
placed Greater row next rows more = next ∷ more

-- the rows with this one in the place of the row of its place and attempt, or added where it belongs
abbrev pub put_row : Entry → List Entry → List Entry
put_row row [] = row ∷ []
put_row row (next ∷ rows) = placed (row_order row next) row next rows (put_row row rows)

-- the rows after an entry was put, where they are told
abbrev pub with_entry : Option (List Entry) → Entry → Option (List Entry)
with_entry told e = option_map (put_row (kept_row e)) told

-- the told rows rise
abbrev pub ToldRise : Option (List Entry) → Type 0
ToldRise told = (rows : List Entry) → told ≡ Some rows → rises rows ≡ true

-- these are the rows, where they are told
abbrev pub AreRows : Option (List Entry) → List Entry → Type 0
AreRows told all = (rows : List Entry) → told ≡ Some rows → all ≡ rows
