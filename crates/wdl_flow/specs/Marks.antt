-- Numbers that stand for places in an index: what is equal has one number, and what differs mostly has different ones.
use Rattle.std.specs.Prelude.{ℕ, ◌+◌, ◌*◌, ◌%◌, List, [], ◌∷◌, map}
use Rattle.wdl_base.specs.declared.entry.Entry.{Entry}
use Rattle.wdl_base.specs.declared.place.Segment.{Segment}
use Rattle.wdl_base.specs.declared.place.Segment.TheVariants as segment

-- a mark with one more number
unfoldable pub mixed : ℕ → ℕ → ℕ
mixed mark n = mark % 8796093022151 * 1000003 + n

abbrev pub mark_from : ℕ → List ℕ → ℕ
mark_from mark [] = mark
mark_from mark (b ∷ bs) = mark_from (mixed mark b) bs

abbrev pub segment_mark : ℕ → Segment → ℕ
segment_mark mark (segment.Call name) = mark_from (mixed mark 256) name
segment_mark mark (segment.Scatter k) = mixed (mixed mark 257) k
segment_mark mark (segment.If k) = mixed (mixed mark 258) k
segment_mark mark (segment.Index i) = mixed (mixed mark 259) i

abbrev pub place_mark : ℕ → List Segment → ℕ
place_mark mark [] = mark
place_mark mark (s ∷ ss) = place_mark (segment_mark mark s) ss

abbrev pub entry_mark : Entry → ℕ
entry_mark e = place_mark e.request.attempt e.request.place

abbrev pub entry_marks : List Entry → List ℕ
entry_marks = map entry_mark
