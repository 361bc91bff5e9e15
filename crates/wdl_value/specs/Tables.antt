-- Tables of answers, and journals.
use Rattle.std.specs.Prelude.{ℕ, Bool, true, false, not, ◌&&◌, ◌||◌, ◌==◌, List, [], ◌∷◌, Option, Some, None, if◌then◌else◌, map}
use Rattle.wdl_base.specs.declared.answer.Answer.{Answer}
use Rattle.wdl_base.specs.declared.entry.Entry.{Entry}
use Rattle.wdl_base.specs.declared.place.Segment.{Segment}
use Rattle.wdl_base.specs.Same.{same_place}

-- what a command answered at a place and an attempt
pub record Row : Type 0 where
  pub place : List Segment
  pub attempt : ℕ
  pub answer : Answer

abbrev pub is_at : List Segment → ℕ → Row → Bool
is_at place attempt r = same_place r.place place && r.attempt == attempt

-- the first row's answer
abbrev pub answer_at : List Row → List Segment → ℕ → Option Answer
answer_at [] place attempt = None
answer_at (r ∷ rows) place attempt = if is_at place attempt r then Some r.answer else answer_at rows place attempt

abbrev pub has_row : List Row → List Segment → ℕ → Bool
has_row [] place attempt = false
has_row (r ∷ rows) place attempt = is_at place attempt r || has_row rows place attempt

-- no two rows have one place and attempt
abbrev pub is_table : List Row → Bool
is_table [] = true
is_table (r ∷ rows) = not (has_row rows r.place r.attempt) && is_table rows

abbrev pub row_of : Entry → Row
row_of e = record { place = e.request.place; attempt = e.request.attempt; answer = e.answer }

-- a row for each entry
abbrev pub table : List Entry → List Row
table = map row_of

-- no two entries have one place and attempt
abbrev pub is_journal : List Entry → Bool
is_journal entries = is_table (table entries)
