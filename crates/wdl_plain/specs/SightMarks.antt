-- Numbers that stand for keys and calls in an index: what is equal has one number, and what differs mostly has different
-- ones.
use Rattle.std.specs.Prelude.{ℕ, Bool, true, false, List, Option, Some, None, map}
use Rattle.wdl_base.specs.declared.name.Key.{Key}
use Rattle.wdl_typed.specs.KnownTypes.{is_some}
use Rattle.wdl_flow.specs.Marks.{mark_from, mixed}
use Rattle.wdl_plain.specs.declared.known.Ended.{Ended}
use Rattle.wdl_plain.specs.declared.known.Known.{Known}

abbrev pub name_mark : List ℕ → ℕ
name_mark name = mark_from 0 name

abbrev pub bit : Bool → ℕ
bit true = 1
bit false = 0

abbrev pub second_mark : ℕ → Option (List ℕ) → ℕ
second_mark mark None = mark
second_mark mark (Some name) = mark_from (mixed mark 256) name

abbrev pub key_mark : Key → Bool → ℕ
key_mark k b = second_mark (mixed (name_mark k.first) (bit b)) k.second

abbrev pub known_mark : Known → ℕ
known_mark k = key_mark k.key (is_some k.value)

abbrev pub known_marks : List Known → List ℕ
known_marks = map known_mark

abbrev pub call_mark : Ended → ℕ
call_mark e = name_mark e.call

abbrev pub call_marks : List Ended → List ℕ
call_marks = map call_mark
