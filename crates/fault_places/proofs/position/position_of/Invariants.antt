use Rattle.std.proofs.Common.{◌≡◌, ◌+◌, ◌≤◌, take, count_by}
use Rattle.std.specs.List.{after_last}
use Rattle.fault_places.specs.Positions.{is_newline, characters}
use Rattle.fault_places.proofs.position.position_of.Given as goal

abbrev pub invariant-loop-byte : goal.invariant-loop-byte
invariant-loop-byte l =
    (l.line ≡ 1 + count_by is_newline (take l.byte-index l.before))
    × (l.column ≡ 1 + characters (after_last is_newline (take l.byte-index l.before)))
    × (l.line ≤ 1 + l.byte-index)
    × (l.column ≤ 1 + l.byte-index)
