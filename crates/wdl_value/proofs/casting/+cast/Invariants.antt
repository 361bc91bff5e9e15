use Rattle.std.proofs.Common.{◌≡◌, ◌++◌, drop, Ok}
use Rattle.wdl_value.specs.Cast.{and_then, cast_all, cast_rows}
use Rattle.wdl_value.proofs.casting.+cast.Given as goal

abbrev pub invariant-cast_all-loop-item : goal.invariant-cast_all-loop-item
invariant-cast_all-loop-item l = and_then (cast_all (drop l.item-index l.items) l.t) (λ rest. Ok (l.casts ++ rest)) ≡ cast_all l.items l.t

abbrev pub invariant-cast_rows-loop-row : goal.invariant-cast_rows-loop-row
invariant-cast_rows-loop-row l = and_then (cast_rows (drop l.row-index l.rows) l.t l.u) (λ rest. Ok (l.casts ++ rest)) ≡ cast_rows l.rows l.t l.u
