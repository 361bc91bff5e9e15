-- One more row of the source Kept.
use Rattle.std.proofs.Common.{◌≡◌, true, List, [], ◌∷◌, ◌++◌, arith}
use Rattle.std.specs.Cmp.Derive.{both_true}
use Rattle.wdl_base.specs.declared.entry.Entry.{Entry}
use Rattle.wdl_base.specs.declared.entry.Source.TheVariants.{Kept}
use Rattle.wdl_port.specs.Rows.{are_kept}

kept_last : (row : Entry) → row.source ≡ Kept → are_kept (row ∷ []) ≡ true
kept_last row k = grind (arith, k)

pub kept_push : (rows : List Entry) (row : Entry) → are_kept rows ≡ true → row.source ≡ Kept → are_kept (rows ++ row ∷ []) ≡ true
kept_push [] row r k = kept_last row k
kept_push (next ∷ rows) row r k = both_true (grind (arith, r)) (kept_push rows row (grind (arith, r)) k)
