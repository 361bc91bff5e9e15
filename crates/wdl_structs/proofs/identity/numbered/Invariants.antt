use Rattle.std.proofs.Common.{◌≡◌, ℕ, ◌+◌, ◌++◌, length, drop}
use Rattle.wdl_structs.specs.Classes.{parent}
use Rattle.wdl_structs.specs.Nodes.{starts_from, total}
use Rattle.wdl_structs.proofs.identity.numbered.Given as goal

abbrev pub invariant-loop-table : goal.invariant-loop-table
invariant-loop-table l =
    (l.starts ++ starts_from (length l.parents.items) (drop l.table-index l.tables) ≡ starts_from 0 l.tables)
    × (length l.parents.items + total (drop l.table-index l.tables) ≡ total l.tables)
    × ((i : ℕ) → parent l.parents.items i ≡ i)
