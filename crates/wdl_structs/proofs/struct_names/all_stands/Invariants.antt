use Rattle.std.proofs.Common.{◌≡◌, ◌≤◌, ◌++◌, ◌+◌, length, drop}
use Rattle.wdl_structs.specs.Tables.{named}
use Rattle.wdl_structs.specs.Nodes.{all_stands, mark_of, total}
use Rattle.wdl_structs.proofs.struct_names.all_stands.Given as goal

abbrev pub invariant-loop-table : goal.invariant-loop-table
invariant-loop-table l =
    (l.all ++ all_stands (mark_of (named l.first) l.parents) l.start (drop l.table-index l.tables) ≡ all_stands (mark_of (named l.first) l.parents) 0 l.tables)
    × (l.start + total (drop l.table-index l.tables) ≤ length l.parents)
