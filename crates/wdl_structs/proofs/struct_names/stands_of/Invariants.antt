use Rattle.std.proofs.Common.{◌≡◌, ◌++◌, ◌+◌, drop}
use Rattle.wdl_structs.specs.Tables.{named}
use Rattle.wdl_structs.specs.Nodes.{stands_from, mark_of}
use Rattle.wdl_structs.proofs.struct_names.stands_of.Given as goal

abbrev pub invariant-loop-at : goal.invariant-loop-at
invariant-loop-at l =
    l.names ++ stands_from (mark_of (named l.first) l.parents) (l.start + l.at) (named (drop l.at l.entries)) ≡ stands_from (mark_of (named l.first) l.parents) l.start (named l.entries)
