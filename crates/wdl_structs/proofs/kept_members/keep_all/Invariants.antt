use Rattle.std.proofs.Common.{◌≡◌, drop}
use Rattle.wdl_structs.specs.Nodes.{start}
use Rattle.wdl_structs.specs.Kept.{KeepsFrom, DiffersFrom}
use Rattle.wdl_structs.proofs.KeptLaws.{IsKeeping}
use Rattle.wdl_structs.proofs.kept_members.keep_all.Given as goal

abbrev pub invariant-loop-number : goal.invariant-loop-number
invariant-loop-number l =
    IsKeeping l.initial.kept l.kept (KeepsFrom l.parents l.tables 0 l.docs) (KeepsFrom l.parents l.tables l.number (drop l.number l.docs))
    (DiffersFrom l.parents l.tables 0 l.docs) (DiffersFrom l.parents l.tables l.number (drop l.number l.docs))
    × (l.start ≡ start l.tables l.number)
