use Rattle.std.proofs.Common.{drop}
use Rattle.wdl_structs.specs.Tables.{names_of}
use Rattle.wdl_structs.specs.Nodes.{label_by, from_by}
use Rattle.wdl_structs.proofs.NodeLaws.{IsJoining}
use Rattle.wdl_structs.proofs.identity.join_all.Given as goal

abbrev pub invariant-loop-number : goal.invariant-loop-number
invariant-loop-number l =
    IsJoining l.initial.parents l.parents (λ g. from_by (label_by l.tables g) (names_of l.tables) 0 l.docs) (λ g. from_by (label_by l.tables g) (names_of l.tables) l.number (drop l.number l.docs))
