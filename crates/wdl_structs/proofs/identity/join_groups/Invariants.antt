use Rattle.std.proofs.Common.{◌≡◌, ◌+◌, true, drop}
use Rattle.wdl_structs.specs.Tables.{named}
use Rattle.wdl_structs.specs.Nodes.{label_from, holds_groups, groups_among}
use Rattle.wdl_structs.proofs.NodeLaws.{IsJoining}
use Rattle.wdl_structs.proofs.identity.join_groups.Given as goal

abbrev pub invariant-loop-at : goal.invariant-loop-at
invariant-loop-at l =
    IsJoining l.initial.parents l.parents (λ g. holds_groups (label_from g l.start (named l.index)) g l.first l.groups)
    (λ g. holds_groups (label_from g l.start (named l.index)) g (l.first + l.at) (drop l.at l.groups))
    × (groups_among (named l.index) (drop l.at l.groups) ≡ true)
