use Rattle.std.proofs.Common.{◌≡◌, true, drop}
use Rattle.wdl_library.specs.Structs.{all_have}
use Rattle.wdl_structs.specs.Tables.{named}
use Rattle.wdl_structs.specs.Nodes.{label_from, all_among}
use Rattle.wdl_structs.proofs.NodeLaws.{IsJoining}
use Rattle.wdl_structs.proofs.identity.join_group.Given as goal

abbrev pub invariant-loop-name : goal.invariant-loop-name
invariant-loop-name l =
    IsJoining l.initial.parents l.parents (λ g. all_have (label_from g l.start (named l.index)) (g l.from) l.group)
    (λ g. all_have (label_from g l.start (named l.index)) (g l.from) (drop l.name-index l.group))
    × (all_among (named l.index) (drop l.name-index l.group) ≡ true)
