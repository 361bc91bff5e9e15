use Rattle.std.proofs.Common.{◌≡◌, drop}
use Rattle.wdl_task.specs.Members.{members_or_none}
use Rattle.wdl_task.proofs.landing.members_of.Given as goal

abbrev pub invariant-loop-def : goal.invariant-loop-def
invariant-loop-def l = members_or_none (drop l.def-index l.structs) l.name ≡ members_or_none l.structs l.name
