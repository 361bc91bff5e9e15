use Rattle.std.proofs.Common.{◌≡◌, ◌++◌, drop}
use Rattle.std.specs.Option.{option_copied}
use Rattle.serde_json.specs.View.{members_view}
use Rattle.wdl_json.specs.Inputs.{first_of, misfits, binds}
use Rattle.wdl_json.specs.Sooner.{joined}
use Rattle.wdl_json.proofs.gather.gather.Given as goal

abbrev pub invariant-loop-input : goal.invariant-loop-input
invariant-loop-input l =
    (l.binds ++ binds l.structs l.flow (members_view l.members.entries) (drop l.input-index l.inputs) ≡ binds l.structs l.flow (members_view l.members.entries) l.inputs)
    × (joined (option_copied l.misfit) (first_of (misfits l.structs l.flow (members_view l.members.entries)) (drop l.input-index l.inputs))
    ≡ first_of (misfits l.structs l.flow (members_view l.members.entries)) l.inputs)
