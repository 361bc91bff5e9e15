use Rattle.std.proofs.Common.{◌≡◌, drop}
use Rattle.wdl_typed.specs.Bodies.{all_seen}
use Rattle.wdl_well_typed.proofs.calls.all_seen.Given as goal

abbrev pub invariant-loop-name : goal.invariant-loop-name
invariant-loop-name l = all_seen l.calls (drop l.name-index l.names) ≡ all_seen l.calls l.names
