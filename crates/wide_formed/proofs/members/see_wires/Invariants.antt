use Rattle.std.proofs.Common.{◌≡◌, true, take}
use Rattle.std.specs.List.{list_all}
use Rattle.wide_formed.specs.Forms.{wire_named}
use Rattle.wide_formed.proofs.members.see_wires.Given as goal

abbrev pub invariant-loop-wire : goal.invariant-loop-wire
invariant-loop-wire l = list_all wire_named (take l.wire-index l.wires) ≡ true
