use Rattle.std.proofs.Common.{◌≡◌, true, take}
use Rattle.std.specs.List.{list_all}
use Rattle.cwl_formed.specs.Plain.{wire_plain}
use Rattle.cwl_formed.proofs.texts.see_wires.Given as goal

abbrev pub invariant-loop-wire : goal.invariant-loop-wire
invariant-loop-wire l = list_all wire_plain (take l.wire-index l.wires) ≡ true
