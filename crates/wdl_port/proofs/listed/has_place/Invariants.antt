use Rattle.std.proofs.Common.{◌≡◌, drop}
use Rattle.wdl_port.specs.Memory.{has_place}
use Rattle.wdl_port.proofs.listed.has_place.Given as goal

abbrev pub invariant-loop-p : goal.invariant-loop-p
invariant-loop-p l = has_place l.place (drop l.p-index l.places) ≡ has_place l.place l.places
