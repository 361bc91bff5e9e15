use Rattle.std.proofs.Common.{◌≡◌, map, take}
use Rattle.ready_core.specs.Turns.{job_in}
use Rattle.ready_core.proofs.shown.pending_among.Given as goal

abbrev pub invariant-loop-prepared : goal.invariant-loop-prepared
invariant-loop-prepared l = l.ready.items ≡ map job_in (take l.prepared-index l.waiting)
