use Rattle.std.proofs.Common.{◌≡◌, ◌<◌, ◌+◌, ◌-◌, ◌^◌, min, drop}
use Rattle.wdl_typed.specs.Requests as spec
use Rattle.wdl_task.specs.Calls.{laid_bytes}
use Rattle.wdl_task.proofs.writes.laid_size.Given as goal

abbrev pub invariant-loop-file : goal.invariant-loop-file
invariant-loop-file l = (l.total < 2 ^ 64) × (min (l.total + spec.laid_size (drop l.file-index l.files)) (2 ^ 64 - 1) ≡ laid_bytes l.files)
