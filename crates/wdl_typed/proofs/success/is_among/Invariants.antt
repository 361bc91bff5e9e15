use Rattle.std.proofs.Common.{◌≡◌, drop}
use Rattle.wdl_typed.specs.Requests as spec
use Rattle.wdl_typed.proofs.success.is_among.Given as goal

abbrev pub invariant-loop-n : goal.invariant-loop-n
invariant-loop-n l = spec.is_among l.status (drop l.n-index l.listed) ≡ spec.is_among l.status l.listed
