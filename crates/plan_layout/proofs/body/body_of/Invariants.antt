use Rattle.std.proofs.Common.{◌≡◌, drop}
use Rattle.plan_layout.specs.Paths.{body_at}
use Rattle.plan_layout.proofs.body.body_of.Given as goal

abbrev pub invariant-loop-number : goal.invariant-loop-number
invariant-loop-number l = body_at l.body (drop l.number-index l.path) ≡ body_at l.initial.body l.path
