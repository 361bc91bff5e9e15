use Rattle.std.proofs.Common.{◌≡◌, drop}
use Rattle.wdl_typed.specs.Bodies.{body_nests}
use Rattle.wdl_depths.proofs.nesting.+nests.Given as goal

abbrev pub invariant-body_nests-loop-statement : goal.invariant-body_nests-loop-statement
invariant-body_nests-loop-statement l = body_nests l.levels.0 l.level (drop l.statement-index l.body) ≡ body_nests l.levels.0 l.level l.body
