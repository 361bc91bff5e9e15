use Rattle.std.proofs.Common.{◌≡◌, ◌++◌, drop}
use Rattle.cwl_image.specs.Subset.{declared_by}
use Rattle.cwl_subset.proofs.flow.+declared.Given as goal

abbrev pub invariant-enter_declared-loop-statement : goal.invariant-enter_declared-loop-statement
invariant-enter_declared-loop-statement l =
    l.names ++ declared_by (drop l.statement-index l.body) ≡ l.initial.names ++ declared_by l.body
