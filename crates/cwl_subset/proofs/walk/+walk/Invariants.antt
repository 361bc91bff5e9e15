use Rattle.std.proofs.Common.{◌≡◌, ◌++◌, drop}
use Rattle.cwl_image.specs.Subset.{walk_body}
use Rattle.cwl_subset.specs.Walks.{joined, library_of, summed}
use Rattle.cwl_subset.proofs.walk.+walk.Given as goal

abbrev pub invariant-body_walk-loop-statement : goal.invariant-body_walk-loop-statement
invariant-body_walk-loop-statement l =
    (l.names ≡ l.initial.names ++ l.walked.given)
    × (joined l.walked (summed (walk_body (library_of l.context) l.context.declared.now (drop l.statement-index l.body) l.names))
    ≡ summed (walk_body (library_of l.context) l.context.declared.now l.body l.initial.names))
