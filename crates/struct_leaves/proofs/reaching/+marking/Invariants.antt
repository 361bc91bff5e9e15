use Rattle.std.proofs.Common.{◌≡◌, drop}
use Rattle.leaf_image.specs.Reached.{mark_body}
use Rattle.struct_leaves.proofs.reaching.+marking.Given as goal

abbrev pub invariant-mark_body-loop-statement : goal.invariant-mark_body-loop-statement
invariant-mark_body-loop-statement l = mark_body (drop l.statement-index l.body) l.marks ≡ mark_body l.body l.initial.marks
