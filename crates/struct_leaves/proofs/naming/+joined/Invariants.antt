use Rattle.std.proofs.Common.{length}
use Rattle.struct_leaves.proofs.naming.+joined.Given as goal

abbrev pub decreases-joined : goal.decreases-joined
decreases-joined l = length l.path.now
