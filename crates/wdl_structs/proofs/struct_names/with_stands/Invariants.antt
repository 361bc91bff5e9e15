use Rattle.std.proofs.Common.{◌≡◌, ◌++◌, length}
use Rattle.wdl_structs.specs.Nodes.{with_stands}
use Rattle.wdl_structs.proofs.struct_names.with_stands.Given as goal

abbrev pub invariant-docs : goal.invariant-docs
invariant-docs l = (l.all ++ with_stands l.left l.names ≡ with_stands l.fn.docs l.fn.names) × (length l.names ≡ length l.left)

abbrev pub decreases-docs : goal.decreases-docs
decreases-docs l = length l.left
