use Rattle.struct_leaves.proofs.naming.+free.Given as goal

abbrev pub decreases-free : goal.decreases-free
decreases-free l = l.tries
