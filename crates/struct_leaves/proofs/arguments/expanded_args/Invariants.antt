use Rattle.std.proofs.Common.{◌≡◌, ◌++◌, drop}
use Rattle.leaf_image.specs.Records.{all_args}
use Rattle.struct_leaves.specs.Settings.{callee_of, own_of}
use Rattle.struct_leaves.proofs.arguments.expanded_args.Given as goal

abbrev pub invariant-loop-arg : goal.invariant-loop-arg
invariant-loop-arg l = l.all ++ all_args (own_of l.own) (callee_of l.callee) (drop l.arg-index l.args) ≡ all_args (own_of l.own) (callee_of l.callee) l.args
