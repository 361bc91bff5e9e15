use Rattle.std.proofs.Common.{◌≡◌, drop}
use Rattle.leaf_image.specs.Records.{is_path}
use Rattle.struct_leaves.proofs.arguments.is_path.Given as goal

abbrev pub invariant-loop-hop : goal.invariant-loop-hop
invariant-loop-hop l = is_path (drop l.hop-index l.hops) ≡ is_path l.hops
