use Rattle.std.proofs.Common.{◌≡◌, ◌++◌, drop, option_map}
use Rattle.leaf_image.specs.Replaced.{leaves_where}
use Rattle.cwl_records.proofs.replacing.leaves_where.Given as goal

abbrev pub invariant-loop-flow : goal.invariant-loop-flow
invariant-loop-flow l = option_map (λ more. l.all ++ more) (leaves_where l.structs (drop l.flow-index l.flows) l.left) ≡ leaves_where l.structs l.flows l.marks
