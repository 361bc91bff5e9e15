use Rattle.std.proofs.Common.{◌≡◌, drop}
use Rattle.cwl_image.specs.Subset.{each_broken, input_broken}
use Rattle.cwl_rules.specs.Lowest.{lower, lowest}
use Rattle.cwl_rules.proofs.declaration.inputs_broken.Given as goal

abbrev pub invariant-loop-input : goal.invariant-loop-input
invariant-loop-input l =
    lower l.found (lowest (each_broken (input_broken l.structs l.names) (drop l.input-index l.inputs)))
    ≡ lowest (each_broken (input_broken l.structs l.names) l.inputs)
