use Rattle.std.proofs.Common.{◌≡◌, drop}
use Rattle.cwl_image.specs.Subset.{args_allowed}
use Rattle.cwl_subset.proofs.walk.args_allowed.Given as goal

abbrev pub invariant-loop-arg : goal.invariant-loop-arg
invariant-loop-arg l =
    args_allowed l.context.structs.now l.names (drop l.arg-index l.args) ≡ args_allowed l.context.structs.now l.names l.args
