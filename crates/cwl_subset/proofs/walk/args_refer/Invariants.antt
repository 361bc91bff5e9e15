use Rattle.std.proofs.Common.{◌≡◌, drop}
use Rattle.cwl_image.specs.Subset.{args_refer}
use Rattle.cwl_subset.proofs.walk.args_refer.Given as goal

abbrev pub invariant-loop-arg : goal.invariant-loop-arg
invariant-loop-arg l =
    args_refer l.context.structs.now l.context.declared.now l.names (drop l.arg-index l.args)
    ≡ args_refer l.context.structs.now l.context.declared.now l.names l.args
