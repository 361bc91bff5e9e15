use Rattle.std.proofs.Common.{◌≡◌, ◌++◌, drop}
use Rattle.cwl_image.specs.Image.{args_used}
use Rattle.cwl_flow.proofs.uses.add_args.Given as goal

abbrev pub invariant-loop-arg : goal.invariant-loop-arg
invariant-loop-arg l = l.uses ++ args_used (drop l.arg-index l.args) ≡ l.initial.uses ++ args_used l.args
