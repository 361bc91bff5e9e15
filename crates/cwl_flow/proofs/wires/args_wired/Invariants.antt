use Rattle.std.proofs.Common.{◌≡◌, ◌++◌, drop}
use Rattle.cwl_image.specs.Image.{args_wired}
use Rattle.cwl_flow.proofs.wires.args_wired.Given as goal

abbrev pub invariant-loop-arg : goal.invariant-loop-arg
invariant-loop-arg l = l.wires ++ args_wired (drop l.arg-index l.args) l.scope ≡ args_wired l.args l.scope
