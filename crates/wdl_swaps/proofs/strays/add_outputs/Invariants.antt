use Rattle.std.proofs.Common.{◌≡◌, ◌++◌, drop}
use Rattle.wdl_swaps.specs.Strays.{outputs_strays}
use Rattle.wdl_swaps.proofs.strays.add_outputs.Given as goal

abbrev pub invariant-loop-output : goal.invariant-loop-output
invariant-loop-output l = l.strays ++ outputs_strays l.path (drop l.output-index l.outputs) ≡ l.initial.strays ++ outputs_strays l.path l.outputs
