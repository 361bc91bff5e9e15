use Rattle.std.proofs.Common.{◌≡◌, ◌++◌, drop, map}
use Rattle.wdl_check_doc.specs.Offers.{result_of}
use Rattle.wdl_check_doc.proofs.offer.results_of.Given as goal

abbrev pub invariant-loop-output : goal.invariant-loop-output
invariant-loop-output l = l.results ++ map result_of (drop l.output-index l.outputs) ≡ map result_of l.outputs
