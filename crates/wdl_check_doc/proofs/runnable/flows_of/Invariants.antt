use Rattle.std.proofs.Common.{◌≡◌, ◌++◌, drop, map}
use Rattle.wdl_check_doc.specs.Parts.{part_of}
use Rattle.wdl_check_doc.specs.Runnables.{flow_of, flows_of}
use Rattle.wdl_check_doc.proofs.runnable.flows_of.Given as goal

abbrev pub invariant-loop-part : goal.invariant-loop-part
invariant-loop-part l = map flow_of l.flows.items ++ flows_of (map part_of (drop l.part-index l.parts)) ≡ flows_of (map part_of l.parts)
