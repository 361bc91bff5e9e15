use Rattle.std.proofs.Common.{◌≡◌, ◌++◌, drop, map}
use Rattle.wdl_check_doc.specs.Parts.{part_of}
use Rattle.wdl_check_doc.specs.Runnables.{flow_of, flow_part, flows_at, workflows_in}
use Rattle.wdl_check_doc.proofs.runnable.push_flows.Given as goal

abbrev pub invariant-loop-section : goal.invariant-loop-section
invariant-loop-section l = map flow_of l.flows.items ++ map (flow_part (part_of l.part)) (workflows_in (drop l.section-index l.part.doc.now.document.sections)) ≡ map flow_of l.initial.flows.items ++ flows_at (part_of l.part)
