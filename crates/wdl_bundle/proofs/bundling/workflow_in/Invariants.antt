use Rattle.std.proofs.Common.{◌≡◌, drop}
use Rattle.wdl_bundle.specs.Bundled.{workflow_in}
use Rattle.wdl_bundle.proofs.bundling.workflow_in.Given as goal

abbrev pub invariant-loop-section : goal.invariant-loop-section
invariant-loop-section l = workflow_in (drop l.section-index l.sections) ≡ workflow_in l.sections
