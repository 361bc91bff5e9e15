use Rattle.std.proofs.Common.{◌≡◌, drop}
use Rattle.wdl_bundle.specs.Called.{first_workflow}
use Rattle.wdl_bundle.proofs.calls.first_workflow.Given as goal

abbrev pub invariant-loop-call : goal.invariant-loop-call
invariant-loop-call l = first_workflow (drop l.call-index l.calls) ≡ first_workflow l.calls
