use Rattle.std.proofs.Common.{◌≡◌, ◌++◌, length, map}
use Rattle.wdl_check_doc.specs.Flows.{flow_defs}
use Rattle.wdl_check_doc.specs.Runnables.{headed_of}
use Rattle.wdl_check_doc.proofs.run.flow_defs.Given as goal

abbrev pub decreases-loop-headed : goal.decreases-loop-headed
decreases-loop-headed l = length l.heads.items

abbrev pub invariant-loop-headed : goal.invariant-loop-headed
invariant-loop-headed l = l.flows ++ flow_defs (map headed_of l.heads.items) l.rests.items ≡ flow_defs (map headed_of l.initial.heads.items) l.initial.rests.items
