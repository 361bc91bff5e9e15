use Rattle.wdl_task.specs.Views.{filled_of}
use Rattle.wdl_task.proofs.PartSteps.{PartsLeft}
use Rattle.wdl_task.proofs.command.with_parts.Given as goal

abbrev pub invariant-loop-part : goal.invariant-loop-part
invariant-loop-part g l = PartsLeft l.env l.parts (filled_of l.initial.filled) l.initial.steps l.part-index (filled_of l.filled) l.steps
