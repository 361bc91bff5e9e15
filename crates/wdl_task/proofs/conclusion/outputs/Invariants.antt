use Rattle.wdl_task.proofs.OutputSteps.{OutputsLeft}
use Rattle.wdl_task.proofs.conclusion.outputs.Given as goal

abbrev pub invariant-loop-decl : goal.invariant-loop-decl
invariant-loop-decl g l =
    OutputsLeft l.shore.structs.now l.shore.dir.now l.shore.answer.now l.decls l.initial.env l.initial.steps l.decl-index l.env l.told l.steps
