use Rattle.wdl_task.specs.Views.{made_of}
use Rattle.wdl_task.proofs.PrivateSteps.{PrivatesLeft}
use Rattle.wdl_task.proofs.privates.with_privates.Given as goal

abbrev pub invariant-loop-decl : goal.invariant-loop-decl
invariant-loop-decl g l = PrivatesLeft l.decls (made_of l.initial.made) l.initial.steps l.decl-index (made_of l.made) l.steps
