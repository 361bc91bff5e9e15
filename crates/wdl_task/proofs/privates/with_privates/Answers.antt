use Rattle.std.proofs.Common.{rules}
use Rattle.wdl_task.specs.Views.{made_of}
use Rattle.wdl_task.proofs.PrivateSteps.{private_fails, private_next}
use Rattle.wdl_task.proofs.privates.with_privates.Goals as goal

pub loop-decl-preserved : goal.loop-decl-preserved
loop-decl-preserved g c =
    private_next c.args.decls.now (made_of c.args.made) c.args.steps.now c.loop-decl.decl-index (made_of c.loop-decl.made) c.loop-decl.steps c.decl-item.result c.decl-item.is c.loop-decl-test.true c.loop-decl.invariant
    (made_of c.in_ok-made.made) c.with_private.new.steps c.in_ok-made.ensures.value c.in_ok-made.ensures.laid c.with_private.ensures.steps

pub returns-in_err-made-clause-value : goal.returns-in_err-made-clause-value
returns-in_err-made-clause-value g c =
    let fails = private_fails c.args.decls.now (made_of c.args.made) c.args.steps.now c.loop-decl.decl-index (made_of c.loop-decl.made) c.loop-decl.steps c.decl-item.result c.decl-item.is c.loop-decl-test.true c.loop-decl.invariant c.in_err-made.field-0.0 c.in_err-made.ensures.value in
    search (rules, fails)
