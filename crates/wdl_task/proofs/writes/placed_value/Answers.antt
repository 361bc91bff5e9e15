use Rattle.std.proofs.Common.{subst}
use Rattle.wdl_value.specs.Outcome.{Outcome}
use Rattle.wdl_typed.specs.Requests as spec
use Rattle.wdl_eval.specs.Ready.{IsReady}
use Rattle.wdl_task.specs.Calls.{call_of}
use Rattle.wdl_task.specs.Views.{GivesAs, laying_of}
use Rattle.wdl_task.proofs.PlaceTypes.{is_plain}
use Rattle.wdl_task.proofs.Placing.{laid_is_placed, plain_is_placed}
use Rattle.wdl_task.proofs.Written.{call_none, call_some}
use Rattle.wdl_task.proofs.writes.placed_value.Goals as goal

pub returns-in-Some-clause-value : goal.returns-in-Some-clause-value
returns-in-Some-clause-value g c =
    subst (λ (o : Outcome spec.Laying). GivesAs laying_of o c.laid.result)
    (laid_is_placed c.args.env.now c.args.files c.args.e.now _ (call_some (call_of c.args.e.now) c.in-Some.call c.in-Some.ensures)) c.laid.ensures.value

pub returns-in-None-clause-value : goal.returns-in-None-clause-value
returns-in-None-clause-value g c =
    let none = call_none (call_of c.args.e.now) c.in-None.ensures in
    let ready : IsReady c.args.e.now c.args.env.now = rw none at c.requires.ready in
    subst (λ (o : Outcome spec.Laying). GivesAs laying_of o c.plain.result)
    (plain_is_placed c.args.env.now c.args.files c.args.e.now (is_plain ready.context c.args.env.now c.args.e.now ready.placeholder ready.ty ready.typed).1) c.plain.ensures.value
