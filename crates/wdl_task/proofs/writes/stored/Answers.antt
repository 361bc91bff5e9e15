use Rattle.std.proofs.Common.{subst}
use Rattle.wdl_value.specs.Outcome.{Outcome}
use Rattle.wdl_typed.specs.Requests as spec
use Rattle.wdl_task.specs.Views.{GivesAs, laying_of}
use Rattle.wdl_task.proofs.Written.{stored_is}
use Rattle.wdl_task.proofs.writes.stored.Goals as goal

pub returns-clause-value : goal.returns-clause-value
returns-clause-value c =
    subst (λ (o : Outcome spec.Laying). GivesAs laying_of o c.with_name.result)
    (stored_is c.args.e.now c.args.f c.args.value.now c.args.files c.in_ok-files.files c.in_ok-name.name c.len.result c.in_ok-files.ensures.value c.in_ok-name.ensures.value c.len.ensures) c.with_name.ensures
