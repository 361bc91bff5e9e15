use Rattle.std.proofs.Common.{inl, ◌∙◌, refl}
use Rattle.report_text.specs.declared.status.Status.TheVariants as status
use Rattle.workflow_cli.proofs.Loaded.{runs_load}
use Rattle.workflow_cli.proofs.Starting.{stop_is}
use Rattle.workflow_cli.proofs.load.run_load.Goals as goal

pub returns-in_default-clause-value : goal.returns-in_default-clause-value
returns-in_default-clause-value g c f fit lapses k =
    let i = c.idle.ensures in
    inl (
      record { no_answer = i.journal; no_job = i.steps; no_count = i.counts; no_step = refl; no_row = refl },
      i.work ∙ stop_is c.stop_of.result status.NoMemory c.stop_of.ensures.status c.stop_of.ensures.paths c.stop_of.ensures.note,
    )

pub returns-clause-value : goal.returns-clause-value
returns-clause-value g c f fit lapses k =
    let e = c.in-Ok.ensures in
    runs_load c.args.number _ _ _ _ _ _ f _ e.rows e.refused e.options (c.run_plain.ensures.value f fit lapses k)
