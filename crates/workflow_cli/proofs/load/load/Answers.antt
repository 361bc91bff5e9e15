use Rattle.std.proofs.Common.{inl, inr, refl}
use Rattle.workflow_cli.proofs.load.load.Goals as goal

pub returns-in-Ok-clause-value : goal.returns-in-Ok-clause-value
returns-in-Ok-clause-value g c lapses k =
    let h = c.in-Ok.ensures.outcome.2.0 in
    inr (record {
      checked = c.in-Ok.prepared.checked;
      given = c.in-Ok.prepared.given;
      prepared = h;
      ran = c.run_load.ensures.value h.fits.flow (record { main = h.fits.main; fit = h.fits.fit }) lapses k;
    })

pub returns-in-Err-clause-value : goal.returns-in-Err-clause-value
returns-in-Err-clause-value g c lapses k =
    let h = c.in-Err.ensures.outcome in
    let i = c.idle.ensures in
    inl (
      h.0,
      h.1,
      record {
        idle = record { no_answer = i.journal; no_job = i.steps; no_count = i.counts; no_step = refl; no_row = refl };
        stop = c.in-Err.stop;
        is = i.work;
        cause = h.2;
      },
    )
