use Rattle.std.proofs.Common.{inr}
use Rattle.workflow_stages.proofs.Counts.{works}
use Rattle.workflow_cli.proofs.run.run.Goals as goal

pub returns-in-Ok-clause-value : goal.returns-in-Ok-clause-value
returns-in-Ok-clause-value g c =
    let h = c.in-Ok.ensures.outcome.0 in
    inr (record {
      checked = c.in-Ok.prepared.checked;
      given = c.in-Ok.prepared.given;
      prepared = h;
      ran = c.run_main.ensures.value h.fits.flow (record { main = h.fits.main; fit = h.fits.fit });
    })

pub returns-in-Ok-clause-counted : goal.returns-in-Ok-clause-counted
returns-in-Ok-clause-counted g c = works _ _ _ c.in-Ok.ensures.counted
