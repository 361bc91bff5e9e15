use Rattle.std.proofs.Common.{refl}
use Rattle.workflow_stages.proofs.Counts.{works}
use Rattle.workflow_cli.proofs.Loaded.{no_load}
use Rattle.workflow_cli.proofs.Works.{bundle_is_work, check_is_work, cwl_is_work, form_is_work, print_is_work, run_is_work, uses_journal}
use Rattle.workflow_cli.proofs.work.work.Goals as goal

pub returns-in-Ok-Run-clause-cause : goal.returns-in-Ok-Run-clause-cause
returns-in-Ok-Run-clause-cause g c away =
    let asked = rw c.in-Ok-Run.field-0-is at c.in-Ok-Run.ensures.value in
    run_is_work _ _ _ _ _ _ _ _ _ _ asked _ c.run.ensures.value

pub returns-in-Ok-Check-clause-cause : goal.returns-in-Ok-Check-clause-cause
returns-in-Ok-Check-clause-cause g c away =
    let asked = rw c.in-Ok-Check.field-0-is at c.in-Ok-Check.ensures.value in
    let i = c.idle.ensures in
    rw i.work (check_is_work _ _ _ _ _ _ _ (record { no_answer = i.journal; no_job = i.steps; no_count = i.counts; no_step = refl; no_row = refl }) _ asked c.accepted.result c.accepted.ensures.value)

pub returns-in-Ok-Cwl-clause-cause : goal.returns-in-Ok-Cwl-clause-cause
returns-in-Ok-Cwl-clause-cause g c away =
    let asked = rw c.in-Ok-Cwl.field-0-is at c.in-Ok-Cwl.ensures.value in
    let i = c.idle-in-Ok-Cwl.ensures in
    rw i.work (cwl_is_work _ _ _ _ _ _ _ (record { no_answer = i.journal; no_job = i.steps; no_count = i.counts; no_step = refl; no_row = refl }) _ _ asked c.cwl.result c.cwl.ensures.value)

pub returns-in-Ok-Inputs-clause-cause : goal.returns-in-Ok-Inputs-clause-cause
returns-in-Ok-Inputs-clause-cause g c away =
    let asked = rw c.in-Ok-Inputs.field-0-is at c.in-Ok-Inputs.ensures.value in
    let i = c.idle-in-Ok-Inputs.ensures in
    rw i.work (form_is_work _ _ _ _ _ _ _ (record { no_answer = i.journal; no_job = i.steps; no_count = i.counts; no_step = refl; no_row = refl }) _ asked c.form.result c.form.ensures.value)

pub returns-in-Ok-Bundle-clause-cause : goal.returns-in-Ok-Bundle-clause-cause
returns-in-Ok-Bundle-clause-cause g c away =
    let asked = rw c.in-Ok-Bundle.field-0-is at c.in-Ok-Bundle.ensures.value in
    let i = c.idle-in-Ok-Bundle.ensures in
    rw i.work (bundle_is_work _ _ _ _ _ _ _ (record { no_answer = i.journal; no_job = i.steps; no_count = i.counts; no_step = refl; no_row = refl }) _ asked c.bundled.result c.bundled.ensures.value)

pub returns-in-Ok-Print-clause-cause : goal.returns-in-Ok-Print-clause-cause
returns-in-Ok-Print-clause-cause g c away =
    let asked = rw c.in-Ok-Print.field-0-is at c.in-Ok-Print.ensures.value in
    let i = c.idle-in-Ok-Print.ensures in
    rw i.work (print_is_work _ _ _ _ _ _ _ (record { no_answer = i.journal; no_job = i.steps; no_count = i.counts; no_step = refl; no_row = refl }) _ asked c.printed.result c.printed.ensures.value)

pub returns-in-Ok-Run-clause-keeper : goal.returns-in-Ok-Run-clause-keeper
returns-in-Ok-Run-clause-keeper g c =
    let asked = rw c.in-Ok-Run.field-0-is at c.in-Ok-Run.ensures.value in
    uses_journal _ _ _ _ _ _ asked c.run.ensures.keeper

pub returns-in-Ok-Check-clause-counted : goal.returns-in-Ok-Check-clause-counted
returns-in-Ok-Check-clause-counted g c = rw c.idle.ensures.work c.accepted.ensures.counted

pub returns-in-Ok-Cwl-clause-counted : goal.returns-in-Ok-Cwl-clause-counted
returns-in-Ok-Cwl-clause-counted g c = rw c.idle-in-Ok-Cwl.ensures.work c.cwl.ensures.counted

pub returns-in-Ok-Inputs-clause-counted : goal.returns-in-Ok-Inputs-clause-counted
returns-in-Ok-Inputs-clause-counted g c = rw c.idle-in-Ok-Inputs.ensures.work c.form.ensures.counted

pub returns-in-Ok-Bundle-clause-counted : goal.returns-in-Ok-Bundle-clause-counted
returns-in-Ok-Bundle-clause-counted g c = rw c.idle-in-Ok-Bundle.ensures.work c.bundled.ensures.counted

pub returns-in-Ok-Print-clause-counted : goal.returns-in-Ok-Print-clause-counted
returns-in-Ok-Print-clause-counted g c = rw c.idle-in-Ok-Print.ensures.work (works c.printed.result _ _ refl)

pub returns-in-Ok-Load-clause-cause : goal.returns-in-Ok-Load-clause-cause
returns-in-Ok-Load-clause-cause g c away = absurd (away (c.in-Ok-Load.number, rw c.in-Ok-Load.field-0-is at c.in-Ok-Load.ensures.value))

pub returns-in-Ok-Load-clause-counted : goal.returns-in-Ok-Load-clause-counted
returns-in-Ok-Load-clause-counted g c = works c.load.result.work _ _ refl

pub returns-in-Ok-Run-clause-load : goal.returns-in-Ok-Run-clause-load
returns-in-Ok-Run-clause-load g c n asks =
    let asked = rw c.in-Ok-Run.field-0-is at c.in-Ok-Run.ensures.value in
    absurd (no_load _ _ asked refl (n, asks))

pub returns-in-Ok-Check-clause-load : goal.returns-in-Ok-Check-clause-load
returns-in-Ok-Check-clause-load g c n asks =
    let asked = rw c.in-Ok-Check.field-0-is at c.in-Ok-Check.ensures.value in
    absurd (no_load _ _ asked refl (n, asks))

pub returns-in-Ok-Cwl-clause-load : goal.returns-in-Ok-Cwl-clause-load
returns-in-Ok-Cwl-clause-load g c n asks =
    let asked = rw c.in-Ok-Cwl.field-0-is at c.in-Ok-Cwl.ensures.value in
    absurd (no_load _ _ asked refl (n, asks))

pub returns-in-Ok-Inputs-clause-load : goal.returns-in-Ok-Inputs-clause-load
returns-in-Ok-Inputs-clause-load g c n asks =
    let asked = rw c.in-Ok-Inputs.field-0-is at c.in-Ok-Inputs.ensures.value in
    absurd (no_load _ _ asked refl (n, asks))

pub returns-in-Ok-Bundle-clause-load : goal.returns-in-Ok-Bundle-clause-load
returns-in-Ok-Bundle-clause-load g c n asks =
    let asked = rw c.in-Ok-Bundle.field-0-is at c.in-Ok-Bundle.ensures.value in
    absurd (no_load _ _ asked refl (n, asks))

pub returns-in-Ok-Print-clause-load : goal.returns-in-Ok-Print-clause-load
returns-in-Ok-Print-clause-load g c n asks =
    let asked = rw c.in-Ok-Print.field-0-is at c.in-Ok-Print.ensures.value in
    absurd (no_load _ _ asked refl (n, asks))
