use Rattle.std.proofs.Common.{refl}
use Rattle.report_text.specs.declared.status.Status.TheVariants as status
use Rattle.workflow_cli.specs.declared.asking.Command.TheVariants as command
use Rattle.workflow_cli.proofs.Outcomes as told
use Rattle.workflow_cli.proofs.Outcomes.{outcome}
use Rattle.workflow_cli.proofs.Completes as complete
use Rattle.workflow_cli.proofs.Commands.{readable}
use Rattle.workflow_cli.proofs.Loaded.{load_written, main_no_load, named_no_load, no_load}
use Rattle.workflow_cli.proofs.Works.{for_main}
use Rattle.workflow_cli.proofs.Opened.{started_on}
use Rattle.workflow_cli.proofs.Counts.{finishes}
use Rattle.workflow_cli.proofs.top.workflow.Goals as goal

pub returns-clause-ok : goal.returns-clause-ok
returns-clause-ok g c away = told.ok _ _ _ _ _ _ _ _ _ _ _ _ _ _ (outcome _ _ _ _ _ _ _ _ _ _ _ _ _ c.work-work.result.work _ (c.work-work.ensures.cause away).cause c.finish-status.ensures.value)

pub returns-clause-write : goal.returns-clause-write
returns-clause-write g c away = told.write _ _ _ _ _ _ _ _ _ _ _ _ _ _ (outcome _ _ _ _ _ _ _ _ _ _ _ _ _ c.work-work.result.work _ (c.work-work.ensures.cause away).cause c.finish-status.ensures.value)

pub returns-clause-failed : goal.returns-clause-failed
returns-clause-failed g c away f e = (told.line_told _ _ _ _ _ _ _ _ _ _ _ _ _ _ (outcome _ _ _ _ _ _ _ _ _ _ _ _ _ c.work-work.result.work _ (c.work-work.ensures.cause away).cause c.finish-status.ensures.value) (status.Failed f) refl e).cause

pub returns-clause-usage : goal.returns-clause-usage
returns-clause-usage g c away e = (told.line_told _ _ _ _ _ _ _ _ _ _ _ _ _ _ (outcome _ _ _ _ _ _ _ _ _ _ _ _ _ c.work-work.result.work _ (c.work-work.ensures.cause away).cause c.finish-status.ensures.value) status.Usage refl e).cause

pub returns-clause-document : goal.returns-clause-document
returns-clause-document g c away = told.document _ _ _ _ _ _ _ _ _ _ _ _ _ _ (outcome _ _ _ _ _ _ _ _ _ _ _ _ _ c.work-work.result.work _ (c.work-work.ensures.cause away).cause c.finish-status.ensures.value)

pub returns-clause-inputs : goal.returns-clause-inputs
returns-clause-inputs g c away code name e = (told.line_told _ _ _ _ _ _ _ _ _ _ _ _ _ _ (outcome _ _ _ _ _ _ _ _ _ _ _ _ _ c.work-work.result.work _ (c.work-work.ensures.cause away).cause c.finish-status.ensures.value) (status.Inputs code name) refl e).cause

pub returns-clause-read : goal.returns-clause-read
returns-clause-read g c away p e = (told.line_told _ _ _ _ _ _ _ _ _ _ _ _ _ _ (outcome _ _ _ _ _ _ _ _ _ _ _ _ _ c.work-work.result.work _ (c.work-work.ensures.cause away).cause c.finish-status.ensures.value) (status.Read p) refl e).cause

pub returns-clause-launch : goal.returns-clause-launch
returns-clause-launch g c away p e = (told.line_told _ _ _ _ _ _ _ _ _ _ _ _ _ _ (outcome _ _ _ _ _ _ _ _ _ _ _ _ _ c.work-work.result.work _ (c.work-work.ensures.cause away).cause c.finish-status.ensures.value) (status.Launch p) refl e).cause

pub returns-clause-too_many : goal.returns-clause-too_many
returns-clause-too_many g c away e = (told.line_told _ _ _ _ _ _ _ _ _ _ _ _ _ _ (outcome _ _ _ _ _ _ _ _ _ _ _ _ _ c.work-work.result.work _ (c.work-work.ensures.cause away).cause c.finish-status.ensures.value) status.TooMany refl e).cause

pub returns-clause-keep : goal.returns-clause-keep
returns-clause-keep g c away e = (told.line_told _ _ _ _ _ _ _ _ _ _ _ _ _ _ (outcome _ _ _ _ _ _ _ _ _ _ _ _ _ c.work-work.result.work _ (c.work-work.ensures.cause away).cause c.finish-status.ensures.value) status.Keep refl e).cause

pub returns-clause-started : goal.returns-clause-started
returns-clause-started g c path j =
    let away = no_load c.args.words.now (command.Run j.file j.inputs j.options) j.asked refl in
    started_on _ _ _ _ _ _ _ _ _ _ _ _ _ _ (outcome _ _ _ _ _ _ _ _ _ _ _ _ _ c.work-work.result.work _ (c.work-work.ensures.cause away).cause c.finish-status.ensures.value) (c.work-work.ensures.cause away).run path j

pub returns-clause-lines : goal.returns-clause-lines
returns-clause-lines g c = told.lines _ _ _ _ _ _ c.work-work.result.work _ c.finish-status.ensures.value

pub returns-clause-usage_complete : goal.returns-clause-usage_complete
returns-clause-usage_complete g c e = complete.usage_complete _ _ _ _ _ _ _ _ _ _ _ _ _ _ (outcome _ _ _ _ _ _ _ _ _ _ _ _ _ c.work-work.result.work _ (c.work-work.ensures.cause (λ l. readable c.args.words.now (command.Load l.0) l.1 e)).cause c.finish-status.ensures.value) e

pub returns-clause-check_complete : goal.returns-clause-check_complete
returns-clause-check_complete g c file form asks = complete.check_complete _ _ _ _ _ _ _ _ _ _ _ _ _ _ (outcome _ _ _ _ _ _ _ _ _ _ _ _ _ c.work-work.result.work _ (c.work-work.ensures.cause (no_load c.args.words.now (command.Check file) asks refl)).cause c.finish-status.ensures.value) file form asks

pub returns-clause-run_complete : goal.returns-clause-run_complete
returns-clause-run_complete g c file inputs m asks = complete.run_complete _ _ _ _ _ _ _ _ _ _ _ _ _ _ (outcome _ _ _ _ _ _ _ _ _ _ _ _ _ c.work-work.result.work _ (c.work-work.ensures.cause (no_load c.args.words.now (command.Run file inputs m.options) asks refl)).cause c.finish-status.ensures.value) file inputs m asks

pub returns-clause-document_complete : goal.returns-clause-document_complete
returns-clause-document_complete g c file named = complete.document_complete _ _ _ _ _ _ _ _ _ _ _ _ _ _ (outcome _ _ _ _ _ _ _ _ _ _ _ _ _ c.work-work.result.work _ (c.work-work.ensures.cause (named_no_load c.args.words.now file named)).cause c.finish-status.ensures.value) file named

pub returns-clause-main_complete : goal.returns-clause-main_complete
returns-clause-main_complete g c file inputs form asks = complete.main_complete _ _ _ _ _ _ _ _ _ _ _ _ _ _ (outcome _ _ _ _ _ _ _ _ _ _ _ _ _ c.work-work.result.work _ (c.work-work.ensures.cause (main_no_load c.args.words.now file inputs asks)).cause c.finish-status.ensures.value) file inputs form asks

pub returns-clause-inputs_complete : goal.returns-clause-inputs_complete
returns-clause-inputs_complete g c file inputs form f code name asks = complete.inputs_complete _ _ _ _ _ _ _ _ _ _ _ _ _ _ (outcome _ _ _ _ _ _ _ _ _ _ _ _ _ c.work-work.result.work _ (c.work-work.ensures.cause (main_no_load c.args.words.now file inputs (for_main c.args.words.now file inputs asks))).cause c.finish-status.ensures.value) file inputs form f code name asks

pub returns-clause-not_in_subset : goal.returns-clause-not_in_subset
returns-clause-not_in_subset g c away = told.excluded _ _ _ _ _ _ _ _ _ _ _ _ _ _ (outcome _ _ _ _ _ _ _ _ _ _ _ _ _ c.work-work.result.work _ (c.work-work.ensures.cause away).cause c.finish-status.ensures.value)

pub returns-clause-cwl_complete : goal.returns-clause-cwl_complete
returns-clause-cwl_complete g c file inputs form number f asks = complete.cwl_complete _ _ _ _ _ _ _ _ _ _ _ _ _ _ (outcome _ _ _ _ _ _ _ _ _ _ _ _ _ c.work-work.result.work _ (c.work-work.ensures.cause (no_load c.args.words.now (command.Cwl file inputs) asks refl)).cause c.finish-status.ensures.value) file inputs form number f asks

pub returns-clause-counted : goal.returns-clause-counted
returns-clause-counted g c = finishes _ _ _ _ _ _ _ _ c.work-work.result.work _ c.work-work.ensures.counted c.finish-status.ensures.value

pub returns-clause-form_complete : goal.returns-clause-form_complete
returns-clause-form_complete g c file form f asks = complete.form_complete _ _ _ _ _ _ _ _ _ _ _ _ _ _ (outcome _ _ _ _ _ _ _ _ _ _ _ _ _ c.work-work.result.work _ (c.work-work.ensures.cause (no_load c.args.words.now (command.Inputs file) asks refl)).cause c.finish-status.ensures.value) file form f asks

pub returns-clause-bundle_complete : goal.returns-clause-bundle_complete
returns-clause-bundle_complete g c file form f asks = complete.bundle_complete _ _ _ _ _ _ _ _ _ _ _ _ _ _ (outcome _ _ _ _ _ _ _ _ _ _ _ _ _ c.work-work.result.work _ (c.work-work.ensures.cause (no_load c.args.words.now (command.Bundle file) asks refl)).cause c.finish-status.ensures.value) file form f asks

pub returns-clause-print_complete : goal.returns-clause-print_complete
returns-clause-print_complete g c page asks = complete.print_complete _ _ _ _ _ _ _ _ _ _ _ _ _ _ (outcome _ _ _ _ _ _ _ _ _ _ _ _ _ c.work-work.result.work _ (c.work-work.ensures.cause (no_load c.args.words.now (command.Print page) asks refl)).cause c.finish-status.ensures.value) page asks

pub returns-clause-load_ok : goal.returns-clause-load_ok
returns-clause-load_ok g c n asked e = load_written n _ _ _ _ _ _ _ _ e c.work-work.result.work (c.work-work.ensures.load n asked) c.finish-status.ensures.value

pub returns-clause-load : goal.returns-clause-load
returns-clause-load g c n asked = record { work = c.work-work.result.work; came = c.work-work.ensures.load n asked; finished = c.finish-status.ensures.value }

pub returns-clause-run : goal.returns-clause-run
returns-clause-run g c away = (c.work-work.ensures.cause away).run
