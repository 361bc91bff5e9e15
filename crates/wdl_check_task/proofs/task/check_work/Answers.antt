use Rattle.std.proofs.Common.{arith, ◌≡◌, Err, Result, subst, sym}
use Rattle.wdl_check_rules.specs.declared.fault.CheckFault.{CheckFault}
use Rattle.wdl_check_types.specs.Outcome.{Answers, done, then_}
use Rattle.wdl_check_types.proofs.OutcomeLaws.{then_err, then_ok}
use Rattle.wdl_check_decls.specs.Expressions.{world}
use Rattle.wdl_check_task.specs.declared.task.Work.{Work}
use Rattle.wdl_check_task.specs.Command.{command_typed}
use Rattle.wdl_check_task.specs.Runtime.{runtime_typed}
use Rattle.wdl_check_task.specs.Sections.{attributes_of, parts_of}
use Rattle.wdl_check_task.specs.Tasks.{work, work_typed}
use Rattle.wdl_check_task.proofs.task.check_work.Goals as goal

pub returns-in_err-said : goal.returns-in_err-said
returns-in_err-said c =
    let w = world c.args.seeing.now in
    let names = c.args.names.now in
    let t = c.args.section.now in
    let e = c.in_err-said.field-0.0 in
    let said = runtime_typed w names (attributes_of t.elements) in
    let gone : c.from_residual-in_err-said.result ≡ Err e = grind arith in
    subst (λ (r : Result Work CheckFault). Answers (work_typed w names t) r) (sym gone)
    (then_ok (command_typed w names (parts_of t.elements)) (λ k. then_ said (λ s. done (work k s)))
    c.in_ok-command.command (Err e) c.in_ok-command.ensures
    (then_err said (λ s. done (work c.in_ok-command.command s)) e c.in_err-said.ensures))
