use Rattle.std.proofs.Common.{arith, ◌≡◌, ℕ, Err, List, Ok, Result, Some, ap, subst, sym}
use Rattle.wdl_typed.specs.declared.scope.Bound.{Bound}
use Rattle.wdl_typed.specs.Declarations.{inputs_bound}
use Rattle.wdl_check_rules.specs.declared.fault.CheckFault.{CheckFault}
use Rattle.wdl_check_types.specs.Outcome.{Answers, done, then_}
use Rattle.wdl_check_types.proofs.OutcomeLaws.{then_err, then_ok}
use Rattle.wdl_check_decls.specs.declared.standing.Standing.TheVariants.{Private}
use Rattle.wdl_check_decls.specs.Declarations.{decls_typed, inputs_typed}
use Rattle.wdl_check_decls.specs.Expressions.{world}
use Rattle.wdl_check_task.specs.declared.task.Head.{Head}
use Rattle.wdl_check_task.specs.Sections.{inputs_of, privates_of}
use Rattle.wdl_check_task.specs.Tasks.{head, head_typed}
use Rattle.wdl_check_task.proofs.task.check_head.Goals as goal

pub returns-in_err-privates-clause-value : goal.returns-in_err-privates-clause-value
returns-in_err-privates-clause-value c =
    let w = world c.args.seeing.now in
    let t = c.args.section.now in
    let e = c.in_err-privates.field-0.0 in
    let gone : c.from_residual-in_err-privates.result ≡ Err e = grind arith in
    subst (λ (r : Result Head CheckFault). Answers (head_typed w t) r) (sym gone)
    (then_ok (inputs_typed w (inputs_of t.elements))
    (λ is. then_ (decls_typed Private w (inputs_bound is) (privates_of t.elements)) (λ ds. done (head t.name.name is ds)))
    c.in_ok-inputs.inputs (Err e) c.in_ok-inputs.ensures.value
    (then_err (decls_typed Private w (inputs_bound c.in_ok-inputs.inputs) (privates_of t.elements)) (λ ds. done (head t.name.name c.in_ok-inputs.inputs ds)) e
    (subst (λ (ns : List Bound). Answers (decls_typed Private w ns (privates_of t.elements)) (Err e)) c.in_ok-inputs.ensures.names c.in_err-privates.ensures.value)))

pub returns-clause-value : goal.returns-clause-value
returns-clause-value c =
    let w = world c.args.seeing.now in
    let t = c.args.section.now in
    let is = c.in_ok-inputs.inputs in
    let ds = c.in_ok-privates.privates in
    then_ok (inputs_typed w (inputs_of t.elements))
    (λ is. then_ (decls_typed Private w (inputs_bound is) (privates_of t.elements)) (λ ds. done (head t.name.name is ds)))
    is (Ok (head c.in_ok-name.name is ds)) c.in_ok-inputs.ensures.value
    (then_ok (decls_typed Private w (inputs_bound is) (privates_of t.elements)) (λ ds. done (head t.name.name is ds)) ds (Ok (head c.in_ok-name.name is ds))
    (subst (λ (ns : List Bound). Answers (decls_typed Private w ns (privates_of t.elements)) (Ok ds)) c.in_ok-inputs.ensures.names c.in_ok-privates.ensures.value)
    (ap (λ (name : List ℕ). Some (head name is ds)) (sym c.in_ok-name.ensures)))
