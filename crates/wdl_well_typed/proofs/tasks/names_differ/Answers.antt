use Rattle.std.proofs.Common.{◌≡◌, Bool, ◌++◌, IfOk, ap, subst, ◌∙◌}
use Rattle.wdl_typed.specs.Declarations.{decl_names, input_names}
use Rattle.wdl_names.specs.Fresh.{fresh}
use Rattle.wdl_well_typed.proofs.DistinctLemmas.{first_stop, second_stop, third_is}
use Rattle.wdl_well_typed.proofs.tasks.names_differ.Goals as goal

pub returns-then-not-branch : goal.returns-then-not-branch
returns-then-not-branch c =
    first_stop (input_names c.args.task.now.inputs) (decl_names c.args.task.now.privates) (decl_names c.args.task.now.outputs) c.empty-words.result c.in_ok-add_all.field-0
    c.empty-words.ensures
    (c.in_ok-add_all.ensures.fresh ∙ ap (λ xs. fresh c.empty-words.result (input_names xs)) c.as_slice-inputs.ensures)
    c.if-not-branch.true

pub returns-then-not-branch-2 : goal.returns-then-not-branch-2
returns-then-not-branch-2 c =
    second_stop (input_names c.args.task.now.inputs) (decl_names c.args.task.now.privates) (decl_names c.args.task.now.outputs) c.empty-words.result c.add_all.new.names
    c.in_ok-add_all.field-0 c.in_ok-add_all-2.field-0
    c.empty-words.ensures
    (c.in_ok-add_all.ensures.fresh ∙ ap (λ xs. fresh c.empty-words.result (input_names xs)) c.as_slice-inputs.ensures)
    c.if-not-branch.false
    (c.in_ok-add_all.ensures.names c.if-not-branch.false ∙ ap (λ xs. c.empty-words.result ++ input_names xs) c.as_slice-inputs.ensures)
    (c.in_ok-add_all-2.ensures.fresh ∙ ap (λ xs. fresh c.add_all.new.names (decl_names xs)) c.as_slice-privates.ensures)
    c.if-not-branch-2.true

pub returns : goal.returns
returns c =
    subst (λ (z : Bool). IfOk c.add_all-3.result (λ b. b ≡ z))
    (ap (λ xs. fresh c.add_all-2.new.names (decl_names xs)) c.as_slice-outputs.ensures
    ∙ third_is (input_names c.args.task.now.inputs) (decl_names c.args.task.now.privates) (decl_names c.args.task.now.outputs) c.empty-words.result c.add_all.new.names
    c.add_all-2.new.names c.in_ok-add_all.field-0 c.in_ok-add_all-2.field-0
    c.empty-words.ensures
    (c.in_ok-add_all.ensures.fresh ∙ ap (λ xs. fresh c.empty-words.result (input_names xs)) c.as_slice-inputs.ensures)
    c.if-not-branch.false
    (c.in_ok-add_all.ensures.names c.if-not-branch.false ∙ ap (λ xs. c.empty-words.result ++ input_names xs) c.as_slice-inputs.ensures)
    (c.in_ok-add_all-2.ensures.fresh ∙ ap (λ xs. fresh c.add_all.new.names (decl_names xs)) c.as_slice-privates.ensures)
    c.if-not-branch-2.false
    (c.in_ok-add_all-2.ensures.names c.if-not-branch-2.false ∙ ap (λ xs. c.add_all.new.names ++ decl_names xs) c.as_slice-privates.ensures))
    c.add_all-3.ensures.fresh
