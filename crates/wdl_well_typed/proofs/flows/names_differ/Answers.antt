use Rattle.std.proofs.Common.{◌≡◌, Bool, ◌&&◌, ◌++◌, IfOk, ap, subst, sym, ◌∙◌}
use Rattle.wdl_typed.specs.Bodies.{all_declared, items_differ}
use Rattle.wdl_typed.specs.Declarations.{decl_names, input_names}
use Rattle.wdl_typed.specs.Kept.{flow_names}
use Rattle.wdl_names.specs.Fresh.{fresh}
use Rattle.wdl_well_typed.proofs.DistinctLemmas.{all_added, first_stop, second_stop, third_is}
use Rattle.wdl_well_typed.proofs.flows.names_differ.Goals as goal

pub returns-then-not-branch : goal.returns-then-not-branch
returns-then-not-branch c =
    ap (λ t. t && items_differ c.args.flow.now.body (flow_names c.args.flow.now)) (first_stop (input_names c.args.flow.now.inputs) (all_declared c.args.flow.now.body) (decl_names c.args.flow.now.outputs) c.empty-words.result c.in_ok-add_all.field-0 c.empty-words.ensures
    (c.in_ok-add_all.ensures.fresh ∙ ap (λ xs. fresh c.empty-words.result (input_names xs)) c.as_slice-inputs.ensures)
    c.if-not-branch.true)

pub returns-then-not-branch-2 : goal.returns-then-not-branch-2
returns-then-not-branch-2 c =
    ap (λ t. t && items_differ c.args.flow.now.body (flow_names c.args.flow.now)) (second_stop (input_names c.args.flow.now.inputs) (all_declared c.args.flow.now.body) (decl_names c.args.flow.now.outputs) c.empty-words.result c.add_all.new.names c.in_ok-add_all.field-0 c.in_ok-add_declared.field-0 c.empty-words.ensures
    (c.in_ok-add_all.ensures.fresh ∙ ap (λ xs. fresh c.empty-words.result (input_names xs)) c.as_slice-inputs.ensures)
    c.if-not-branch.false
    (c.in_ok-add_all.ensures.names c.if-not-branch.false ∙ ap (λ xs. c.empty-words.result ++ input_names xs) c.as_slice-inputs.ensures)
    (c.in_ok-add_declared.ensures.fresh ∙ ap (λ xs. fresh c.add_all.new.names (all_declared xs)) c.as_slice-body.ensures)
    c.if-not-branch-2.true)

pub returns-then-not-branch-3 : goal.returns-then-not-branch-3
returns-then-not-branch-3 c =
    ap (λ t. t && items_differ c.args.flow.now.body (flow_names c.args.flow.now)) (sym c.if-not-branch-3.true ∙ (c.in_ok-add_all-2.ensures.fresh ∙ ap (λ xs. fresh c.add_declared.new.words (decl_names xs)) c.as_slice-outputs.ensures)
    ∙ third_is (input_names c.args.flow.now.inputs) (all_declared c.args.flow.now.body) (decl_names c.args.flow.now.outputs) c.empty-words.result c.add_all.new.names
    c.add_declared.new.words c.in_ok-add_all.field-0 c.in_ok-add_declared.field-0 c.empty-words.ensures
    (c.in_ok-add_all.ensures.fresh ∙ ap (λ xs. fresh c.empty-words.result (input_names xs)) c.as_slice-inputs.ensures)
    c.if-not-branch.false
    (c.in_ok-add_all.ensures.names c.if-not-branch.false ∙ ap (λ xs. c.empty-words.result ++ input_names xs) c.as_slice-inputs.ensures)
    (c.in_ok-add_declared.ensures.fresh ∙ ap (λ xs. fresh c.add_all.new.names (all_declared xs)) c.as_slice-body.ensures)
    c.if-not-branch-2.false
    (c.in_ok-add_declared.ensures.words c.if-not-branch-2.false ∙ ap (λ xs. c.add_all.new.names ++ all_declared xs) c.as_slice-body.ensures))

pub returns : goal.returns
returns c =
    subst (λ (z : Bool). IfOk c.items_differ.result (λ b. b ≡ z))
    (ap (λ xs. items_differ xs c.add_all-2.new.names) c.as_slice-body.ensures
    ∙ ap (items_differ c.args.flow.now.body) (all_added (input_names c.args.flow.now.inputs) (all_declared c.args.flow.now.body) (decl_names c.args.flow.now.outputs) c.empty-words.result c.add_all.new.names c.add_declared.new.words c.add_all-2.new.names c.empty-words.ensures
    (c.in_ok-add_all.ensures.names c.if-not-branch.false ∙ ap (λ xs. c.empty-words.result ++ input_names xs) c.as_slice-inputs.ensures)
    (c.in_ok-add_declared.ensures.words c.if-not-branch-2.false ∙ ap (λ xs. c.add_all.new.names ++ all_declared xs) c.as_slice-body.ensures)
    (c.in_ok-add_all-2.ensures.names c.if-not-branch-3.false ∙ ap (λ xs. c.add_declared.new.words ++ decl_names xs) c.as_slice-outputs.ensures))
    ∙ ap (λ t. t && items_differ c.args.flow.now.body (flow_names c.args.flow.now)) (sym c.if-not-branch-3.false ∙ (c.in_ok-add_all-2.ensures.fresh ∙ ap (λ xs. fresh c.add_declared.new.words (decl_names xs)) c.as_slice-outputs.ensures)
    ∙ third_is (input_names c.args.flow.now.inputs) (all_declared c.args.flow.now.body) (decl_names c.args.flow.now.outputs) c.empty-words.result c.add_all.new.names
    c.add_declared.new.words c.in_ok-add_all.field-0 c.in_ok-add_declared.field-0 c.empty-words.ensures
    (c.in_ok-add_all.ensures.fresh ∙ ap (λ xs. fresh c.empty-words.result (input_names xs)) c.as_slice-inputs.ensures)
    c.if-not-branch.false
    (c.in_ok-add_all.ensures.names c.if-not-branch.false ∙ ap (λ xs. c.empty-words.result ++ input_names xs) c.as_slice-inputs.ensures)
    (c.in_ok-add_declared.ensures.fresh ∙ ap (λ xs. fresh c.add_all.new.names (all_declared xs)) c.as_slice-body.ensures)
    c.if-not-branch-2.false
    (c.in_ok-add_declared.ensures.words c.if-not-branch-2.false ∙ ap (λ xs. c.add_all.new.names ++ all_declared xs) c.as_slice-body.ensures)))
    c.items_differ.ensures.differ
