use Rattle.std.proofs.Common.{◌≡◌, ℕ, ◌+◌, get_or, List, Some, Err, map, refl, sym, ap, ◌∙◌, subst, arith}
use Rattle.wdl_ast.specs.declared.workflow.Statement.{Statement as Written}
use Rattle.wdl_typed.specs.Bodies.{with_item}
use Rattle.wdl_check_types.specs.Outcome.{Answers, Outcome}
use Rattle.wdl_check_types.specs.Places.{statement_span}
use Rattle.wdl_check_order.specs.Needs.{statement_needing}
use Rattle.wdl_check_order.specs.Ordered.{ordered}
use Rattle.wdl_check_flow.specs.Bodies.{conditional_typed, scatter_typed, statement_typed, statements_typed}
use Rattle.wdl_check_flow.specs.Given.{seen_of}
use Rattle.wdl_check_flow.specs.Numbers.{numbers_of}
use Rattle.wdl_check_flow.specs.Stating.{States, StatesBody}
use Rattle.wdl_check_flow.specs.Targets.{place_of}
use Rattle.wdl_check_flow.proofs.BodyLaws.{body_out, body_stated, body_unordered, in_order, order_is, runs_end, runs_on, runs_out, runs_past_number, runs_past_statement, runs_start}
use Rattle.wdl_check_flow.proofs.ListLaws.{not_there, position_read, there}
use Rattle.wdl_check_flow.proofs.Depths.{inside, inside_all, inside_conditional, inside_one, inside_scatter}
use Rattle.wdl_check_flow.proofs.Forms.{typed_call, typed_conditional, typed_declaration, typed_scatter}
use Rattle.wdl_check_flow.proofs.StateLaws.{condition_out, condition_refused, condition_states, scatter_out, scatter_refused, scatter_states, states_as}
use Rattle.wdl_check_flow.proofs.body.+bodies.Goals as goal

pub check_statement-returns-in-Declaration : goal.check_statement-returns-in-Declaration
check_statement-returns-in-Declaration t c =
    states_as _ _ _ _ _ (ap (λ (s : Written). statement_typed (place_of c.args.context.now) s c.args.number (seen_of c.args.visible.now)) c.in-Declaration.is
    ∙ typed_declaration (place_of c.args.context.now) c.in-Declaration.declaration c.args.number (seen_of c.args.visible.now)) c.check_decl.ensures

pub check_statement-returns-in-Call : goal.check_statement-returns-in-Call
check_statement-returns-in-Call t c =
    states_as _ _ _ _ _ (ap (λ (s : Written). statement_typed (place_of c.args.context.now) s c.args.number (seen_of c.args.visible.now)) c.in-Call.is
    ∙ typed_call (place_of c.args.context.now) c.in-Call.call c.args.number (seen_of c.args.visible.now)) c.check_call.ensures

pub check_statement-returns-in-Scatter : goal.check_statement-returns-in-Scatter
check_statement-returns-in-Scatter t c =
    states_as _ _ _ _ _ (ap (λ (s : Written). statement_typed (place_of c.args.context.now) s c.args.number (seen_of c.args.visible.now)) c.in-Scatter.is
    ∙ typed_scatter (place_of c.args.context.now) c.in-Scatter.block c.args.number (seen_of c.args.visible.now)
    ∙ ap (λ span. scatter_typed (place_of c.args.context.now) c.in-Scatter.block.item c.in-Scatter.block.over span (statements_typed (place_of c.args.context.now) c.in-Scatter.block.body) c.args.number (seen_of c.args.visible.now)) (sym c.from_to-span.ensures)
    ∙ ap (λ (ss : List Written). scatter_typed (place_of c.args.context.now) c.in-Scatter.block.item c.in-Scatter.block.over c.from_to-span.result (statements_typed (place_of c.args.context.now) ss) c.args.number (seen_of c.args.visible.now)) (sym c.as_slice-body.ensures)) c.check_scatter.ensures

pub check_statement-returns-in-Conditional : goal.check_statement-returns-in-Conditional
check_statement-returns-in-Conditional t c =
    states_as _ _ _ _ _ (ap (λ (s : Written). statement_typed (place_of c.args.context.now) s c.args.number (seen_of c.args.visible.now)) c.in-Conditional.is
    ∙ typed_conditional (place_of c.args.context.now) c.in-Conditional.block c.args.number (seen_of c.args.visible.now)
    ∙ ap (λ span. conditional_typed (place_of c.args.context.now) c.in-Conditional.block.condition span (statements_typed (place_of c.args.context.now) c.in-Conditional.block.body) c.args.number (seen_of c.args.visible.now)) (sym c.from_to-span-in-Conditional.ensures)
    ∙ ap (λ (ss : List Written). conditional_typed (place_of c.args.context.now) c.in-Conditional.block.condition c.from_to-span-in-Conditional.result (statements_typed (place_of c.args.context.now) ss) c.args.number (seen_of c.args.visible.now)) (sym c.as_slice-body-in-Conditional.ensures)) c.check_conditional.ensures

pub check_scatter-returns-in_err-collection : goal.check_scatter-returns-in_err-collection
check_scatter-returns-in_err-collection t c =
    let gone : c.from_residual.result ≡ Err c.in_err-collection.field-0.0 = grind arith in
    subst (λ r. States (scatter_typed (place_of c.args.context.now) c.args.item.now c.args.over.now c.args.span (statements_typed (place_of c.args.context.now) c.args.body.now) c.args.number (seen_of c.args.visible.now)) (seen_of c.args.visible.now) (seen_of c.args.visible.now) r) (sym gone)
    (scatter_refused (place_of c.args.context.now) c.args.item.now c.args.over.now c.args.span c.args.body.now c.args.number (seen_of c.args.visible.now) (seen_of c.args.visible.now) c.in_err-collection.field-0.0 c.in_err-collection.ensures)

pub check_scatter-returns-in_err-body : goal.check_scatter-returns-in_err-body
check_scatter-returns-in_err-body t c =
    let gone : c.from_residual-in_err-body.result ≡ Err c.in_err-body.field-0.0 = grind arith in
    let entered : seen_of c.enter.new.self ≡ with_item (seen_of c.args.visible.now) c.args.item.now.name c.in_ok-collection.collection.item =
    c.in_ok-enter.ensures ∙ ap (with_item (seen_of c.args.visible.now) c.args.item.now.name) c.get.ensures in
    subst (λ r. States (scatter_typed (place_of c.args.context.now) c.args.item.now c.args.over.now c.args.span (statements_typed (place_of c.args.context.now) c.args.body.now) c.args.number (seen_of c.args.visible.now)) (seen_of c.args.visible.now) (seen_of c.check_block.new.visible) r) (sym gone)
    (scatter_out (place_of c.args.context.now) c.args.item.now c.args.over.now c.args.span c.args.body.now c.args.number (seen_of c.args.visible.now) c.in_ok-collection.collection (seen_of c.enter.new.self) (seen_of c.check_block.new.visible) c.in_err-body.field-0.0
    c.in_ok-collection.ensures entered c.in_err-body.ensures)

pub check_scatter-returns : goal.check_scatter-returns
check_scatter-returns t c =
    let entered : seen_of c.enter.new.self ≡ with_item (seen_of c.args.visible.now) c.args.item.now.name c.in_ok-collection.collection.item =
    c.in_ok-enter.ensures ∙ ap (with_item (seen_of c.args.visible.now) c.args.item.now.name) c.get.ensures in
    scatter_states (place_of c.args.context.now) c.args.item.now c.args.over.now c.args.span c.args.body.now c.args.number (seen_of c.args.visible.now) c.in_ok-collection.collection (seen_of c.enter.new.self) (seen_of c.check_block.new.visible)
    (seen_of c.gather.new.self) c.len-kept.result c.len-from.result c.in_ok-body.body c.in_ok-scatter.field-0
    c.in_ok-collection.ensures entered c.len-kept.ensures c.len-from.ensures c.in_ok-body.ensures c.in_ok-gather.ensures c.in_ok-scatter.ensures

pub check_conditional-returns-in_err-cond : goal.check_conditional-returns-in_err-cond
check_conditional-returns-in_err-cond t c =
    let gone : c.from_residual.result ≡ Err c.in_err-cond.field-0.0 = grind arith in
    subst (λ r. States (conditional_typed (place_of c.args.context.now) c.args.test.now c.args.span (statements_typed (place_of c.args.context.now) c.args.body.now) c.args.number (seen_of c.args.visible.now)) (seen_of c.args.visible.now) (seen_of c.args.visible.now) r) (sym gone)
    (condition_refused (place_of c.args.context.now) c.args.test.now c.args.span c.args.body.now c.args.number (seen_of c.args.visible.now) (seen_of c.args.visible.now) c.in_err-cond.field-0.0 c.in_err-cond.ensures)

pub check_conditional-returns-in_err-body : goal.check_conditional-returns-in_err-body
check_conditional-returns-in_err-body t c =
    let gone : c.from_residual-in_err-body.result ≡ Err c.in_err-body.field-0.0 = grind arith in
    subst (λ r. States (conditional_typed (place_of c.args.context.now) c.args.test.now c.args.span (statements_typed (place_of c.args.context.now) c.args.body.now) c.args.number (seen_of c.args.visible.now)) (seen_of c.args.visible.now) (seen_of c.check_block.new.visible) r) (sym gone)
    (condition_out (place_of c.args.context.now) c.args.test.now c.args.span c.args.body.now c.args.number (seen_of c.args.visible.now) c.in_ok-cond.cond (seen_of c.check_block.new.visible) c.in_err-body.field-0.0 c.in_ok-cond.ensures c.in_err-body.ensures)

pub check_conditional-returns : goal.check_conditional-returns
check_conditional-returns t c =
    condition_states (place_of c.args.context.now) c.args.test.now c.args.span c.args.body.now c.args.number (seen_of c.args.visible.now) c.in_ok-cond.cond (seen_of c.check_block.new.visible) (seen_of c.gather.new.self) c.len-kept.result
    c.in_ok-body.body c.condition.result c.in_ok-cond.ensures c.len-kept.ensures c.in_ok-body.ensures c.in_ok-gather.ensures c.condition.ensures

pub check_block-loop-position-init : goal.check_block-loop-position-init
check_block-loop-position-init t c =
    runs_start (place_of c.args.context.now) c.args.body.now c.in_ok-numbers.numbers c.as_slice-position-items.result.now (seen_of c.args.visible.now) (in_order (place_of c.args.context.now) c.args.body.now c.in_ok-numbers.numbers (seen_of c.args.visible.now) c.as_slice-position-items.result.now) c.new-done.result c.new-done.ensures refl

pub check_block-returns-in_err-positions : goal.check_block-returns-in_err-positions
check_block-returns-in_err-positions t c =
    let whole : map (λ s. s.now) c.as_slice-2.result.now ≡ c.args.body.now = ap (map (λ s. s.now)) c.as_slice-2.ensures.value ∙ c.in_ok-refs.ensures in
    let same = sym (order_is (λ s. s.now) c.as_slice-2.result.now) ∙ ap (λ (ws : List Written). ordered (map statement_needing ws) (map statement_span ws)) whole in
    let gone : c.from_residual-in_err-positions.result ≡ Err c.in_err-positions.field-0.0 = grind arith in
    subst (λ r. StatesBody (statements_typed (place_of c.args.context.now) c.args.body.now (seen_of c.args.visible.now)) (seen_of c.args.visible.now) (seen_of c.args.visible.now) r) (sym gone)
    (body_unordered (place_of c.args.context.now) c.args.body.now (seen_of c.args.visible.now) (seen_of c.args.visible.now) c.in_err-positions.field-0.0 (subst (λ (o : Outcome (List ℕ)). Answers o (Err c.in_err-positions.field-0.0)) same c.in_err-positions.ensures))

pub check_block-loop-position-preserved-in_default : goal.check_block-loop-position-preserved-in_default
check_block-loop-position-preserved-in_default t c =
    runs_past_statement (place_of c.args.context.now) c.args.body.now c.in_ok-numbers.numbers c.as_slice-position-items.result.now (seen_of c.args.visible.now) (in_order (place_of c.args.context.now) c.args.body.now c.in_ok-numbers.numbers (seen_of c.args.visible.now) c.as_slice-position-items.result.now) c.loop-position.position-index (get_or c.as_slice-position-items.result.now c.loop-position.position-index 0) (seen_of c.loop-position.visible) c.loop-position.done c.loop-position-test.true (position_read c.as_slice-position-items.result.now c.loop-position.position-index c.loop-position-test.true) (not_there c.args.body.now (get_or c.as_slice-position-items.result.now c.loop-position.position-index 0) c.in_default.ensures.lookup) c.loop-position.invariant

pub check_block-loop-position-preserved-in_default-get : goal.check_block-loop-position-preserved-in_default-get
check_block-loop-position-preserved-in_default-get t c =
    runs_past_number (place_of c.args.context.now) c.args.body.now c.in_ok-numbers.numbers c.as_slice-position-items.result.now (seen_of c.args.visible.now) (in_order (place_of c.args.context.now) c.args.body.now c.in_ok-numbers.numbers (seen_of c.args.visible.now) c.as_slice-position-items.result.now) c.loop-position.position-index (get_or c.as_slice-position-items.result.now c.loop-position.position-index 0) (seen_of c.loop-position.visible) c.loop-position.done c.loop-position-test.true (position_read c.as_slice-position-items.result.now c.loop-position.position-index c.loop-position-test.true) (sym c.in_default-get.ensures.value) c.loop-position.invariant

pub check_block-loop-position-preserved : goal.check_block-loop-position-preserved
check_block-loop-position-preserved t c =
    runs_on (place_of c.args.context.now) c.args.body.now c.in_ok-numbers.numbers c.as_slice-position-items.result.now (seen_of c.args.visible.now) (in_order (place_of c.args.context.now) c.args.body.now c.in_ok-numbers.numbers (seen_of c.args.visible.now) c.as_slice-position-items.result.now) c.loop-position.position-index (get_or c.as_slice-position-items.result.now c.loop-position.position-index 0) c.in-Some-get.number.now c.in-Some.statement.now (seen_of c.loop-position.visible) c.loop-position.done c.loop-position-test.true (position_read c.as_slice-position-items.result.now c.loop-position.position-index c.loop-position-test.true)
    (there c.args.body.now (get_or c.as_slice-position-items.result.now c.loop-position.position-index 0) c.in-Some.statement c.in-Some.ensures.lookup) (sym c.in-Some-get.ensures.value) c.loop-position.invariant
    (seen_of c.check_statement.new.visible) c.push.new.self c.in_ok-check_statement.field-0 c.in_ok-check_statement.ensures c.in_ok-push.ensures.ok

pub check_block-returns-in_err-check_statement : goal.check_block-returns-in_err-check_statement
check_block-returns-in_err-check_statement t c =
    let whole : map (λ s. s.now) c.as_slice-2.result.now ≡ c.args.body.now = ap (map (λ s. s.now)) c.as_slice-2.ensures.value ∙ c.in_ok-refs.ensures in
    let same = sym (order_is (λ s. s.now) c.as_slice-2.result.now) ∙ ap (λ (ws : List Written). ordered (map statement_needing ws) (map statement_span ws)) whole in
    let numbers : c.in_ok-numbers.numbers ≡ numbers_of c.args.body.now = c.in_ok-numbers.ensures ∙ ap numbers_of (ap (map (λ s. s.now)) c.as_slice.ensures.value ∙ c.in_ok-refs.ensures) in
    let gone : c.from_residual-in_err-check_statement.result ≡ Err c.in_err-check_statement.field-0.0 = grind arith in
    subst (λ r. StatesBody (statements_typed (place_of c.args.context.now) c.args.body.now (seen_of c.args.visible.now)) (seen_of c.args.visible.now) (seen_of c.check_statement.new.visible) r) (sym gone)
    (body_out (place_of c.args.context.now) c.args.body.now c.in_ok-numbers.numbers c.as_slice-position-items.result.now (seen_of c.args.visible.now) (seen_of c.check_statement.new.visible) c.in_err-check_statement.field-0.0 numbers (ap (λ (o : Outcome (List ℕ)). o.typed) (sym same) ∙ c.in_ok-positions.ensures ∙ ap Some (sym c.as_slice-position-items.ensures))
    (runs_out (place_of c.args.context.now) c.args.body.now c.in_ok-numbers.numbers c.as_slice-position-items.result.now (seen_of c.args.visible.now) (in_order (place_of c.args.context.now) c.args.body.now c.in_ok-numbers.numbers (seen_of c.args.visible.now) c.as_slice-position-items.result.now) c.loop-position.position-index (get_or c.as_slice-position-items.result.now c.loop-position.position-index 0) c.in-Some-get.number.now c.in-Some.statement.now (seen_of c.loop-position.visible) c.loop-position.done c.loop-position-test.true (position_read c.as_slice-position-items.result.now c.loop-position.position-index c.loop-position-test.true)
    (there c.args.body.now (get_or c.as_slice-position-items.result.now c.loop-position.position-index 0) c.in-Some.statement c.in-Some.ensures.lookup) (sym c.in-Some-get.ensures.value) c.loop-position.invariant c.in_err-check_statement.field-0.0 c.in_err-check_statement.ensures))

pub check_block-returns : goal.check_block-returns
check_block-returns t c =
    let whole : map (λ s. s.now) c.as_slice-2.result.now ≡ c.args.body.now = ap (map (λ s. s.now)) c.as_slice-2.ensures.value ∙ c.in_ok-refs.ensures in
    let same = sym (order_is (λ s. s.now) c.as_slice-2.result.now) ∙ ap (λ (ws : List Written). ordered (map statement_needing ws) (map statement_span ws)) whole in
    let numbers : c.in_ok-numbers.numbers ≡ numbers_of c.args.body.now = c.in_ok-numbers.ensures ∙ ap numbers_of (ap (map (λ s. s.now)) c.as_slice.ensures.value ∙ c.in_ok-refs.ensures) in
    body_stated (place_of c.args.context.now) c.args.body.now c.in_ok-numbers.numbers c.as_slice-position-items.result.now (seen_of c.args.visible.now) (seen_of c.loop-position.visible) c.loop-position.done numbers (ap (λ (o : Outcome (List ℕ)). o.typed) (sym same) ∙ c.in_ok-positions.ensures ∙ ap Some (sym c.as_slice-position-items.ensures))
    (runs_end (place_of c.args.context.now) c.args.body.now c.in_ok-numbers.numbers c.as_slice-position-items.result.now (seen_of c.args.visible.now) (in_order (place_of c.args.context.now) c.args.body.now c.in_ok-numbers.numbers (seen_of c.args.visible.now) c.as_slice-position-items.result.now) c.loop-position.position-index (seen_of c.loop-position.visible) c.loop-position.done c.loop-position-test.false c.loop-position.invariant)

pub check_scatter-check_block-requires : goal.check_scatter-check_block-requires
check_scatter-check_block-requires t c = let k : 2 + inside_all c.args.body.now ≡ t = c.decreases in (omega (arith, k), tt)

pub check_conditional-check_block-requires : goal.check_conditional-check_block-requires
check_conditional-check_block-requires t c = let k : 2 + inside_all c.args.body.now ≡ t = c.decreases in (omega (arith, k), tt)

pub check_statement-check_scatter-requires : goal.check_statement-check_scatter-requires
check_statement-check_scatter-requires t c =
    let k : inside c.args.statement.now ≡ t = c.decreases in
    let e = ap inside c.in-Scatter.is ∙ inside_scatter c.in-Scatter.block in
    let b = ap inside_all c.as_slice-body.ensures in
    (omega (arith, k, e, b), tt)

pub check_statement-check_conditional-requires : goal.check_statement-check_conditional-requires
check_statement-check_conditional-requires t c =
    let k : inside c.args.statement.now ≡ t = c.decreases in
    let e = ap inside c.in-Conditional.is ∙ inside_conditional c.in-Conditional.block in
    let b = ap inside_all c.as_slice-body-in-Conditional.ensures in
    (omega (arith, k, e, b), tt)

pub check_block-check_statement-requires : goal.check_block-check_statement-requires
check_block-check_statement-requires t c =
    let k : 1 + inside_all c.args.body.now ≡ t = c.decreases in
    let s = there c.args.body.now (get_or c.as_slice-position-items.result.now c.loop-position.position-index 0) c.in-Some.statement c.in-Some.ensures.lookup in
    let w = inside_one c.args.body.now _ c.in-Some.statement.now s in
    (omega (arith, k, w), tt)
