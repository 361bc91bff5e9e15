use Rattle.std.proofs.Common.{◌≡◌, ℕ, get_or, List, Some, Err, map, refl, sym, ap, ◌∙◌, subst, arith}
use Rattle.wdl_check_types.specs.Outcome.{Answers, Outcome}
use Rattle.wdl_check_flow.specs.Bodies.{statements_typed}
use Rattle.wdl_check_flow.specs.Given.{seen_of}
use Rattle.wdl_check_flow.specs.Numbers.{numbers_of}
use Rattle.wdl_check_flow.specs.Stating.{StatesBody}
use Rattle.wdl_check_flow.specs.Targets.{place_of}
use Rattle.wdl_check_flow.proofs.BodyLaws.{body_out, body_stated, body_unordered, in_order, order_is, runs_end, runs_on, runs_out, runs_past_number, runs_past_statement, runs_start}
use Rattle.wdl_check_flow.proofs.ListLaws.{mapped_none, not_there, position_read, there}
use Rattle.wdl_check_flow.proofs.body.check_body.Goals as goal
use Rattle.wdl_base.proofs.Options.{map_there}

pub loop-position-init : goal.loop-position-init
loop-position-init c =
    runs_start (place_of c.args.context.now) (map (λ s. s.now) c.args.body.now) c.in_ok-numbers.numbers c.as_slice-position-items.result.now (seen_of c.args.visible.now) (in_order (place_of c.args.context.now) (map (λ s. s.now) c.args.body.now) c.in_ok-numbers.numbers (seen_of c.args.visible.now) c.as_slice-position-items.result.now) c.new-done.result c.new-done.ensures refl

pub returns-in_err-positions : goal.returns-in_err-positions
returns-in_err-positions c =
    let same = sym (order_is (λ s. s.now) c.args.body.now) in
    let gone : c.from_residual-in_err-positions.result ≡ Err c.in_err-positions.field-0.0 = grind arith in
    subst (λ r. StatesBody (statements_typed (place_of c.args.context.now) (map (λ s. s.now) c.args.body.now) (seen_of c.args.visible.now)) (seen_of c.args.visible.now) (seen_of c.args.visible.now) r) (sym gone)
    (body_unordered (place_of c.args.context.now) (map (λ s. s.now) c.args.body.now) (seen_of c.args.visible.now) (seen_of c.args.visible.now) c.in_err-positions.field-0.0 (subst (λ (o : Outcome (List ℕ)). Answers o (Err c.in_err-positions.field-0.0)) same c.in_err-positions.ensures))

pub loop-position-preserved-in_default : goal.loop-position-preserved-in_default
loop-position-preserved-in_default c =
    runs_past_statement (place_of c.args.context.now) (map (λ s. s.now) c.args.body.now) c.in_ok-numbers.numbers c.as_slice-position-items.result.now (seen_of c.args.visible.now) (in_order (place_of c.args.context.now) (map (λ s. s.now) c.args.body.now) c.in_ok-numbers.numbers (seen_of c.args.visible.now) c.as_slice-position-items.result.now) c.loop-position.position-index (get_or c.as_slice-position-items.result.now c.loop-position.position-index 0) (seen_of c.loop-position.visible) c.loop-position.done c.loop-position-test.true (position_read c.as_slice-position-items.result.now c.loop-position.position-index c.loop-position-test.true) (mapped_none (λ s. s.now) c.args.body.now (get_or c.as_slice-position-items.result.now c.loop-position.position-index 0) (not_there c.args.body.now (get_or c.as_slice-position-items.result.now c.loop-position.position-index 0) c.in_default.ensures.lookup)) c.loop-position.invariant

pub loop-position-preserved-in_default-get : goal.loop-position-preserved-in_default-get
loop-position-preserved-in_default-get c =
    runs_past_number (place_of c.args.context.now) (map (λ s. s.now) c.args.body.now) c.in_ok-numbers.numbers c.as_slice-position-items.result.now (seen_of c.args.visible.now) (in_order (place_of c.args.context.now) (map (λ s. s.now) c.args.body.now) c.in_ok-numbers.numbers (seen_of c.args.visible.now) c.as_slice-position-items.result.now) c.loop-position.position-index (get_or c.as_slice-position-items.result.now c.loop-position.position-index 0) (seen_of c.loop-position.visible) c.loop-position.done c.loop-position-test.true (position_read c.as_slice-position-items.result.now c.loop-position.position-index c.loop-position-test.true) (sym c.in_default-get.ensures.value) c.loop-position.invariant

pub loop-position-preserved : goal.loop-position-preserved
loop-position-preserved c =
    runs_on (place_of c.args.context.now) (map (λ s. s.now) c.args.body.now) c.in_ok-numbers.numbers c.as_slice-position-items.result.now (seen_of c.args.visible.now) (in_order (place_of c.args.context.now) (map (λ s. s.now) c.args.body.now) c.in_ok-numbers.numbers (seen_of c.args.visible.now) c.as_slice-position-items.result.now) c.loop-position.position-index (get_or c.as_slice-position-items.result.now c.loop-position.position-index 0) c.in-Some-get.number.now c.in-Some.statement.now.now (seen_of c.loop-position.visible) c.loop-position.done c.loop-position-test.true (position_read c.as_slice-position-items.result.now c.loop-position.position-index c.loop-position-test.true)
    (map_there (λ s. s.now) c.args.body.now (get_or c.as_slice-position-items.result.now c.loop-position.position-index 0) c.in-Some.statement.now (there c.args.body.now (get_or c.as_slice-position-items.result.now c.loop-position.position-index 0) c.in-Some.statement c.in-Some.ensures.lookup)) (sym c.in-Some-get.ensures.value) c.loop-position.invariant
    (seen_of c.check_statement.new.visible) c.push.new.self c.in_ok-check_statement.field-0 c.in_ok-check_statement.ensures c.in_ok-push.ensures.ok

pub returns-in_err-check_statement : goal.returns-in_err-check_statement
returns-in_err-check_statement c =
    let same = sym (order_is (λ s. s.now) c.args.body.now) in
    let numbers : c.in_ok-numbers.numbers ≡ numbers_of (map (λ s. s.now) c.args.body.now) = c.in_ok-numbers.ensures in
    let gone : c.from_residual-in_err-check_statement.result ≡ Err c.in_err-check_statement.field-0.0 = grind arith in
    subst (λ r. StatesBody (statements_typed (place_of c.args.context.now) (map (λ s. s.now) c.args.body.now) (seen_of c.args.visible.now)) (seen_of c.args.visible.now) (seen_of c.check_statement.new.visible) r) (sym gone)
    (body_out (place_of c.args.context.now) (map (λ s. s.now) c.args.body.now) c.in_ok-numbers.numbers c.as_slice-position-items.result.now (seen_of c.args.visible.now) (seen_of c.check_statement.new.visible) c.in_err-check_statement.field-0.0 numbers (ap (λ (o : Outcome (List ℕ)). o.typed) (sym same) ∙ c.in_ok-positions.ensures ∙ ap Some (sym c.as_slice-position-items.ensures))
    (runs_out (place_of c.args.context.now) (map (λ s. s.now) c.args.body.now) c.in_ok-numbers.numbers c.as_slice-position-items.result.now (seen_of c.args.visible.now) (in_order (place_of c.args.context.now) (map (λ s. s.now) c.args.body.now) c.in_ok-numbers.numbers (seen_of c.args.visible.now) c.as_slice-position-items.result.now) c.loop-position.position-index (get_or c.as_slice-position-items.result.now c.loop-position.position-index 0) c.in-Some-get.number.now c.in-Some.statement.now.now (seen_of c.loop-position.visible) c.loop-position.done c.loop-position-test.true (position_read c.as_slice-position-items.result.now c.loop-position.position-index c.loop-position-test.true)
    (map_there (λ s. s.now) c.args.body.now (get_or c.as_slice-position-items.result.now c.loop-position.position-index 0) c.in-Some.statement.now (there c.args.body.now (get_or c.as_slice-position-items.result.now c.loop-position.position-index 0) c.in-Some.statement c.in-Some.ensures.lookup)) (sym c.in-Some-get.ensures.value) c.loop-position.invariant c.in_err-check_statement.field-0.0 c.in_err-check_statement.ensures))

pub returns : goal.returns
returns c =
    let same = sym (order_is (λ s. s.now) c.args.body.now) in
    let numbers : c.in_ok-numbers.numbers ≡ numbers_of (map (λ s. s.now) c.args.body.now) = c.in_ok-numbers.ensures in
    body_stated (place_of c.args.context.now) (map (λ s. s.now) c.args.body.now) c.in_ok-numbers.numbers c.as_slice-position-items.result.now (seen_of c.args.visible.now) (seen_of c.loop-position.visible) c.loop-position.done numbers (ap (λ (o : Outcome (List ℕ)). o.typed) (sym same) ∙ c.in_ok-positions.ensures ∙ ap Some (sym c.as_slice-position-items.ensures))
    (runs_end (place_of c.args.context.now) (map (λ s. s.now) c.args.body.now) c.in_ok-numbers.numbers c.as_slice-position-items.result.now (seen_of c.args.visible.now) (in_order (place_of c.args.context.now) (map (λ s. s.now) c.args.body.now) c.in_ok-numbers.numbers (seen_of c.args.visible.now) c.as_slice-position-items.result.now) c.loop-position.position-index (seen_of c.loop-position.visible) c.loop-position.done c.loop-position-test.false c.loop-position.invariant)
