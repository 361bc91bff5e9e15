use Rattle.std.proofs.Common.{◌≡◌, ℕ, ◌+◌, arith, List, [], Some, Result, Ok, Err, drop, get_or, map, refl, ap, sym, ◌∙◌, subst}
use Rattle.wdl_base.specs.declared.span.Span.{Span}
use Rattle.wdl_value.specs.declared.ty.Member.{Member}
use Rattle.wdl_typed.specs.Order.{Needing, picked}
use Rattle.wdl_check_rules.specs.declared.fault.CheckFault.{CheckFault}
use Rattle.wdl_check_types.specs.Outcome.{Answers, Outcome}
use Rattle.wdl_check_types.specs.Places.{declaration_span}
use Rattle.wdl_check_types.proofs.OutcomeLaws.{then_err, then_ok}
use Rattle.wdl_check_order.specs.Needs.{declaration_needing}
use Rattle.wdl_check_order.specs.Ordered.{ordered}
use Rattle.wdl_check_decls.specs.Expressions.{world}
use Rattle.wdl_check_decls.proofs.ListLaws.{Leads, ends, fails, goes_on, passes}
use Rattle.wdl_check_flow.specs.Flows.{result_typed, results_behind, results_typed}
use Rattle.wdl_check_flow.proofs.ListLaws.{map-map, mapped_none, not_there, there}
use Rattle.wdl_check_flow.proofs.flow.check_results.Goals as goal
use Rattle.wdl_base.proofs.Options.{map_there}

pub returns-in_err-positions : goal.returns-in_err-positions
returns-in_err-positions c =
    let w = world c.args.seeing.now in
    let ds = map (λ d. d.now) c.args.list.now in
    let e = c.in_err-positions.field-0.0 in
    let gone : c.from_residual.result ≡ Err e = grind arith in
    let order : ordered (map (λ d. declaration_needing d.now) c.args.list.now) (map (λ d. declaration_span d.now) c.args.list.now) ≡ ordered (map declaration_needing ds) (map declaration_span ds) =
    ap (λ (ns : List Needing). ordered ns (map (λ d. declaration_span d.now) c.args.list.now)) (sym (map-map (λ d. d.now) declaration_needing c.args.list.now))
    ∙ ap (λ (ss : List Span). ordered (map declaration_needing ds) ss) (sym (map-map (λ d. d.now) declaration_span c.args.list.now)) in
    subst (λ (r : Result (List Member) CheckFault). Answers (results_typed w ds) r) (sym gone)
    (then_err (ordered (map declaration_needing ds) (map declaration_span ds)) (λ ps. results_behind w [] (picked ds ps)) e
    (subst (λ (o : Outcome (List ℕ)). Answers o (Err e)) order c.in_err-positions.ensures))

pub loop-position-preserved-in_default : goal.loop-position-preserved-in_default
loop-position-preserved-in_default c =
    let w = world c.args.seeing.now in
    let ds = map (λ d. d.now) c.args.list.now in
    let ps = c.as_slice-position-items.result.now in
    let i = c.loop-position.position-index in
    passes (λ before d. result_typed w d) (results_behind w) (λ b d r. refl) (λ b. refl)
    ds ps i c.loop-position.done (results_behind w [] (picked ds ps)) c.loop-position.invariant c.loop-position-test.true
    (mapped_none (λ d. d.now) c.args.list.now (get_or ps i 0) (not_there c.args.list.now (get_or ps i 0) c.in_default.ensures.lookup))

pub returns-in_err-check_result : goal.returns-in_err-check_result
returns-in_err-check_result c =
    let w = world c.args.seeing.now in
    let ds = map (λ d. d.now) c.args.list.now in
    let ps = c.as_slice-position-items.result.now in
    let i = c.loop-position.position-index in
    let e = c.in_err-check_result.field-0.0 in
    let gone : c.from_residual-in_err-check_result.result ≡ Err e = grind arith in
    let order : ordered (map (λ d. declaration_needing d.now) c.args.list.now) (map (λ d. declaration_span d.now) c.args.list.now) ≡ ordered (map declaration_needing ds) (map declaration_span ds) =
    ap (λ (ns : List Needing). ordered ns (map (λ d. declaration_span d.now) c.args.list.now)) (sym (map-map (λ d. d.now) declaration_needing c.args.list.now))
    ∙ ap (λ (ss : List Span). ordered (map declaration_needing ds) ss) (sym (map-map (λ d. d.now) declaration_span c.args.list.now)) in
    subst (λ (r : Result (List Member) CheckFault). Answers (results_typed w ds) r) (sym gone)
    (then_ok (ordered (map declaration_needing ds) (map declaration_span ds)) (λ qs. results_behind w [] (picked ds qs)) ps (Err e)
    (subst (λ (o : Outcome (List ℕ)). o.typed ≡ Some ps) order (c.in_ok-positions.ensures ∙ ap Some (sym c.as_slice-position-items.ensures)))
    (fails (λ before d. result_typed w d) (results_behind w) (λ b d r. refl) (λ b. refl)
    ds ps i c.loop-position.done (results_behind w [] (picked ds ps)) c.loop-position.invariant c.in-Some.output.now.now e c.loop-position-test.true
    (map_there (λ d. d.now) c.args.list.now (get_or ps i 0) c.in-Some.output.now (there c.args.list.now (get_or ps i 0) c.in-Some.output c.in-Some.ensures.lookup)) c.in_err-check_result.ensures))

pub loop-position-preserved : goal.loop-position-preserved
loop-position-preserved c =
    let w = world c.args.seeing.now in
    let ds = map (λ d. d.now) c.args.list.now in
    let ps = c.as_slice-position-items.result.now in
    let i = c.loop-position.position-index in
    let whole = results_behind w [] (picked ds ps) in
    subst (λ (ms : List Member). Leads (results_behind w ms (picked ds (drop (i + 1) ps))) whole) (sym c.in_ok-push.ensures.ok)
    (goes_on (λ before d. result_typed w d) (results_behind w) (λ b d r. refl) (λ b. refl)
    ds ps i c.loop-position.done whole c.loop-position.invariant c.in-Some.output.now.now c.in_ok-check_result.field-0 c.loop-position-test.true
    (map_there (λ d. d.now) c.args.list.now (get_or ps i 0) c.in-Some.output.now (there c.args.list.now (get_or ps i 0) c.in-Some.output c.in-Some.ensures.lookup)) c.in_ok-check_result.ensures)

pub returns : goal.returns
returns c =
    let w = world c.args.seeing.now in
    let ds = map (λ d. d.now) c.args.list.now in
    let ps = c.as_slice-position-items.result.now in
    let i = c.loop-position.position-index in
    let order : ordered (map (λ d. declaration_needing d.now) c.args.list.now) (map (λ d. declaration_span d.now) c.args.list.now) ≡ ordered (map declaration_needing ds) (map declaration_span ds) =
    ap (λ (ns : List Needing). ordered ns (map (λ d. declaration_span d.now) c.args.list.now)) (sym (map-map (λ d. d.now) declaration_needing c.args.list.now))
    ∙ ap (λ (ss : List Span). ordered (map declaration_needing ds) ss) (sym (map-map (λ d. d.now) declaration_span c.args.list.now)) in
    then_ok (ordered (map declaration_needing ds) (map declaration_span ds)) (λ qs. results_behind w [] (picked ds qs)) ps (Ok c.loop-position.done)
    (subst (λ (o : Outcome (List ℕ)). o.typed ≡ Some ps) order (c.in_ok-positions.ensures ∙ ap Some (sym c.as_slice-position-items.ensures)))
    (ends (λ before d. result_typed w d) (results_behind w) (λ b d r. refl) (λ b. refl)
    ds ps i c.loop-position.done (results_behind w [] (picked ds ps)) c.loop-position.invariant c.loop-position-test.false)
