use Rattle.std.proofs.Common.{◌≡◌, ℕ, ◌+◌, arith, rules, List, [], ◌∷◌, ◌++◌, None, Some, option_map, Result, Ok, Err, drop, get_or, map, slice_get, refl, ap, sym, ◌∙◌, subst}
use Rattle.std.proofs.lemmas.Option.{slice_get-map}
use Rattle.std.proofs.lemmas.Simd.{map-map}
use Rattle.wdl_base.specs.declared.span.Span.{Span}
use Rattle.wdl_typed.specs.declared.scope.Bound.{Bound}
use Rattle.wdl_typed.specs.declared.task.TDecl.{TDecl}
use Rattle.wdl_typed.specs.Declarations.{bound, decls_bound}
use Rattle.wdl_typed.specs.Order.{Needing, picked}
use Rattle.wdl_check_rules.specs.declared.fault.CheckFault.{CheckFault}
use Rattle.wdl_check_types.specs.Outcome.{Answers, Outcome}
use Rattle.wdl_check_types.specs.Places.{declaration_span}
use Rattle.wdl_check_types.proofs.OutcomeLaws.{then_err, then_ok}
use Rattle.wdl_check_order.specs.Needs.{declaration_needing}
use Rattle.wdl_check_order.specs.Ordered.{ordered}
use Rattle.wdl_check_decls.specs.Declarations.{decl_typed, decls_behind, decls_typed}
use Rattle.wdl_check_decls.specs.Expressions.{world}
use Rattle.wdl_check_decls.proofs.ListLaws.{Leads, decls_after, ends, fails, goes_on, passes}
use Rattle.wdl_check_decls.proofs.declaration.check_declarations.Goals as goal

pub returns-in_err-positions-clause-value : goal.returns-in_err-positions-clause-value
returns-in_err-positions-clause-value c =
    let w = world c.args.seeing.now in
    let ds = map (λ d. d.now) c.args.list.now in
    let e = c.in_err-positions.field-0.0 in
    let gone : c.from_residual.result ≡ Err e = grind arith in
    let order : ordered (map (λ d. declaration_needing d.now) c.args.list.now) (map (λ d. declaration_span d.now) c.args.list.now) ≡ ordered (map declaration_needing ds) (map declaration_span ds) =
    ap (λ (ns : List Needing). ordered ns (map (λ d. declaration_span d.now) c.args.list.now)) (sym (map-map declaration_needing (λ d. d.now) c.args.list.now))
    ∙ ap (λ (ss : List Span). ordered (map declaration_needing ds) ss) (sym (map-map declaration_span (λ d. d.now) c.args.list.now)) in
    subst (λ (r : Result (List TDecl) CheckFault). Answers (decls_typed c.args.standing w c.args.names.now ds) r) (sym gone)
    (then_err (ordered (map declaration_needing ds) (map declaration_span ds)) (λ ps. decls_behind c.args.standing w c.args.names.now [] (picked ds ps)) e
    (subst (λ (o : Outcome (List ℕ)). Answers o (Err e)) order c.in_err-positions.ensures))

pub loop-position-preserved-in_default : goal.loop-position-preserved-in_default
loop-position-preserved-in_default c =
    let w = world c.args.seeing.now in
    let ds = map (λ d. d.now) c.args.list.now in
    let ps = c.as_slice-position-items.result.now in
    let i = c.loop-position.position-index in
    let none : slice_get c.args.list.now (get_or ps i 0) ≡ None = search rules in
    record {
      leads = passes (λ before d. decl_typed c.args.standing w (c.args.names.now ++ decls_bound before) d) (decls_behind c.args.standing w c.args.names.now) (λ b d r. refl) (λ b. refl)
          ds ps i c.loop-position.done (decls_behind c.args.standing w c.args.names.now [] (picked ds ps)) c.loop-position.invariant.leads
          c.loop-position-test.true (slice_get-map (λ d. d.now) c.args.list.now (get_or ps i 0) ∙ ap (option_map (λ d. d.now)) none);
      names = c.loop-position.invariant.names;
    }

pub returns-in_err-decl-clause-value : goal.returns-in_err-decl-clause-value
returns-in_err-decl-clause-value c =
    let w = world c.args.seeing.now in
    let ds = map (λ d. d.now) c.args.list.now in
    let ps = c.as_slice-position-items.result.now in
    let i = c.loop-position.position-index in
    let e = c.in_err-decl.field-0.0 in
    let gone : c.from_residual-in_err-decl.result ≡ Err e = grind arith in
    let whole = decls_behind c.args.standing w c.args.names.now [] (picked ds ps) in
    let order : ordered (map (λ d. declaration_needing d.now) c.args.list.now) (map (λ d. declaration_span d.now) c.args.list.now) ≡ ordered (map declaration_needing ds) (map declaration_span ds) =
    ap (λ (ns : List Needing). ordered ns (map (λ d. declaration_span d.now) c.args.list.now)) (sym (map-map declaration_needing (λ d. d.now) c.args.list.now))
    ∙ ap (λ (ss : List Span). ordered (map declaration_needing ds) ss) (sym (map-map declaration_span (λ d. d.now) c.args.list.now)) in
    let d = c.in-Some.declaration.now.now in
    let some : slice_get c.args.list.now (get_or ps i 0) ≡ Some c.in-Some.declaration.now = search rules in
    subst (λ (r : Result (List TDecl) CheckFault). Answers (decls_typed c.args.standing w c.args.names.now ds) r) (sym gone)
    (then_ok (ordered (map declaration_needing ds) (map declaration_span ds)) (λ qs. decls_behind c.args.standing w c.args.names.now [] (picked ds qs)) ps (Err e)
    (subst (λ (o : Outcome (List ℕ)). o.typed ≡ Some ps) order (c.in_ok-positions.ensures ∙ ap Some (sym c.as_slice-position-items.ensures)))
    (fails (λ before d. decl_typed c.args.standing w (c.args.names.now ++ decls_bound before) d) (decls_behind c.args.standing w c.args.names.now) (λ b d r. refl) (λ b. refl)
    ds ps i c.loop-position.done whole c.loop-position.invariant.leads d e c.loop-position-test.true (slice_get-map (λ d. d.now) c.args.list.now (get_or ps i 0) ∙ ap (option_map (λ d. d.now)) some)
    (subst (λ (ns : List Bound). Answers (decl_typed c.args.standing w ns d) (Err e)) c.loop-position.invariant.names c.in_err-decl.ensures.value)))

pub loop-position-preserved : goal.loop-position-preserved
loop-position-preserved c =
    let w = world c.args.seeing.now in
    let ds = map (λ d. d.now) c.args.list.now in
    let ps = c.as_slice-position-items.result.now in
    let i = c.loop-position.position-index in
    let t = c.in_ok-decl.decl in
    let d = c.in-Some.declaration.now.now in
    let some : slice_get c.args.list.now (get_or ps i 0) ≡ Some c.in-Some.declaration.now = search rules in
    let whole = decls_behind c.args.standing w c.args.names.now [] (picked ds ps) in
    record {
      leads =
          subst (λ (ts : List TDecl). Leads (decls_behind c.args.standing w c.args.names.now ts (picked ds (drop (i + 1) ps))) whole) (sym c.in_ok-push.ensures.ok)
          (goes_on (λ before d. decl_typed c.args.standing w (c.args.names.now ++ decls_bound before) d) (decls_behind c.args.standing w c.args.names.now) (λ b d r. refl) (λ b. refl)
          ds ps i c.loop-position.done whole c.loop-position.invariant.leads d t c.loop-position-test.true (slice_get-map (λ d. d.now) c.args.list.now (get_or ps i 0) ∙ ap (option_map (λ d. d.now)) some)
          (subst (λ (ns : List Bound). (decl_typed c.args.standing w ns d).typed ≡ Some t) c.loop-position.invariant.names c.in_ok-decl.ensures.value));
      names =
          c.in_ok-decl.ensures.names ∙ ap (λ (ns : List Bound). ns ++ bound t.name t.ty ∷ []) c.loop-position.invariant.names
          ∙ sym (decls_after c.args.names.now c.loop-position.done t) ∙ ap (λ (ts : List TDecl). c.args.names.now ++ decls_bound ts) (sym c.in_ok-push.ensures.ok);
    }

pub returns-clause-value : goal.returns-clause-value
returns-clause-value c =
    let w = world c.args.seeing.now in
    let ds = map (λ d. d.now) c.args.list.now in
    let ps = c.as_slice-position-items.result.now in
    let i = c.loop-position.position-index in
    let order : ordered (map (λ d. declaration_needing d.now) c.args.list.now) (map (λ d. declaration_span d.now) c.args.list.now) ≡ ordered (map declaration_needing ds) (map declaration_span ds) =
    ap (λ (ns : List Needing). ordered ns (map (λ d. declaration_span d.now) c.args.list.now)) (sym (map-map declaration_needing (λ d. d.now) c.args.list.now))
    ∙ ap (λ (ss : List Span). ordered (map declaration_needing ds) ss) (sym (map-map declaration_span (λ d. d.now) c.args.list.now)) in
    then_ok (ordered (map declaration_needing ds) (map declaration_span ds)) (λ qs. decls_behind c.args.standing w c.args.names.now [] (picked ds qs)) ps (Ok c.loop-position.done)
    (subst (λ (o : Outcome (List ℕ)). o.typed ≡ Some ps) order (c.in_ok-positions.ensures ∙ ap Some (sym c.as_slice-position-items.ensures)))
    (ends (λ before d. decl_typed c.args.standing w (c.args.names.now ++ decls_bound before) d) (decls_behind c.args.standing w c.args.names.now) (λ b d r. refl) (λ b. refl)
    ds ps i c.loop-position.done (decls_behind c.args.standing w c.args.names.now [] (picked ds ps)) c.loop-position.invariant.leads (omega (arith, c.loop-position-test.false)))
