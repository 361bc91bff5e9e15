use Rattle.std.proofs.Common.{◌+◌, List, drop, map, refl, sym, ap, ◌∙◌, subst}
use Rattle.wdl_typed.specs.declared.task.TDecl.{TDecl}
use Rattle.wdl_typed.specs.Flow as flow
use Rattle.flow_soundness.specs.Readiness.{AreDeclsReady}
use Rattle.wdl_plain.specs.Views.{flowing_of, sight_of}
use Rattle.wdl_plain.proofs.Few.{few_decl}
use Rattle.wdl_plain.proofs.Loops.{cut, runs_on, sum_is_many}
use Rattle.wdl_plain.proofs.Statements.{handed_on}
use Rattle.wdl_plain.proofs.Turns.{begins_none}
use Rattle.wdl_plain.proofs.declaration.outputs.Goals as goal

abbrev run : TDecl → flow.Runner
run d s = flow.declaration s d.name d.value

abbrev runs : List TDecl → List flow.Runner
runs ds = map run ds

pub loop-output-init : goal.loop-output-init
loop-output-init g c = (begins_none (flowing_of c.counted-total.result) (runs c.args.outputs.now) (sight_of c.args.sight.now) c.counted-total.ensures, c.requires.ready)

pub declaration-requires : goal.declaration-requires
declaration-requires g c =
    let rest = subst (λ (ds : List TDecl). AreDeclsReady ds (sight_of c.loop-output.sight))
    (cut c.args.outputs.now c.loop-output.output-index c.output-item.result c.loop-output-test.true c.output-item.is) c.loop-output.invariant.1 in
    record { ready = rest.0 }

pub and-requires-clause-first : goal.and-requires-clause-first
and-requires-clause-first g c = c.loop-output.invariant.0.within

pub and-requires-clause-second : goal.and-requires-clause-second
and-requires-clause-second g c =
    ap flow.too_many c.in_ok-more.ensures ∙ few_decl (sight_of c.loop-output.sight) c.output-item.result.name c.output-item.result.value

pub loop-output-preserved : goal.loop-output-preserved
loop-output-preserved g c =
    let rest = subst (λ (ds : List TDecl). AreDeclsReady ds (sight_of c.loop-output.sight))
    (cut c.args.outputs.now c.loop-output.output-index c.output-item.result c.loop-output-test.true c.output-item.is) c.loop-output.invariant.1 in
    let seen = c.in_ok-enter.ensures ∙ ap (flow.seeing (sight_of c.loop-output.sight)) c.in_ok-more.ensures in (
      runs_on run runs (λ x xs. refl) c.args.outputs.now c.loop-output.output-index c.output-item.result
          (flowing_of c.loop-output.total) (flowing_of c.in_ok-more.more) (flowing_of c.in_ok-total.total) (flow.outputs c.args.outputs.now (sight_of c.args.sight.now))
          (sight_of c.loop-output.sight) (sight_of c.enter.new.self) (sight_of c.args.sight.now) c.loop-output-test.true c.output-item.is c.in_ok-more.ensures c.in_ok-enter.ensures
          c.in_ok-total.ensures.0 c.in_ok-total.ensures.1 c.loop-output.invariant.0,
      subst (λ (s : flow.Sight). AreDeclsReady (drop (c.loop-output.output-index + 1) c.args.outputs.now) s) (sym seen) rest.1,
    )

pub returns-in_err-total-clause-flow : goal.returns-in_err-total-clause-flow
returns-in_err-total-clause-flow g c =
    handed_on _ c.from_residual-in_err-total.result c.in_err-total.field-0.0 c.from_residual-in_err-total.ensures (λ e.
    sum_is_many run runs (λ x xs. refl) c.args.outputs.now c.loop-output.output-index c.output-item.result
    (flowing_of c.loop-output.total) (flowing_of c.in_ok-more.more) (flow.outputs c.args.outputs.now (sight_of c.args.sight.now))
    (sight_of c.loop-output.sight) (sight_of c.args.sight.now) c.loop-output-test.true c.output-item.is c.in_ok-more.ensures (c.in_err-total.ensures e) c.loop-output.invariant.0)
