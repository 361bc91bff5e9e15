use Rattle.std.proofs.Common.{inl, inr, [], None, ap, sym, subst, ◌∙◌, refl}
use Rattle.report_text.specs.declared.status.Status.TheVariants as status
use Rattle.ready_core.specs.Cores.{CoreState}
use Rattle.work_desk.specs.Ran.{HasRun}
use Rattle.workflow_cli.specs.Running.{lapses_of, work_trace}
use Rattle.workflow_cli.specs.Stages.{main_with}
use Rattle.workflow_cli.proofs.Left.{has_left, has_starved, no_rows, unkept}
use Rattle.workflow_cli.proofs.Starting.{stop_is}
use Rattle.workflow_cli.proofs.run.run_plain.Goals as goal

pub returns-in_default-clause-value : goal.returns-in_default-clause-value
returns-in_default-clause-value g c f fit lapses k =
    let i = c.idle.ensures in
    let gives = g.L.Launcher.gives c.args.launcher.now in
    let refuses = g.L.Launcher.refuses c.args.launcher.now in
    let t = work_trace c.idle.result c.args.steps.now c.begin.new.steps lapses k k in
    let m = main_with c.args.prepared.checked c.args.prepared.given c.args.options.now f in
    inr (inr (has_starved gives refuses t m c.idle.result.work [] i.journal i.steps i.counts (no_rows gives refuses t m c.idle.result.work c.requires.none)
    (unkept gives refuses t m c.idle.result.work c.requires.none _ _ refl (λ h. cc))
    (i.work ∙ stop_is c.stop_of.result status.NoMemory c.stop_of.ensures.status c.stop_of.ensures.paths c.stop_of.ensures.note)))

pub returns-clause-value : goal.returns-clause-value
returns-clause-value g c f fit lapses k =
    let gives = g.L.Launcher.gives c.args.launcher.now in
    let refuses = g.L.Launcher.refuses c.args.launcher.now in
    let t = work_trace c.worked.result c.args.steps.now c.run_all-ran.new.steps lapses k k in
    let m = main_with c.args.prepared.checked c.args.prepared.given c.args.options.now f in
    let w = c.worked.result.work in
    let b = c.in-Ok.ensures.value f fit in
    let ran = c.run_all-ran.result in
    let r = c.run_all-ran.ensures in
    let left = c.worked.ensures in
    inr (inr (has_left gives refuses t m w ran.stop ran.core (r.origin ∙ ap (λ (x : CoreState). x.origin) b.core) left.journal left.steps [] ran.counts c.in-Ok.field-0.name left.counts b.name
    (inl (subst (λ j. HasRun m.options.workers gives refuses (lapses_of j lapses) [] ran.core ran.stop ran.counts) (sym c.requires.none)
    (subst (λ x. HasRun m.options.workers gives refuses (lapses_of None lapses) x ran.core ran.stop ran.counts) c.new.ensures r.run))) (no_rows gives refuses t m w c.requires.none)
    (unkept gives refuses t m w c.requires.none ran.core ran.stop refl (r.unkept refl)) (λ none. r.paid.paid none c.args.steps.now c.in-Ok.ensures.paid) left.turns))
