use Rattle.std.proofs.Common.{inl, inr, ap, sym, subst, ◌∙◌, refl}
use Rattle.report_text.specs.declared.status.Status.TheVariants as status
use Rattle.ready_core.specs.Cores.{CoreState}
use Rattle.work_desk.specs.Keeping.{keeper_view}
use Rattle.work_desk.specs.Ran.{HasRun}
use Rattle.workflow_cli.specs.Running.{lapses_of, work_trace}
use Rattle.workflow_cli.specs.Stages.{main_with}
use Rattle.workflow_cli.proofs.Left.{has_left, has_starved, its_rows, keeps, keeps_none}
use Rattle.workflow_cli.proofs.Starting.{stop_is}
use Rattle.workflow_cli.proofs.run.run_over.Goals as goal

pub returns-in_default-clause-value : goal.returns-in_default-clause-value
returns-in_default-clause-value g c f fit path k named o =
    let i = c.idle.ensures in
    let gives = g.L.Launcher.gives c.args.launcher.now in
    let refuses = g.L.Launcher.refuses c.args.launcher.now in
    let v = keeper_view (g.K.Keeper.kept c.args.keeper.now) (g.K.Keeper.path c.args.keeper.now) (g.K.Keeper.faults c.args.keeper.now) in
    let t = work_trace c.idle.result c.args.steps.now c.begin.new.steps (g.K.Keeper.lapses c.args.keeper.now) k v in
    let m = main_with c.args.prepared.checked c.args.prepared.given c.args.options.now f in
    inr (inr (has_starved gives refuses t m c.idle.result.work c.args.rows i.journal i.steps i.counts (its_rows gives refuses t m c.idle.result.work path named v c.args.rows o)
    (keeps_none gives refuses t m c.idle.result.work path named v c.args.rows o i.journal refl)
    (i.work ∙ stop_is c.stop_of.result status.NoMemory c.stop_of.ensures.status c.stop_of.ensures.paths c.stop_of.ensures.note)))

pub returns-clause-value : goal.returns-clause-value
returns-clause-value g c f fit path k named o =
    let gives = g.L.Launcher.gives c.args.launcher.now in
    let refuses = g.L.Launcher.refuses c.args.launcher.now in
    let v = keeper_view (g.K.Keeper.kept c.args.keeper.now) (g.K.Keeper.path c.args.keeper.now) (g.K.Keeper.faults c.args.keeper.now) in
    let n = c.run_all-ran.new.keeper.0 in
    let t = work_trace c.worked.result c.args.steps.now c.run_all-ran.new.steps (g.K.Keeper.lapses c.args.keeper.now) k (keeper_view (g.K.Keeper.kept n) (g.K.Keeper.path n) (g.K.Keeper.faults n)) in
    let m = main_with c.args.prepared.checked c.args.prepared.given c.args.options.now f in
    let w = c.worked.result.work in
    let b = c.in-Ok.ensures.value f fit in
    let ran = c.run_all-ran.result in
    let r = c.run_all-ran.ensures in
    let left = c.worked.ensures in
    inr (inr (has_left gives refuses t m w ran.stop ran.core (r.origin ∙ ap (λ (x : CoreState). x.origin) b.core) left.journal left.steps c.args.rows ran.counts c.in-Ok.field-0.name left.counts b.name
    (inl (subst (λ j. HasRun m.options.workers gives refuses (lapses_of j t.lapses) c.args.rows ran.core ran.stop ran.counts) (sym named) r.run)) (its_rows gives refuses t m w path named v c.args.rows o) (keeps gives refuses t m w path named v c.args.rows o ran.core ran.stop r.keeper) (λ none. r.paid.paid none c.args.steps.now c.in-Ok.ensures.paid) left.turns))
