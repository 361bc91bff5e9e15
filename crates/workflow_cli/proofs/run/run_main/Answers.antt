use Rattle.std.proofs.Common.{inr, subst, ◌∙◌, refl}
use Rattle.work_desk.specs.Keeping.{keeper_view}
use Rattle.workflow_cli.specs.Running.{Lapses, work_trace}
use Rattle.workflow_cli.specs.Stages.{RunsMain, main_with}
use Rattle.workflow_cli.proofs.Left.{stopped_on, unopened}
use Rattle.workflow_cli.proofs.Starting.{stop_is}
use Rattle.workflow_cli.proofs.run.run_main.Goals as goal

pub returns-in-Ok-clause-value : goal.returns-in-Ok-clause-value
returns-in-Ok-clause-value g c f fit =
    let gives = g.L.Launcher.gives c.args.launcher.now in
    let refuses = g.L.Launcher.refuses c.args.launcher.now in
    let v = keeper_view (g.K.Keeper.kept c.args.keeper.now) (g.K.Keeper.path c.args.keeper.now) (g.K.Keeper.faults c.args.keeper.now) in
    let n = c.run_over.new.keeper in
    let w = keeper_view (g.K.Keeper.kept n) (g.K.Keeper.path n) (g.K.Keeper.faults n) in
    let m = main_with c.args.prepared.checked c.args.prepared.given c.args.options.now f in
    subst (λ (l : Lapses). RunsMain gives refuses (work_trace c.run_over.result c.args.steps.now c.run_over.new.steps l v w) m c.run_over.result.work)
    c.rows_of.ensures.lapses (c.run_over.ensures.value f fit c.in-Some.path v c.in-Some.is c.in-Ok.ensures.value)

pub returns-in-Err-clause-value : goal.returns-in-Err-clause-value
returns-in-Err-clause-value g c f fit =
    let i = c.idle.ensures in
    let h = c.in-Err.ensures.value in
    let v = keeper_view (g.K.Keeper.kept c.args.keeper.now) (g.K.Keeper.path c.args.keeper.now) (g.K.Keeper.faults c.args.keeper.now) in
    let n = c.rows_of.new.keeper in
    let t = work_trace c.idle.result c.args.steps.now c.args.steps.now (g.K.Keeper.lapses c.args.keeper.now) v (keeper_view (g.K.Keeper.kept n) (g.K.Keeper.path n) (g.K.Keeper.faults n)) in
    let m = main_with c.args.prepared.checked c.args.prepared.given c.args.options.now f in
    unopened (g.L.Launcher.gives c.args.launcher.now) (g.L.Launcher.refuses c.args.launcher.now) t m c.idle.result.work c.in-Some.path c.in-Some.is c.in-Err.status
    (record { no_answer = i.journal; no_job = i.steps; no_count = i.counts; no_step = refl; no_row = h.0 }) h.1
    (i.work ∙ stop_is c.stop_of.result c.in-Err.status c.stop_of.ensures.status c.stop_of.ensures.paths c.stop_of.ensures.note)

pub returns-in-Err-clause-keeper : goal.returns-in-Err-clause-keeper
returns-in-Err-clause-keeper g c =
    let v = keeper_view (g.K.Keeper.kept c.args.keeper.now) (g.K.Keeper.path c.args.keeper.now) (g.K.Keeper.faults c.args.keeper.now) in
    let n = c.rows_of.new.keeper in
    inr (c.in-Some.path, c.in-Some.is, stopped_on c.in-Some.path v (keeper_view (g.K.Keeper.kept n) (g.K.Keeper.path n) (g.K.Keeper.faults n)) c.in-Err.status c.in-Err.ensures.value.1)
