use Rattle.workflow_cli.proofs.Loaded.{fits_start, starts, starved_start}
use Rattle.workflow_cli.proofs.load.load_start.Goals as goal

pub returns-in_default-clause-outcome : goal.returns-in_default-clause-outcome
returns-in_default-clause-outcome c = starved_start c.args.number c.stop_of.result c.stop_of.ensures.status

pub returns-clause-outcome : goal.returns-clause-outcome
returns-clause-outcome c =
    let e = c.in-Ok.ensures in
    starts c.args.number _ _ _ _ _ c.start_of.result e.files e.fails e.file c.start_of.ensures.outcome

pub returns-clause-fitting : goal.returns-clause-fitting
returns-clause-fitting c =
    let e = c.in-Ok.ensures in
    fits_start c.args.number c.start_of.result (starts c.args.number _ _ _ _ _ c.start_of.result e.files e.fails e.file c.start_of.ensures.outcome)
