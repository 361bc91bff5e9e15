use Rattle.work_desk.proofs.run.run_all.Goals as goal

pub returns-in-Some-clause-run : goal.returns-in-Some-clause-run
returns-in-Some-clause-run g c = rw c.in-Some.is c.run_kept.ensures.run

pub returns-in-None-clause-run : goal.returns-in-None-clause-run
returns-in-None-clause-run g c = rw c.in-None.is c.run_kept-in-None.ensures.run

pub returns-in-Some-clause-keeper : goal.returns-in-Some-clause-keeper
returns-in-Some-clause-keeper g c = rw c.in-Some.is c.run_kept.ensures.keeper
