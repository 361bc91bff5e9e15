use Rattle.std.proofs.Common.{◌∙◌}
use Rattle.wdl_port.specs.Causes.{Rose}
use Rattle.workflow_stages.proofs.Started.{checked_in, is_numbered, given_before, main_prepare, stops_before}
use Rattle.workflow_stages.proofs.prepare.start_of.Goals as goal
use Rattle.wdl_sources.proofs.TakeLemmas.{rose_later}

pub returns-in-Err-clause-outcome : goal.returns-in-Err-clause-outcome
returns-in-Err-clause-outcome g c = main_prepare _ _ _ _ c.args.inputs.now c.in-Err.stop.status c.in-Err.stop.paths c.in-Err.ensures.outcome

pub given_in-requires : goal.given_in-requires
given_in-requires g c = let m = c.in-Ok.ensures.outcome in record { main = is_numbered _ m.0 m.2.numbered }

pub returns-in-Ok-given_in-clause-outcome : goal.returns-in-Ok-given_in-clause-outcome
returns-in-Ok-given_in-clause-outcome g c =
    let m = c.in-Ok.ensures.outcome in
    let l = c.in-Ok.located in
    let has = checked_in _ _ l.checked l.paths m.2.located in (
      record {
        has = has;
        fits = given_before (g.F.Shelf.tells c.args.shelf.now) (g.F.Shelf.refuses c.args.shelf.now) (Rose (g.F.Shelf.faults c.args.shelf.now) (g.F.Shelf.faults c.given_in.new.shelf)) c.args.file.now c.args.inputs.now l.checked has (g.F.Shelf.tells c.main_of.new.shelf) c.main_of.ensures.same_files c.in-Ok-given_in.given (c.in-Ok-given_in.ensures.value m.1 m.2.main);
      },
      m,
    )

pub returns-in-Err-given_in-clause-outcome : goal.returns-in-Err-given_in-clause-outcome
returns-in-Err-given_in-clause-outcome g c =
    let m = c.in-Ok.ensures.outcome in
    let l = c.in-Ok.located in
    rw c.unfit.ensures.status
    (stops_before (g.F.Shelf.tells c.args.shelf.now) (g.F.Shelf.refuses c.args.shelf.now) (Rose (g.F.Shelf.faults c.args.shelf.now) (g.F.Shelf.faults c.given_in.new.shelf))
    c.args.file.now c.args.inputs.now l.checked (checked_in _ _ l.checked l.paths m.2.located) (g.F.Shelf.tells c.main_of.new.shelf) c.main_of.ensures.same_files m.1 m.2.main
    (g.F.Shelf.refuses c.main_of.new.shelf) (Rose (g.F.Shelf.faults c.main_of.new.shelf) (g.F.Shelf.faults c.given_in.new.shelf))
    (λ p h. (c.main_of.ensures.same_refusals p).0 h) (rose_later _ _ _ c.main_of.ensures.later)
    c.in-Err-given_in.status c.unfit.result.paths (c.in-Err-given_in.ensures.value m.1 m.2.main))

pub returns-in-Ok-given_in-clause-counted : goal.returns-in-Ok-given_in-clause-counted
returns-in-Ok-given_in-clause-counted g c = c.in-Ok-given_in.ensures.counted ∙ c.in-Ok.ensures.counted

pub returns-in-Err-given_in-clause-counted : goal.returns-in-Err-given_in-clause-counted
returns-in-Err-given_in-clause-counted g c = rw c.unfit.ensures.status (λ read. c.in-Err-given_in.ensures.counted read ∙ c.in-Ok.ensures.counted)
