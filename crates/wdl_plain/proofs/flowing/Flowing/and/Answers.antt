use Rattle.std.proofs.Common.{subst}
use Rattle.wdl_typed.specs.Flow.{Flowing}
use Rattle.wdl_plain.specs.Flows.{Flows}
use Rattle.wdl_plain.proofs.Turns.{appended}
use Rattle.wdl_plain.proofs.flowing.Flowing.and.Goals as goal

pub returns : goal.returns
returns c =
    subst (λ (f : Flowing). Flows f c.within.result)
    (appended c.args.self c.args.more c.append.new.self c.append-2.new.self c.append-3.new.self c.append-4.new.self c.append-5.new.self
    c.in_ok-append.ensures c.in_ok-append-2.ensures c.in_ok-append-3.ensures c.in_ok-append-4.ensures c.in_ok-append-5.ensures)
    c.within.ensures
