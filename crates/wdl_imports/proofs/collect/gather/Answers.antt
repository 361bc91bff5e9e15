use Rattle.std.proofs.Common.{◌≡◌, ℕ, List, Err, subst, arith}
use Rattle.wdl_port.specs.Causes.{Rose}
use Rattle.wdl_sources.specs.Walks as walks
use Rattle.wdl_imports.proofs.CollectLaws.{gathered, stopped}
use Rattle.wdl_imports.proofs.collect.gather.Goals as goal

pub returns-in_err-sources-clause-outcome : goal.returns-in_err-sources-clause-outcome
returns-in_err-sources-clause-outcome g c =
    let tells = g.F.Shelf.tells c.args.shelf.now in
    let refuses = g.F.Shelf.refuses c.args.shelf.now in
    let rose = Rose (g.F.Shelf.faults c.args.shelf.now) (g.F.Shelf.faults c.read_all.new.shelf) in
    let e = c.in_err-sources.field-0.0 in
    let gone : c.from_residual.result ≡ Err e = grind arith in
    rw gone (stopped tells refuses rose c.args.path.now e
    (subst (λ (root : List ℕ). walks.Gathers tells refuses rose root (Err e)) c.as_str.ensures.value c.in_err-sources.ensures.outcome))

pub returns-clause-outcome : goal.returns-clause-outcome
returns-clause-outcome g c =
    let tells = g.F.Shelf.tells c.args.shelf.now in
    let refuses = g.F.Shelf.refuses c.args.shelf.now in
    let rose = Rose (g.F.Shelf.faults c.args.shelf.now) (g.F.Shelf.faults c.read_all.new.shelf) in
    let ss = c.in_ok-sources.sources in
    gathered tells refuses rose c.args.path.now ss c.linked.result
    (subst (λ (root : List ℕ). walks.HasWhole tells root ss) c.as_str.ensures.value c.in_ok-sources.ensures.outcome.0) c.in_ok-sources.ensures.outcome.1 c.linked.ensures
