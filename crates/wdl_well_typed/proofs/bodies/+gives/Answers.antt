use Rattle.std.proofs.Common.{◌≡◌, ◌+◌, Option, IsSome, IfOk, option_map, drop, ap, subst, sym, ◌∙◌, refl}
use Rattle.wdl_typed.specs.declared.flow.Statement.{Statement, Statement-F, fold_out-Statement, map-Statement}
use Rattle.wdl_typed.specs.declared.flow.Statement.TheVariants as stmt
use Rattle.wdl_typed.specs.Bodies.{Giving, Seen, body_gives, gives, joined, statement_step}
use Rattle.wdl_well_typed.specs.Blocks.{if_gives}
use Rattle.wdl_well_typed.specs.Calls.{library_of}
use Rattle.wdl_well_typed.specs.Given.{given, seen}
use Rattle.wdl_well_typed.specs.declared.given.YieldedTypes.{YieldedTypes}
use Rattle.wdl_well_typed.proofs.GivenLemmas.{body_goes}
use Rattle.wdl_well_typed.proofs.ListLemmas.{drop_item}
use Rattle.wdl_well_typed.proofs.bodies.+gives.Goals as goal

pub body_gives-loop-statement-preserved : goal.body_gives-loop-statement-preserved
body_gives-loop-statement-preserved t c =
    body_goes (library_of c.args.library.now) c.statement-item.result (drop (c.loop-statement.statement-index + 1) c.args.body.now) (drop c.loop-statement.statement-index c.args.body.now)
    (seen c.args.scope.now) (seen c.loop-statement.scope) (seen c.enter.new.self) (given c.loop-statement.given) (given c.in-Some.more) (given c.append.new.self)
    (body_gives (library_of c.args.library.now) c.args.body.now (seen c.args.scope.now))
    (drop_item c.args.body.now c.loop-statement.statement-index c.statement-item.result c.loop-statement-test.true c.statement-item.is)
    (sym c.in_ok-more.ensures.gives ∙ ap (option_map given) c.in-Some.is)
    (c.in_ok-enter.ensures
    ∙ ap (λ z. joined z (given c.in-Some.more)) (c.in_ok-more.ensures.kept (subst (λ (o : Option YieldedTypes). IsSome o) (sym c.in-Some.is) refl)))
    c.in_ok-append.ensures c.loop-statement.invariant.0 c.loop-statement.invariant.1

pub statement_gives-returns-in-If-clause-gives : goal.statement_gives-returns-in-If-clause-gives
statement_gives-returns-in-If-clause-gives t c =
    subst (λ (z : Option Seen). IfOk c.if_gives.result (λ (g : Option YieldedTypes). option_map given g ≡ z))
    (ap (λ ss. if_gives (library_of c.args.library.now) ss c.in-If.i.cond (seen c.args.scope.now)) c.as_slice-in-If.ensures
    ∙ sym (ap (λ (s : Statement). gives (library_of c.args.library.now) s (seen c.args.scope.now)) c.in-If.is
    ∙ ap (λ (f : Giving). f (seen c.args.scope.now)) (fold_out-Statement Giving (statement_step (library_of c.args.library.now)) (stmt.If c.in-If.i))
    ∙ ap (λ (y : Statement-F Statement). statement_step (library_of c.args.library.now) (map-Statement Statement Giving (gives (library_of c.args.library.now)) y) (seen c.args.scope.now)) (stmt.outs-If c.in-If.i)))
    c.if_gives.ensures.gives
