use Rattle.std.proofs.Common.{List, [], IfOk, subst}
use Rattle.wdl_typed.specs.Flow.{Names}
use Rattle.wdl_typed.specs.Scope.{names_of}
use Rattle.wdl_flow.specs.Views.{given_of}
use Rattle.plan_layout.specs.declared.layout.Need.{Need}
use Rattle.plan_layout.specs.declared.layout.StatementLayout.{StatementLayout}
use Rattle.plan_layout.specs.Spots.{needs_of}
use Rattle.plan_layout.specs.Steps.{Settles}
use Rattle.plan_layout.proofs.walk.settle_block.Goals as goal

pub returns : goal.returns
returns c =
    let settled = λ (needs after : List Need) (given : Names) (l : StatementLayout).
    Settles needs after c.args.inner c.args.next.now.done 1 given c.args.scope.now c.args.next.now c.settle.new.scope c.settle.new.next l in
    let needs_are : List Need = needs_of c.args.scope.now.names (names_of c.args.head.now) in
    subst (λ (given : Names). IfOk c.settle.result (settled needs_are [] given)) c.in_ok-given.ensures
    (subst (λ (after : List Need). IfOk c.settle.result (settled needs_are after (given_of c.in_ok-given.given))) c.new.ensures
    (subst (λ (needs : List Need). IfOk c.settle.result (settled needs c.new.result (given_of c.in_ok-given.given))) c.in_ok-needs.ensures c.settle.ensures))
