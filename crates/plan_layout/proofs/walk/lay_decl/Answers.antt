use Rattle.std.proofs.lemmas.Result.{IfOk-weaker}
use Rattle.wdl_flow.specs.Views.{given_of}
use Rattle.plan_layout.specs.declared.layout.StatementLayout.{StatementLayout}
use Rattle.plan_layout.specs.Steps.{Settles}
use Rattle.plan_layout.proofs.Parts.{lays_decl}
use Rattle.plan_layout.proofs.walk.lay_decl.Goals as goal

pub returns : goal.returns
returns c =
    let settled = λ (l : StatementLayout). Settles c.in_ok-needs.needs c.new.result 0 c.args.next.now.name 0 (given_of c.in_ok-given.given) c.args.scope.now c.args.next.now c.settle.new.scope c.settle.new.next l in
    IfOk-weaker c.settle.result settled _ (λ l p.
    lays_decl c.args.origin.now c.args.index c.args.scope.now c.settle.new.scope c.args.next.now c.settle.new.next l c.in_ok-needs.needs c.new.result (given_of c.in_ok-given.given) c.args.decl.now c.args.bodies.now p
    c.in_ok-given.ensures c.in_ok-needs.ensures c.new.ensures)
    c.settle.ensures
