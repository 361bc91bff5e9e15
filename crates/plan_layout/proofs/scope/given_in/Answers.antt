use Rattle.wdl_flow.specs.Views.{given_of}
use Rattle.plan_layout.specs.Steps.{lib_of}
use Rattle.plan_layout.proofs.Names.{given_is}
use Rattle.plan_layout.proofs.scope.given_in.Goals as goal

pub returns : goal.returns
returns c = given_is (lib_of c.args.origin.now) c.args.body.now (given_of c.empty-given.result) (given_of c.add_body.new.self) c.empty-given.ensures c.in_ok-add_body.ensures
