use Rattle.wdl_check_rules.specs.Scopes.{scope_of}
use Rattle.wdl_check_laws.proofs.Answered.{cast_answered}
use Rattle.wdl_check_expr.proofs.entry.check_as.Goals as goal

pub returns : goal.returns
returns c = record { typing = cast_answered (scope_of c.args.scope.now) c.args.e.now c.args.t.now c.check_to.result c.check_to.ensures }
