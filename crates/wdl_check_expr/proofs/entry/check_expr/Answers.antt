use Rattle.wdl_check_rules.specs.Scopes.{scope_of}
use Rattle.wdl_check_laws.proofs.Answered.{expr_answered}
use Rattle.wdl_check_expr.proofs.entry.check_expr.Goals as goal

pub returns : goal.returns
returns c = record { typing = expr_answered (scope_of c.args.scope.now) c.args.e.now c.check.result c.check.ensures }
