use Rattle.std.proofs.Common.{subst}
use Rattle.token_reading.specs.Outcome.{Reads}
use Rattle.wdl_parse_expr.specs.Reading.{expr, call, call_by}
use Rattle.wdl_parse_expr.proofs.grammar.Grammar.call.Goals as goal

pub returns-in-None : goal.returns-in-None
unfolding call
returns-in-None g c =
    let depth = c.args.self.now.depth in
    subst (λ z. Reads (call_by depth (expr depth) z c.args.name c.args.opening c.args.tokens.now c.args.before.now) c.arguments.result c.arguments.new.tokens) c.in-None.ensures c.arguments.ensures
