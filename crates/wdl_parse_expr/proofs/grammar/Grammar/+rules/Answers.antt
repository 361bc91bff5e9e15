use Rattle.std.proofs.Common.{◌-◌, Some, ◌∙◌, rules, arith}
use Rattle.std.proofs.lemmas.Grind.{common_steps}
use Rattle.token_reading.specs.Outcome.{then_}
use Rattle.wdl_parse_expr.specs.Reading.{expr, operation, rule_at, turns}
use Rattle.token_reading.proofs.Turns.{one_more, deeper}
use Rattle.token_reading.proofs.Steps.{then_is}
use Rattle.wdl_parse_expr.proofs.Told.{told_some}
use Rattle.wdl_parse_expr.proofs.grammar.Grammar.+rules.Goals as goal

pub rule-returns-in_err-rule : goal.rule-returns-in_err-rule
unfolding rule_at then_
rule-returns-in_err-rule g t c = rw (deeper (λ n. rule_at c.args.self.now.depth (expr c.args.self.now.depth) n c.args.tokens.now) c.args.k (omega arith)) (first_of (search rules, grind (arith, common_steps)))

pub rule-loop-turn-preserved : goal.rule-loop-turn-preserved
unfolding turns
rule-loop-turn-preserved g t c =
    let depth = c.args.self.now.depth in
    let next = operation depth (expr depth) (rule_at depth (expr depth) (c.args.k - 1)) (c.args.k - 1) in
    let e = one_more (λ n. turns next n c.loop-turn.chain c.loop-turn.tokens) _ c.loop-turn._turn c.loop-turn-test.true c.loop-turn.invariant in
    let f = told_some c.loop-turn.chain c.in_ok-longer.longer c.in_ok-longer.more (next c.loop-turn.chain c.loop-turn.tokens) c.operation.new.tokens c.in_ok-longer.ensures c.if-not-more.false in
    e ∙ then_is _ _ (Some c.in_ok-longer.longer, c.operation.new.tokens) f
