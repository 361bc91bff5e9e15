use Rattle.std.proofs.Common.{◌≡◌, ◌-◌, ◌*◌, suc}
use Rattle.wdl_parse_expr.specs.Reading.{expr, rule_at, operation, turns}
use Rattle.wdl_parse_expr.proofs.grammar.Grammar.+rules.Given as goal

abbrev pub decreases-rule : goal.decreases-rule
decreases-rule g l = 2 * l.k

abbrev pub decreases-operation : goal.decreases-operation
decreases-operation g l = suc (2 * l.k)

abbrev pub invariant-rule-loop-turn : goal.invariant-rule-loop-turn
invariant-rule-loop-turn g l = rule_at l.self.depth (expr l.self.depth) l.k l.fn.tokens ≡ turns (operation l.self.depth (expr l.self.depth) (rule_at l.self.depth (expr l.self.depth) (l.k - 1)) (l.k - 1)) (l._turn-end - l._turn) l.chain l.tokens
