use Rattle.std.proofs.Common.{◌≡◌, ◌-◌}
use Rattle.wdl_parse_expr.specs.Reading.{expr, post, suffix, turns}
use Rattle.wdl_parse_expr.proofs.grammar.Grammar.post.Given as goal

abbrev pub invariant-loop-turn : goal.invariant-loop-turn
invariant-loop-turn g l = post l.self.depth (expr l.self.depth) l.fn.tokens ≡ turns (suffix l.self.depth (expr l.self.depth)) (l._turn-end - l._turn) l.chain l.tokens
