use Rattle.std.proofs.Common.{◌≡◌, ◌-◌}
use Rattle.wdl_parse_expr.specs.Reading.{expr, parts, parts_from}
use Rattle.wdl_parse_expr.proofs.grammar.Grammar.parts.Given as goal

abbrev pub invariant-loop-turn : goal.invariant-loop-turn
invariant-loop-turn g l = parts (expr l.self.depth) l.fn.tokens ≡ parts_from (expr l.self.depth) (l._turn-end - l._turn) l.parts l.inside l.tokens
