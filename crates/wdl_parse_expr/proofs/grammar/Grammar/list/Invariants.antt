use Rattle.std.proofs.Common.{◌≡◌, ◌-◌}
use Rattle.wdl_parse_expr.specs.Reading.{list_of, list_from}
use Rattle.wdl_parse_expr.proofs.grammar.Grammar.list.Given as goal

abbrev pub invariant-loop-turn : goal.invariant-loop-turn
invariant-loop-turn g l = list_of (g.E.Element.reading l.self.depth) l.close l.fn.tokens ≡ list_from (g.E.Element.reading l.self.depth) l.close (l._turn-end - l._turn) l.items l.inside l.tokens
