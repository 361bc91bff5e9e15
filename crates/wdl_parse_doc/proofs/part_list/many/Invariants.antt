use Rattle.std.proofs.Common.{◌≡◌, ◌-◌}
use Rattle.wdl_parse_parts.specs.Reading.Parts.{many, many_from}
use Rattle.wdl_parse_doc.proofs.part_list.many.Given as goal

abbrev pub invariant-loop-turn : goal.invariant-loop-turn
invariant-loop-turn g l = many (g.P.Part.reading) l.fn.tokens ≡ many_from (g.P.Part.reading) (l._turn-end - l._turn) l.parts l.tokens
