use Rattle.std.proofs.Common.{◌≡◌, ◌-◌}
use Rattle.wdl_ast.specs.declared.token.Mark.TheVariants as mark
use Rattle.wdl_parse_parts.specs.Reading.Parts.{many, many_from, until, item}
use Rattle.wdl_parse_parts.specs.Reading.Metadata.{meta_at}
use Rattle.wdl_parse_parts.proofs.metadata.MetaReader.items.Given as goal

abbrev pub invariant-loop-turn : goal.invariant-loop-turn
invariant-loop-turn g l = many (until mark.CloseBracket (item (meta_at l.self.depth))) l.fn.tokens ≡ many_from (until mark.CloseBracket (item (meta_at l.self.depth))) (l._turn-end - l._turn) l.items l.tokens
