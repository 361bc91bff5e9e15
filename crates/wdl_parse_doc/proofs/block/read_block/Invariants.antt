use Rattle.std.proofs.Common.{◌≡◌, ◌-◌}
use Rattle.wdl_parse_doc.specs.Reading.Blocks.{block_at, turns_from}
use Rattle.wdl_parse_doc.proofs.block.read_block.Given as goal

abbrev pub invariant-loop-turn : goal.invariant-loop-turn
invariant-loop-turn l = block_at l.fn.head l.fn.tokens ≡ turns_from (l._turn-end - l._turn) l.block l.tokens
