-- Reads statements. Blocks are read turn by turn, with a list of those that are open.
use Rattle.std.specs.Prelude.{ℕ, zero, suc, List, [], ◌∷◌, ◌++◌, length, Ok, codes}
use Rattle.wdl_base.specs.declared.span.Span.{Span}
use Rattle.wdl_ast.specs.declared.token.Mark.TheVariants as mark
use Rattle.wdl_ast.specs.declared.workflow.Statement.{Statement}
use Rattle.wdl_ast.specs.declared.workflow.Statement.TheVariants as st
use Rattle.wdl_ast.specs.Words.{Words}
use Rattle.token_reading.specs.Outcome.{Outcome, Parser, missing, then_, found, eat, eat_word, one_more}
use Rattle.wdl_parse_parts.specs.declared.heads.BlockHead.{BlockHead}
use Rattle.wdl_parse_doc.specs.declared.block.OpenBlock.{OpenBlock}
use Rattle.wdl_parse_doc.specs.declared.block.Block.{Block}
use Rattle.wdl_parse_doc.specs.declared.block.Turn.{Turn}
use Rattle.wdl_parse_doc.specs.declared.block.Turn.TheVariants as turn
use Rattle.wdl_parse_parts.specs.Reading.Declarations.{declaration}
use Rattle.wdl_parse_doc.specs.Reading.Calls.{call}
use Rattle.wdl_parse_parts.specs.Reading.Heads.{head_at, closed}

-- a call or a declaration
unfoldable pub simple : Parser Statement
simple ts = found (eat_word (codes "call") ts) (λ k rest. then_ (call k rest) (λ c more. Ok (st.Call c, more)))
    (then_ (declaration ts) (λ d rest. Ok (st.Declaration d, rest)))

abbrev pub block_of : List OpenBlock → BlockHead → List Statement → Block
block_of open_ h xs = record { around = open_; head = h; body = xs }

-- the block that was closed stands behind the others of the block around it, or it was the outermost one
abbrev pub closing : List OpenBlock → Statement → Turn
closing [] s = turn.Done s
closing (o ∷ below) s = turn.Going (block_of below o.head (o.before ++ s ∷ []))

-- a block that begins in the body of another one
unfoldable pub opened : Block → BlockHead → Turn
opened b h = turn.Going (block_of (record { head = b.head; before = b.body } ∷ b.around) h [])

-- one more statement of the body
unfoldable pub longer : Block → Statement → Turn
longer b s = turn.Going (block_of b.around b.head (b.body ++ s ∷ []))

-- the body ends
unfoldable pub ended : Block → Span → Turn
ended b c = closing b.around (closed b.head b.body c)

-- what a turn reads that is no end of a block: a head, or a statement
unfoldable pub opening : Block → Parser Turn
opening b ts = then_ (head_at ts) (λ h rest. one_more h (λ h. Ok (opened b h, rest)) (then_ (simple rest) (λ s more. Ok (longer b s, more))))

unfoldable pub turn_at : Block → Parser Turn
turn_at b ts = found (eat mark.CloseBrace ts) (λ c rest. Ok (ended b c, rest)) (opening b ts)

abbrev pub after_turn : Turn → (Block → Outcome Statement) → Words → Outcome Statement
after_turn (turn.Done s) f ts = Ok (s, ts)
after_turn (turn.Going b) f ts = f b

-- turn after turn, up to the end of the outermost block; the number bounds the turns, each of which takes a token
unfoldable pub turns_from : ℕ → Block → Parser Statement
turns_from zero b ts = missing
turns_from (suc n) b ts = then_ (turn_at b ts) (λ t rest. after_turn t (λ b. turns_from n b rest) rest)

unfoldable pub block_at : BlockHead → Parser Statement
block_at h ts = turns_from (length ts) (block_of [] h []) ts

unfoldable pub statement : Parser Statement
statement ts = then_ (head_at ts) (λ h rest. one_more h (λ h. block_at h rest) (simple rest))
