-- Reads heads of blocks, behind their words.
use Rattle.std.specs.Prelude.{List, Option, Some, None, Ok, codes}
use Rattle.wdl_base.specs.declared.span.Span.{Span}
use Rattle.wdl_ast.specs.declared.token.Mark.TheVariants as mark
use Rattle.wdl_ast.specs.declared.workflow.Scatter.{Scatter}
use Rattle.wdl_ast.specs.declared.workflow.Conditional.{Conditional}
use Rattle.wdl_ast.specs.declared.workflow.Statement.{Statement}
use Rattle.wdl_ast.specs.declared.workflow.Statement.TheVariants as st
use Rattle.token_reading.specs.Outcome.{Outcome, Parser, then_, found, eat_word}
use Rattle.wdl_parse_expr.specs.Contract.{read_expr}
use Rattle.wdl_parse_parts.specs.declared.heads.ScatterHead.{ScatterHead}
use Rattle.wdl_parse_parts.specs.declared.heads.ConditionalHead.{ConditionalHead}
use Rattle.wdl_parse_parts.specs.declared.heads.BlockHead.{BlockHead}
use Rattle.wdl_parse_parts.specs.declared.heads.BlockHead.TheVariants as head
use Rattle.wdl_parse_parts.specs.Reading.Parts.{mark_at, word_at, name_at}

unfoldable pub scatter_head : Span → Parser BlockHead
scatter_head k ts = then_ (mark_at mark.OpenParen ts) (λ p a. then_ (name_at a) (λ n b. then_ (word_at (codes "in") b) (λ i c. then_ (read_expr c) (λ x d.
    then_ (mark_at mark.CloseParen d) (λ q e. then_ (mark_at mark.OpenBrace e) (λ o f.
    Ok (head.Scatter (record { keyword = k; opening_paren = p; item = n; in_word = i; over = x; closing_paren = q; opening = o }), f)))))))

unfoldable pub conditional_head : Span → Parser BlockHead
conditional_head k ts = then_ (mark_at mark.OpenParen ts) (λ p a. then_ (read_expr a) (λ x b. then_ (mark_at mark.CloseParen b) (λ q c. then_ (mark_at mark.OpenBrace c) (λ o d.
    Ok (head.Conditional (record { keyword = k; opening_paren = p; condition = x; closing_paren = q; opening = o }), d)))))

abbrev pub there : {A : Type 0} → Outcome A → Outcome (Option A)
there o = then_ o (λ x rest. Ok (Some x, rest))

-- the head of a block, if one stands there
unfoldable pub head_at : Parser (Option BlockHead)
head_at ts = found (eat_word (codes "scatter") ts) (λ k rest. there (scatter_head k rest))
    (found (eat_word (codes "if") ts) (λ k rest. there (conditional_head k rest))
    (Ok (None, ts)))

abbrev pub closed_scatter : ScatterHead → List Statement → Span → Scatter Statement
closed_scatter h xs c = record { keyword = h.keyword; opening_paren = h.opening_paren; item = h.item; in_word = h.in_word; over = h.over; closing_paren = h.closing_paren; opening = h.opening; body = xs; closing = c }

abbrev pub closed_conditional : ConditionalHead → List Statement → Span → Conditional Statement
closed_conditional h xs c = record { keyword = h.keyword; opening_paren = h.opening_paren; condition = h.condition; closing_paren = h.closing_paren; opening = h.opening; body = xs; closing = c }

-- the block of a head
abbrev pub closed : BlockHead → List Statement → Span → Statement
closed (head.Scatter h) xs c = st.Scatter (closed_scatter h xs c)
closed (head.Conditional h) xs c = st.Conditional (closed_conditional h xs c)
