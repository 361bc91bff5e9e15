-- Where an expression stands, and which name it is.
use Rattle.std.specs.Prelude.{ℕ, List, Option, Some, None}
use Rattle.wdl_base.specs.declared.span.Span.{Span}
use Rattle.wdl_ast.specs.declared.expr.Expr.{Expr, Expr-F, fold-Expr, out-Expr}
use Rattle.wdl_ast.specs.declared.expr.Expr.TheOpen as layer

-- from the first byte of the one to the last byte of the other
abbrev pub joined : Span → Span → Span
joined a b = record { doc = a.doc; start = a.start; end = b.end }

abbrev pub span_step : Expr-F Span → Span
span_step (layer.If i c t a e r) = joined i r
span_step (layer.Binary l o s r) = joined l r
span_step (layer.Unary o s x) = joined s x
span_step (layer.Member x dot n) = joined x n.span
span_step (layer.Index x o i c) = joined x c
span_step (layer.True s) = s
span_step (layer.False s) = s
span_step (layer.None s) = s
span_step (layer.Int n s) = s
span_step (layer.Str s) = joined s.opening s.closing
span_step (layer.Name n) = n.span
span_step (layer.Call n o items c) = joined n.span c
span_step (layer.Group o x c) = joined o c
span_step (layer.Pair o l m r c) = joined o c
span_step (layer.List o items c) = joined o c
span_step (layer.Map o entries c) = joined o c
span_step (layer.Struct n o members c) = joined n.span c

-- from the first token to the last one
abbrev pub span_of : Expr → Span
span_of = fold-Expr Span span_step

-- only a name without parentheses is one
abbrev pub name_at : {A : Type 0} → Expr-F A → Option (List ℕ)
name_at (layer.Name n) = Some n.name
name_at x = None

abbrev pub name_of : Expr → Option (List ℕ)
name_of e = name_at (out-Expr e)
