-- The operators that marks stand for.
use Rattle.std.specs.Prelude.{ℕ, ◌==◌, if◌then◌else◌, [], ◌∷◌, Option, Some, None}
use Rattle.wdl_base.specs.declared.span.Span.{Span}
use Rattle.wdl_ast.specs.declared.token.Mark.{Mark}
use Rattle.wdl_ast.specs.declared.token.Mark.TheVariants as mark
use Rattle.wdl_ast.specs.declared.token.Kind.{Kind}
use Rattle.wdl_ast.specs.declared.token.Kind.TheVariants as kind
use Rattle.wdl_ast.specs.declared.expr.BinaryOperator.{BinaryOperator}
use Rattle.wdl_ast.specs.declared.expr.BinaryOperator.TheVariants as op
use Rattle.wdl_ast.specs.declared.expr.UnaryOperator.{UnaryOperator}
use Rattle.wdl_ast.specs.declared.expr.UnaryOperator.TheVariants as pre
use Rattle.wdl_ast.specs.Words.{Words}

-- how loosely an operator binds
abbrev pub looseness : BinaryOperator → ℕ
looseness op.Multiply = 0
looseness op.Divide = 0
looseness op.Remainder = 0
looseness op.Add = 1
looseness op.Subtract = 1
looseness op.Less = 2
looseness op.LessEqual = 2
looseness op.Greater = 2
looseness op.GreaterEqual = 2
looseness op.Equal = 3
looseness op.NotEqual = 3
looseness op.And = 4
looseness op.Or = 5

abbrev pub binary_of : Mark → Option BinaryOperator
binary_of mark.Or = Some op.Or
binary_of mark.And = Some op.And
binary_of mark.Equal = Some op.Equal
binary_of mark.NotEqual = Some op.NotEqual
binary_of mark.Less = Some op.Less
binary_of mark.LessEqual = Some op.LessEqual
binary_of mark.Greater = Some op.Greater
binary_of mark.GreaterEqual = Some op.GreaterEqual
binary_of mark.Plus = Some op.Add
binary_of mark.Minus = Some op.Subtract
binary_of mark.Star = Some op.Multiply
binary_of mark.Slash = Some op.Divide
binary_of mark.Percent = Some op.Remainder
binary_of _ = None

abbrev pub unary_of : Mark → Option UnaryOperator
unary_of mark.Not = Some pre.Not
unary_of mark.Minus = Some pre.Negate
unary_of mark.Plus = Some pre.Plus
unary_of _ = None

-- ---- an operator between operands

abbrev pub leveled : ℕ → Option BinaryOperator → Span → Words → Option ((BinaryOperator × Span) × Words)
leveled k (Some o) s ts = if looseness o == k then Some ((o, s), ts) else None
leveled k None s ts = None

abbrev pub binary_from : ℕ → Kind → Span → Words → Option ((BinaryOperator × Span) × Words)
binary_from k (kind.Mark m) s ts = leveled k (binary_of m) s ts
binary_from k _ s ts = None

-- an operator that binds so loosely
abbrev pub binary_at : ℕ → Words → Option ((BinaryOperator × Span) × Words)
binary_at k [] = None
binary_at k (t ∷ ts) = binary_from k t.kind t.span ts

-- ---- an operator before an operand

abbrev pub signs : Option UnaryOperator → Span → Words → Option ((UnaryOperator × Span) × Words)
signs (Some o) s ts = Some ((o, s), ts)
signs None s ts = None

abbrev pub unary_from : Kind → Span → Words → Option ((UnaryOperator × Span) × Words)
unary_from (kind.Mark m) s ts = signs (unary_of m) s ts
unary_from _ s ts = None

abbrev pub unary_at : Words → Option ((UnaryOperator × Span) × Words)
unary_at [] = None
unary_at (t ∷ ts) = unary_from t.kind t.span ts
