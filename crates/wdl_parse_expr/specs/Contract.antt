-- What the readers of expressions and types answer, by the grammar alone.
use Rattle.std.specs.Prelude.{◌≡◌, ◌⊎◌, ℕ, Bool, true, false, ◌||◌, nat_lt, List, [], ◌∷◌, Option, Some, None, Result, Ok, Err}
use Rattle.std.specs.List.{Contains}
use Rattle.wdl_base.specs.declared.span.Span.{Span}
use Rattle.wdl_ast.specs.declared.token.Mark.{Mark}
use Rattle.wdl_ast.specs.declared.token.Mark.TheVariants as mark
use Rattle.wdl_ast.specs.declared.token.Kind.{Kind}
use Rattle.wdl_ast.specs.declared.token.Kind.TheVariants as kind
use Rattle.wdl_ast.specs.declared.token.Token.{Token}
use Rattle.wdl_ast.specs.declared.string.StringPart.{StringPart}
use Rattle.wdl_ast.specs.declared.expr.BinaryOperator.{BinaryOperator}
use Rattle.wdl_ast.specs.declared.expr.Expr.{Expr}
use Rattle.wdl_ast.specs.declared.type_tree.TypeTree.{TypeTree}
use Rattle.wdl_ast.specs.Words.{Words}
use Rattle.token_reading.specs.declared.fault.ParseFault.{ParseFault}
use Rattle.token_reading.specs.declared.fault.ParseFault.TheVariants as fault
use Rattle.token_reading.specs.declared.fault.Refusal.TheVariants as refusal
use Rattle.token_reading.specs.declared.fault.RuleStop.{RuleStop}
use Rattle.token_reading.specs.declared.fault.RuleStop.TheVariants as stop
use Rattle.token_reading.specs.declared.tall.Rule.TheVariants as rule
use Rattle.token_reading.specs.Outcome.{Parser, then_}
use Rattle.token_reading.specs.Operators.{looseness, binary_of}
use Rattle.wdl_parse_expr.specs.Grammar.{max_depth}
use Rattle.token_reading.specs.TypeGrammar.{max_type_depth}
use Rattle.wdl_parse_expr.specs.Reading.{parts, expr}
use Rattle.token_reading.specs.TypeReading.{type_at}

-- ---- where a tree may go on

abbrev pub is_suffix : Mark → Bool
is_suffix mark.Dot = true
is_suffix mark.OpenBracket = true
is_suffix mark.OpenParen = true
is_suffix mark.OpenBrace = true
is_suffix _ = false

abbrev pub is_below : ℕ → Option BinaryOperator → Bool
is_below k (Some o) = nat_lt (looseness o) k
is_below k None = false

-- whether a token right behind a derivation of rule k can belong to a longer one
abbrev pub goes_on : ℕ → Kind → Bool
goes_on k (kind.Mark m) = is_suffix m || is_below k (binary_of m)
goes_on k _ = false

abbrev pub continues : ℕ → Words → Bool
continues k [] = false
continues k (t ∷ ts) = goes_on k t.kind

-- behind an expression: `.`, an opening bracket, or an operator
abbrev pub expr_continues : Words → Bool
expr_continues = continues 6

abbrev pub is_type_mark : Kind → Bool
is_type_mark (kind.Mark mark.Question) = true
is_type_mark (kind.Mark mark.Plus) = true
is_type_mark _ = false

-- behind a type: `?` or `+`
abbrev pub type_continues : Words → Bool
type_continues [] = false
type_continues (t ∷ ts) = is_type_mark t.kind

-- ---- refusals

-- one of the tokens has that span
abbrev pub IsSpanOf : Words → Span → Type 0
IsSpanOf ts s = (t : Token) × Contains ts t × (t.span ≡ s)

-- the same, where there are any
abbrev pub IsPlaced : Words → Span → Type 0
IsPlaced ts s = (ts ≡ []) ⊎ IsSpanOf ts s

abbrev pub IfBad : {A : Type 0} → (ℕ → Span → Type 0) → Result A ParseFault → Type 0
IfBad P (Ok a) = Unit {0}
IfBad P (Err fault.NoMemory) = Unit {0}
IfBad P (Err (fault.Bad c s)) = P c s

-- ---- the readers as functions, for whoever reads what such trees are parts of

unfoldable pub read_expr : Parser Expr
read_expr ts = then_ (expr max_depth rule.Expr ts) (λ x rest. Ok (x.tree, rest))

unfoldable pub read_type : Parser TypeTree
read_type = type_at max_type_depth

-- the parts of a command, up to its end
unfoldable pub read_parts : Parser (List (StringPart Expr))
read_parts ts = then_ (parts (expr max_depth) ts) (λ x rest. Ok (x.tree, rest))

-- what a refusal of reading these tokens is to the caller
abbrev pub FaultOf : Words → RuleStop → ParseFault → Type 0
FaultOf ts stop.NoMemory f = f ≡ fault.NoMemory
FaultOf ts (stop.Refused refusal.Missing) f = (s : Span) × (f ≡ fault.Bad 110 s) × IsPlaced ts s
FaultOf ts (stop.Refused (refusal.Bad b)) f = f ≡ fault.Bad b.code b.span
