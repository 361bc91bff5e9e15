-- What is answered for the expression or type that starts at a place, by the grammar alone.
use Rattle.std.specs.Prelude.{◌≡◌, ◌⊎◌, ◌<◌, ℕ, true, [], ◌++◌, length}
use Rattle.wdl_base.specs.declared.span.Span.{Span}
use Rattle.wdl_ast.specs.declared.expr.Expr.{Expr}
use Rattle.wdl_ast.specs.Words.{Words, words, type_words}
use Rattle.token_reading.specs.TypeGrammar.{IsType}
use Rattle.wdl_parse_expr.specs.Context.{Part, an_expr, Points, ExprCause, TypeCause}
use Rattle.wdl_parse_expr.specs.Contract.{IsPlaced, expr_continues}
use Rattle.wdl_parse_expr.specs.Grammar.{max_depth, IsExpr}

-- ---- what stands at the front of the tokens

-- Is says which trees are sound, and spelled gives their tokens
module _ {A : Type 0} (Is : A → Type 0) (spelled : A → Words) where
  pub record Fronts (ts : Words) (x : A) (tail : Words) : Type 0 where
    pub text : ts ≡ spelled x ++ tail
    pub sound : Is x

  -- there is no other one, but for shorter ones
  abbrev pub IsLongest : Words → A → Words → Type 0
  IsLongest ts x tail = (y : A) (rest : Words) → Fronts ts y rest → ((y ≡ x) × (rest ≡ tail)) ⊎ (length tail < length rest)

  -- none stands there
  abbrev pub StartsNone : Words → Type 0
  StartsNone ts = (y : A) (rest : Words) → Fronts ts y rest → ⊥

abbrev pub FrontsExpr : Words → Expr → Words → Type 0
FrontsExpr = Fronts IsExpr words

-- each expression that stands there may go on
abbrev pub MayGoOn : Words → Type 0
MayGoOn ts = (y : Expr) (rest : Words) → FrontsExpr ts y rest → expr_continues rest ≡ true

-- ---- refusals

-- the whole is the expression, or the type
abbrev pub AtStart : Part → Words → Type 0
AtStart p ws = (p ≡ an_expr) × (ws ≡ [])

abbrev pub AtFront : Words → Type 0
AtFront ws = ws ≡ []

-- Of all the tokens, those of the second list stand behind the place. 110, at one of the tokens, where no expression starts there; else the code is
-- true of its token, and each expression that starts there may go on.
abbrev pub RefusesExpr : Words → Words → ℕ → Span → Type 0
RefusesExpr all ts c s = ((c ≡ 110) × IsPlaced all s × StartsNone IsExpr words ts) ⊎ (Points (ExprCause max_depth AtStart c) ts s × MayGoOn ts)

-- no type starts there; 110 is said of one of the tokens, and any other code is true of its token
abbrev pub RefusesType : Words → Words → ℕ → Span → Type 0
RefusesType all ts c s = (((c ≡ 110) × IsPlaced all s) ⊎ Points (TypeCause AtFront c) ts s) × StartsNone IsType type_words ts
