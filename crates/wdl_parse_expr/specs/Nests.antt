-- A function value that reads expressions to a depth.
use Rattle.std.specs.Prelude.{ℕ, ◌<◌, Result}
use Rattle.std.specs.declared.alloc.Global.{Global}
use denote.Ref.{MutBor}
use Rattle.wdl_ast.specs.declared.expr.Expr.{Expr}
use Rattle.wdl_ast.specs.Words.{Words}
use Rattle.token_reading.specs.declared.fault.RuleStop.{RuleStop}
use Rattle.token_reading.specs.declared.tall.Tall.{Tall}
use Rattle.token_reading.specs.declared.tall.Rule.{Rule}
use Rattle.token_reading.specs.Outcome.{Reads}
use Rattle.wdl_parse_expr.specs.Reading.{expr}

pub record Nests (depth : ℕ) (pre : Global → MutBor Words → ℕ → Rule → Type 0)
    (post : Global → MutBor Words → ℕ → Rule → Result (Tall Expr) RuleStop → MutBor Words → Type 0) : Type 0 where
  pub room : depth < 18446744073709551615
  pub callable : (alloc : Global) (old : MutBor Words) (k : Rule) → pre alloc old depth k
  pub reads : (alloc : Global) (old new : MutBor Words) (k : Rule) (r : Result (Tall Expr) RuleStop) → post alloc old depth k r new
      → Reads (expr depth k old.now) r new.now
