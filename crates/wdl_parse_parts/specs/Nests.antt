-- A function value that reads values of metadata to a depth.
use Rattle.std.specs.Prelude.{ℕ, Result}
use Rattle.std.specs.declared.alloc.Global.{Global}
use denote.Ref.{MutBor}
use Rattle.wdl_ast.specs.declared.meta.MetaValue.{MetaValue}
use Rattle.wdl_ast.specs.Words.{Words}
use Rattle.token_reading.specs.declared.fault.RuleStop.{RuleStop}
use Rattle.token_reading.specs.Outcome.{Reads}
use Rattle.wdl_parse_parts.specs.Reading.Metadata.{meta_at}

pub record Nests (depth : ℕ) (pre : Global → MutBor Words → ℕ → Type 0)
    (post : Global → MutBor Words → ℕ → Result MetaValue RuleStop → MutBor Words → Type 0) : Type 0 where
  pub callable : (alloc : Global) (old : MutBor Words) → pre alloc old depth
  pub reads : (alloc : Global) (old new : MutBor Words) (r : Result MetaValue RuleStop) → post alloc old depth r new
      → Reads (meta_at depth old.now) r new.now
