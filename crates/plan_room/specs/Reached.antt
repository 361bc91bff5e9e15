-- The cells of needs are cells of the net.
use Rattle.std.specs.Prelude.{ℕ, ◌+◌, ◌<◌, ◌≤◌, ◌^◌, List, [], ◌∷◌, ◌++◌, length}
use Rattle.std.specs.List.{All}
use Rattle.plan_layout.specs.declared.layout.BodyLayout.{BodyLayout}
use Rattle.plan_layout.specs.declared.layout.Need.{Need}
use Rattle.plan_layout.specs.declared.layout.StatementLayout.{StatementLayout}
use Rattle.plan_layout.specs.Cells.{cell_at}

-- The level is one of those round it, and the cell is one of so many.
pub record IsReached (count : ℕ) (bases : List ℕ) (n : Need) : Type 0 where
  pub level : n.level < length bases
  pub cell : cell_at bases n < count

abbrev pub AreReached : ℕ → List ℕ → List Need → Type 0
AreReached count bases needs = All (IsReached count bases) needs

-- all that a statement needs
pub record IsStatementReached (count : ℕ) (bases : List ℕ) (l : StatementLayout) : Type 0 where
  pub needs : AreReached count bases l.needs
  pub after : AreReached count bases l.after

abbrev pub AreStatementsReached : ℕ → List ℕ → List StatementLayout → Type 0
AreStatementsReached count bases ls = All (IsStatementReached count bases) ls

-- What the statements of a body need is there, wherever the cells of an instance begin behind so many cells.
pub record HasRoom (count : ℕ) (outer : List ℕ) (layout : BodyLayout) : Type 0 where
  pub reached : (first : ℕ) → count ≤ first → AreStatementsReached (first + layout.cells) (outer ++ first ∷ []) layout.statements

-- The cells that say that statements are done have numbers.
abbrev pub AreDonesNumbers : ℕ → List StatementLayout → Type 0
AreDonesNumbers first ls = All (λ (l : StatementLayout). first + l.done < 2 ^ 64) ls
