-- The numbers of blocks: those of one kind are counted in the order of the text.
use Rattle.std.specs.Prelude.{ℕ, ◌+◌, List, [], ◌∷◌}
use Rattle.wdl_ast.specs.declared.workflow.Statement.{Statement, Statement-F, out-Statement}
use Rattle.wdl_ast.specs.declared.workflow.Statement.TheOpen as layer
use Rattle.wdl_check_flow.specs.declared.numbers.Counts.{Counts}

abbrev pub number_at : {A : Type 0} → Statement-F A → Counts → ℕ
number_at (layer.Scatter s) c = c.scatters
number_at (layer.Conditional i) c = c.conditions
number_at y c = 0

abbrev pub counted : {A : Type 0} → Statement-F A → Counts → Counts
counted (layer.Scatter s) c = record { scatters = c.scatters + 1; conditions = c.conditions }
counted (layer.Conditional i) c = record { scatters = c.scatters; conditions = c.conditions + 1 }
counted y c = c

-- after so many blocks
abbrev pub numbers_after : Counts → List Statement → List ℕ
numbers_after c [] = []
numbers_after c (s ∷ ss) = number_at (out-Statement s) c ∷ numbers_after (counted (out-Statement s) c) ss

-- the numbers of the statements of a body; that of a statement that is no block is 0
abbrev pub numbers_of : List Statement → List ℕ
numbers_of = numbers_after (record { scatters = 0; conditions = 0 })
