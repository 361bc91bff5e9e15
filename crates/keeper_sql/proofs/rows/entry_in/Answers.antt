use Rattle.std.proofs.Common.{ℕ, List, subst}
use Rattle.run_keeper.specs.RowText.{IsRowOf}
use Rattle.keeper_sql.proofs.rows.entry_in.Goals as goal

pub returns-then-from-row-clause-row : goal.returns-then-from-row-clause-row
returns-then-from-row-clause-row c = subst (λ (s : List ℕ). IsRowOf s c.in_ok-entry.entry) c.as_str.ensures.value c.in_ok-entry.ensures.row
