use Rattle.std.proofs.Common.{subst}
use Rattle.run_keeper.specs.RowText.{IsRowOf}
use Rattle.library_calls.proofs.migration.renewed.Goals as goal

pub returns-clause-row : goal.returns-clause-row
returns-clause-row c =
    let entry = c.in_ok-entry.entry in
    (entry, subst (λ s. IsRowOf s entry) c.as_str.ensures.value c.in_ok-entry.ensures.row, c.in_ok-row_text.ensures.value)
