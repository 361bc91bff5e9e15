use Rattle.std.proofs.Common.{◌≡◌, inl, inr, arith}
use Rattle.serde_json.specs.View.{view}
use Rattle.run_keeper.specs.RowText.{row_data, old_data}
use Rattle.run_keeper.proofs.RowLemmas.{new_text_read, old_text_read, readable, no_row}
use Rattle.run_keeper.proofs.read.entry_of.Goals as goal

pub returns-in_err-row-clause-reads : goal.returns-in_err-row-clause-reads
returns-in_err-row-clause-reads c = λ e is row. let some = readable c.args.s.now e is row in grind (arith, some)

pub returns-in_err-row-clause-refused : goal.returns-in_err-row-clause-refused
returns-in_err-row-clause-refused c = no_row c.args.s.now c.from_residual.result (returns-in_err-row-clause-reads c)

pub returns-clause-reads : goal.returns-clause-reads
returns-clause-reads c = λ e is row. elim row [
  | inl text ↦
      let some = new_text_read c.args.s.now e is text in
      let same : view c.in_ok-row.row ≡ row_data e = grind (arith, some) in
      c.entry_by_version.ensures.reads_new e is same text
  | inr old ↦
      let some = old_text_read c.args.s.now e is old.text in
      let same : view c.in_ok-row.row ≡ old_data e = grind (arith, some) in
      c.entry_by_version.ensures.reads_old e is same old
]

pub returns-clause-refused : goal.returns-clause-refused
returns-clause-refused c = no_row c.args.s.now c.entry_by_version.result (returns-clause-reads c)
