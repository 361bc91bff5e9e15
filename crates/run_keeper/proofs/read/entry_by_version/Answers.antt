use Rattle.std.proofs.Common.{sym, ap, subst, ◌∙◌, arith}
use Rattle.wdl_port.specs.Rows.{kept_row}
use Rattle.run_keeper.specs.Members.{HasAnswer, HasRequest}
use Rattle.run_keeper.specs.Reads.{Gives}
use Rattle.run_keeper.specs.RowText.{IsOldRow, row_text}
use Rattle.run_keeper.proofs.ListLemmas.{given_ok}
use Rattle.run_keeper.proofs.RowLemmas.{row_request, row_answer, old_request, old_answer, kept_text, kept_old}
use Rattle.run_keeper.proofs.read.entry_by_version.Goals as goal

pub returns-in_err-entry-clause-reads_new : goal.returns-in_err-entry-clause-reads_new
returns-in_err-entry-clause-reads_new c = λ e is same text.
    let request = subst (λ d. HasRequest d e.request) (sym same) (row_request e) in
    let answer = subst (λ d. HasAnswer d e.answer) (sym same) (row_answer e) in
    let given = c.in_err-entry.ensures.reads e is request answer in
    grind (arith, given)

pub returns-then-version-eq1-clause-reads_old : goal.returns-then-version-eq1-clause-reads_old
returns-then-version-eq1-clause-reads_old c = λ e is same old.
    let request = subst (λ d. HasRequest d e.request) (sym same) (old_request e old.first) in
    let answer = subst (λ d. HasAnswer d e.answer) (sym same) (old_answer e) in
    let entry = given_ok c.in_ok-entry.entry (kept_row e) (c.in_ok-entry.ensures.reads e is request answer) in
    subst (Gives c.old_row.result) entry (c.old_row.ensures.reads (subst (IsOldRow c.args.s.now) (sym entry) (kept_old c.args.s.now e old)))

pub returns-else-version-eq1-clause-reads_new : goal.returns-else-version-eq1-clause-reads_new
returns-else-version-eq1-clause-reads_new c = λ e is same text.
    let request = subst (λ d. HasRequest d e.request) (sym same) (row_request e) in
    let answer = subst (λ d. HasAnswer d e.answer) (sym same) (row_answer e) in
    let entry = given_ok c.in_ok-entry.entry (kept_row e) (c.in_ok-entry.ensures.reads e is request answer) in
    subst (Gives c.new_row.result) entry (c.new_row.ensures.reads (text ∙ kept_text e ∙ ap row_text (sym entry)))
