use Rattle.std.proofs.Common.{sym, ◌∙◌}
use Rattle.std.specs.Prelude.{Some, None}
use Rattle.work_desk.proofs.Looks.{looked_at, one_usable}
use Rattle.work_desk.proofs.rows.Rows.find.Goals as goal

pub returns-in_default-clause-found : goal.returns-in_default-clause-found
returns-in_default-clause-found c = looked_at c.args.self.now c.args.job.now c.request.result.now None c.in_default.ensures.row c.request.ensures.request c.at.ensures.rise

pub returns-then-is_usable_for-clause-found : goal.returns-then-is_usable_for-clause-found
returns-then-is_usable_for-clause-found c =
    let l = looked_at c.args.self.now c.args.job.now c.request.result.now (Some c.in-Some.row.now) c.in-Some.ensures.row c.request.ensures.request c.at.ensures.rise in
    let is = sym c.is_usable_for.ensures.usable ∙ c.if-is_usable_for.true in
    record { given = l.0; serves = is; only = λ other at u. one_usable c.args.self.now c.args.job.now c.in-Some.row.now other c.at.ensures.rise l.0 is at u }

pub returns-else-is_usable_for-clause-found : goal.returns-else-is_usable_for-clause-found
returns-else-is_usable_for-clause-found c =
    let l = looked_at c.args.self.now c.args.job.now c.request.result.now (Some c.in-Some.row.now) c.in-Some.ensures.row c.request.ensures.request c.at.ensures.rise in
    l.1 ∙ sym c.is_usable_for.ensures.usable ∙ c.if-is_usable_for.false
