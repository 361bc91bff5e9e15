use Rattle.std.proofs.Common.{◌≡◌, drop}
use Rattle.work_desk.specs.Run.{row_at}
use Rattle.work_desk.proofs.rows.row_among.Given as goal

abbrev pub invariant-loop-entry : goal.invariant-loop-entry
invariant-loop-entry l = row_at (drop l.entry-index l.entries) l.request.place l.request.attempt ≡ row_at l.entries l.request.place l.request.attempt
