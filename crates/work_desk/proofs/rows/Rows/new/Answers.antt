use Rattle.std.proofs.Common.{subst}
use Rattle.work_desk.specs.Keeping.{ArePlaced}
use Rattle.work_desk.proofs.Looks.{are_placed}
use Rattle.work_desk.proofs.rows.Rows.new.Goals as goal

pub returns-clause-placed : goal.returns-clause-placed
returns-clause-placed c = subst ArePlaced c.as_slice.ensures (are_placed c.as_slice.result.now c.see_rows.ensures.placed)
