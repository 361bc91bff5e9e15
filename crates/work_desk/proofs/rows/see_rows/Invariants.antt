use Rattle.std.proofs.Common.{take}
use Rattle.std.specs.Prelude.{All}
use Rattle.wdl_base.specs.PlaceReading.{IsPlace}
use Rattle.work_desk.proofs.rows.see_rows.Given as goal

abbrev pub invariant-loop-entry : goal.invariant-loop-entry
invariant-loop-entry l = All (λ e. IsPlace e.request.place) (take l.entry-index l.entries)
