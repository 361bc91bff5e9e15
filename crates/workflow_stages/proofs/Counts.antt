-- Where every read of the shelf succeeded.
use Rattle.std.proofs.Common.{◌≡◌, ℕ, Result, Ok, Err}
use Rattle.report_text.specs.declared.status.Status.{Status}
use Rattle.workflow_stages.specs.declared.ended.Work.{Work}
use Rattle.workflow_stages.specs.declared.ended.Work.TheVariants as work
use Rattle.workflow_stages.specs.Counting.{ReadCounts, WorkCounts}

-- what is done without the shelf changes nothing of it
pub works : (w : Work) (before now : ℕ) → now ≡ before → WorkCounts w before now
works (work.Text text) before now e = e
works (work.Stop stop) before now e = λ read. e

pub reads : {A : Type 0} (r : Result A Status) (before now : ℕ) → now ≡ before → ReadCounts r before now
reads (Ok a) before now e = e
reads (Err s) before now e = λ read. e
