-- Jobs, their answers, and the rows of an earlier run.
use Rattle.std.specs.Prelude.{Bool, ◌&&◌}
use Rattle.wdl_base.specs.declared.answer.Answer.{Answer}
use Rattle.wdl_base.specs.declared.entry.Entry.{Entry}
use Rattle.wdl_base.specs.declared.entry.Source.{Source}
use Rattle.wdl_base.specs.declared.entry.Source.TheVariants.{Launched, Kept}
use Rattle.wdl_base.specs.declared.request.Request.{Request}
use Rattle.wdl_base.specs.Same.{same_request}
use Rattle.wdl_typed.specs.Requests.{Successes, is_success}

-- a job that was taken: its request, and which statuses are successes of it
pub record TakenJob : Type 0 where
  pub request : Request
  pub codes : Successes

abbrev pub entry : Request → Answer → Source → Entry
entry r a s = record { request = r; answer = a; source = s }

abbrev pub launched : Request → Answer → Entry
launched r a = entry r a Launched

-- the entry of a job that a row stands for
abbrev pub kept_as : Request → Answer → Entry
kept_as r a = entry r a Kept

-- a row of this request, with a status that is a success of the job
abbrev pub is_usable : TakenJob → Entry → Bool
is_usable j row = same_request row.request j.request && is_success j.codes row.answer.status
