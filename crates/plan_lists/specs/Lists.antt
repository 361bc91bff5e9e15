-- What the lists of a plan tell of the work of what has grown: jobs and faults in any order, and the count.
use Rattle.std.specs.Prelude.{◌≡◌, ℕ, ◌+◌, Bool, true, not, ◌&&◌, List, [], ◌∷◌, cond, count_by}
use Rattle.wdl_base.specs.declared.fault.Fault.{Fault}
use Rattle.wdl_base.specs.declared.request.Request.{Request}
use Rattle.wdl_value.specs.Tables.{Row, has_row}
use Rattle.wdl_typed.specs.Requests.{Successes}
use Rattle.net_laws.specs.Moving.{IsWeight}
use Rattle.net_laws.specs.Net.{Work}

-- a test of a job with its statuses of success
abbrev pub JobTest : Type 0
JobTest = Request → Successes → Bool

-- of the jobs with their statuses of success, how many pass
abbrev pub count_jobs : JobTest → List Request → List Successes → ℕ
count_jobs is [] cs = 0
count_jobs is (r ∷ rs) [] = 0
count_jobs is (r ∷ rs) (c ∷ cs) = cond (is r c) 1 0 + count_jobs is rs cs

-- passes, and no answer arrived for its place and attempt
abbrev pub unanswered : List Row → JobTest → JobTest
unanswered rows is r c = is r c && not (has_row rows r.place r.attempt)

abbrev pub any_job : JobTest
any_job r c = true

abbrev pub jobs_in : Work → JobTest → ℕ
jobs_in w is = count_jobs is w.jobs w.codes

-- The work has as many jobs that pass as are counted, whatever the test; these faults, each as often; and this count.
pub record Listed (w : Work) (jobs : JobTest → ℕ) (faults : List Fault) (count : ℕ) : Type 0 where
  pub jobs_are : (is : JobTest) → jobs_in w is ≡ jobs is
  pub faults_are : (is : Fault → Bool) → count_by is w.faults ≡ count_by is faults
  pub count_is : w.count ≡ count

-- By each weight, the work `w` has become `x` by what was added.
abbrev pub Adds : Work → Work → Work → Type 0
Adds w x added = (weight : Work → ℕ) → IsWeight weight → weight x ≡ weight w + weight added

-- By each weight, `v` went from it and `now` came in its place.
abbrev pub Swaps : Work → Work → Work → Work → Type 0
Swaps w x v now = (weight : Work → ℕ) → IsWeight weight → weight x + weight v ≡ weight w + weight now

-- By each weight the two are the same.
abbrev pub Same : Work → Work → Type 0
Same w x = (weight : Work → ℕ) → IsWeight weight → weight w ≡ weight x
