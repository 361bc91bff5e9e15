-- Counts of jobs and of faults, and the count, add up.
use Rattle.std.proofs.Common.{◌≡◌, ℕ, ◌+◌, Bool, cond, List, [], ◌∷◌, ◌++◌, count_by, length, arith, refl}
use Rattle.std.proofs.lemmas.List.Sums.{sum_by-append}
use Rattle.wdl_base.specs.declared.fault.Fault.{Fault}
use Rattle.wdl_base.specs.declared.request.Request.{Request}
use Rattle.wdl_typed.specs.Requests.{Successes}
use Rattle.net_laws.specs.Moving.{IsWeight}
use Rattle.net_laws.specs.Net.{Work}
use Rattle.plan_lists.specs.Lists.{JobTest, count_jobs, jobs_in}

nothing_more : (n : ℕ) → n ≡ 0 + n
nothing_more n = omega arith

-- ---- faults

pub faults_append : (is : Fault → Bool) (xs ys : List Fault) → count_by is (xs ++ ys) ≡ count_by is xs + count_by is ys
faults_append is xs ys = sum_by-append (λ (x : Fault). cond (is x) 1 0) xs ys

pub faults_weigh : (is : Fault → Bool) → IsWeight (λ (w : Work). count_by is w.faults)
faults_weigh is = record { nothing = refl; both = λ v w e. faults_append is v.faults w.faults; more = λ n w. nothing_more (count_by is w.faults) }

-- ---- jobs

pub jobs_append : (is : JobTest) (rs ss : List Request) (cs ds : List Successes) → length cs ≡ length rs → count_jobs is (rs ++ ss) (cs ++ ds) ≡ count_jobs is rs cs + count_jobs is ss ds
jobs_append is [] ss [] ds e = nothing_more (count_jobs is ss ds)
jobs_append is [] ss (c ∷ cs) ds e = absurd (omega (arith, e))
jobs_append is (r ∷ rs) ss [] ds e = absurd (omega (arith, e))
jobs_append is (r ∷ rs) ss (c ∷ cs) ds e = let i = jobs_append is rs ss cs ds (omega (arith, e)) in omega (arith, i)

pub jobs_weigh : (is : JobTest) → IsWeight (λ (w : Work). jobs_in w is)
jobs_weigh is = record { nothing = refl; both = λ v w e. jobs_append is v.jobs w.jobs v.codes w.codes e; more = λ n w. nothing_more (jobs_in w is) }

-- ---- the count

pub count_weighs : IsWeight (λ (w : Work). w.count)
count_weighs = record { nothing = refl; both = λ v w e. refl; more = λ n w. omega arith }
