-- What a step and an answer make of lists that tell of the work.
use Rattle.std.proofs.Common.{◌≡◌, ℕ, zero, suc, ◌+◌, cond, List, ◌++◌, count_by, arith, ap, sym, ◌∙◌}
use Rattle.wdl_base.specs.declared.place.Segment.{Segment}
use Rattle.wdl_typed.specs.Requests.{Asked, request}
use Rattle.net_laws.specs.Net.{Work}
use Rattle.plan_moves.specs.Telling.{codes_of, requests_from}
use Rattle.plan_lists.specs.Laws.{AnswersList, AttemptsList, StepsList, WorksList}
use Rattle.plan_lists.specs.Lists.{JobTest, count_jobs, jobs_in}
use Rattle.plan_lists.proofs.Weights.{count_weighs, faults_append, faults_weigh, jobs_weigh}

pub steps : StepsList
steps w x added jobs faults count l adds =
    record {
      jobs_are = λ is. adds (λ (v : Work). jobs_in v is) (jobs_weigh is) ∙ ap (λ (n : ℕ). n + jobs_in added is) (l.jobs_are is);
      faults_are = λ is.
          adds (λ (v : Work). count_by is v.faults) (faults_weigh is) ∙ ap (λ (n : ℕ). n + count_by is added.faults) (l.faults_are is) ∙ sym (faults_append is faults added.faults);
      count_is = adds (λ (v : Work). v.count) count_weighs ∙ ap (λ (n : ℕ). n + added.count) l.count_is;
    }

swapped_faults : (x v w now all : ℕ) → x + v ≡ w + now → v ≡ 0 → all ≡ w + now → x ≡ all
swapped_faults x v w now all e z i = omega (arith, e, z, i)

pub answers : AnswersList
answers w x v now jobs later faults count l swaps none same turned =
    record {
      jobs_are = λ is.
          let e = swaps (λ (u : Work). jobs_in u is) (jobs_weigh is) in
          let i = turned is in
          let j = l.jobs_are is in
          omega (arith, e, i, j);
      faults_are = λ is.
          swapped_faults (count_by is x.faults) (count_by is v.faults) (count_by is w.faults) (count_by is now.faults) (count_by is (faults ++ now.faults)) (swaps (λ (u : Work). count_by is u.faults) (faults_weigh is))
          (ap (count_by is) none) (faults_append is faults now.faults ∙ ap (λ (n : ℕ). n + count_by is now.faults) (sym (l.faults_are is)));
      count_is = let e = swaps (λ (u : Work). u.count) count_weighs in let c = l.count_is in omega (arith, e, same, c);
    }

pub works : WorksList
works w x same =
    record {
      jobs_are = λ is. same (λ (v : Work). jobs_in v is) (jobs_weigh is);
      faults_are = λ is. same (λ (v : Work). count_by is v.faults) (faults_weigh is);
      count_is = same (λ (v : Work). v.count) count_weighs;
    }

one_more : (is : JobTest) (site : List ℕ) (place : List Segment) (a : Asked) (n i : ℕ)
    → count_jobs is (requests_from site place a i (suc n)) (codes_of a (suc n)) ≡ count_jobs is (requests_from site place a i n) (codes_of a n) + cond {A = ℕ} (is (request site place (i + n) a) a.codes) 1 0
one_more is site place a zero i = last_of is site place a i (i + 0) (omega arith)
  where
    last_of : (is : JobTest) (site : List ℕ) (place : List Segment) (a : Asked) (i j : ℕ) → j ≡ i → cond {A = ℕ} (is (request site place i a) a.codes) 1 0 + 0 ≡ 0 + cond {A = ℕ} (is (request site place j a) a.codes) 1 0
    last_of is site place a i j e =
        let h = ap (λ (k : ℕ). cond {A = ℕ} (is (request site place k a) a.codes) 1 0) e in omega (arith, h)
one_more is site place a (suc n) i =
    let h = one_more is site place a n (i + 1) in
    let e = ap (λ (k : ℕ). cond {A = ℕ} (is (request site place k a) a.codes) 1 0) (moved i n) in
    omega (arith, h, e)
  where
    moved : (i n : ℕ) → (i + 1) + n ≡ i + suc n
    moved i n = omega arith

pub attempts : AttemptsList
attempts site place a k faults more waits others is =
    ap (λ (m : ℕ). count_jobs is (requests_from site place a 0 (suc m)) (codes_of a (suc m))) (after k)
    ∙ one_more is site place a (suc k) 0
    ∙ ap (λ (m : ℕ). count_jobs is (requests_from site place a 0 (suc k)) (codes_of a (suc k)) + cond {A = ℕ} (is (request site place m a) a.codes) 1 0) (before k)
  where
    after : (k : ℕ) → k + 1 ≡ suc k
    after k = omega arith

    before : (k : ℕ) → 0 + suc k ≡ k + 1
    before k = omega arith
