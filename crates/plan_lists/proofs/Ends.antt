-- What lists that tell of the work tell of the flow.
use Rattle.std.proofs.Common.{◌≡◌, ◌⊎◌, inl, inr, ℕ, suc, ◌+◌, nat_lt, Bool, true, not, ◌&&◌, List, [], ◌∷◌, Contains, Option, Some, None, is_some, count_by, length, arith, ap, refl, subst, sym, ◌∙◌}
use Rattle.std.proofs.lemmas.Bool.{and_from, and_parts, false≢true, lt-ltb, ltb-true, or_cases, or_left, or_right}
use Rattle.wdl_base.specs.declared.fault.Fault.{Fault}
use Rattle.wdl_base.specs.declared.place.Segment.{Segment}
use Rattle.wdl_base.specs.declared.request.Request.{Request}
use Rattle.wdl_value.specs.declared.value.Value.{Value}
use Rattle.wdl_value.specs.Tables.{Row, has_row}
use Rattle.wdl_typed.specs.declared.flow.FlowDef.{FlowDef}
use Rattle.wdl_typed.specs.Bodies.{Library}
use Rattle.wdl_typed.specs.Flow.{Flowing, flow, flow_at, is_clean, is_empty, too_many, value_in}
use Rattle.wdl_typed.specs.KnownTypes as known
use Rattle.flow_laws.specs.Laws.{IsAnswered, is_answered, run_with}
use Rattle.flow_laws.proofs.Elements.{contains_first}
use Rattle.flow_laws.proofs.FlowJobs.{flow_jobs_answered}
use Rattle.value_net.specs.Nets as net
use Rattle.value_net.specs.Nets.{AllStuck, value_at}
use Rattle.net_laws.specs.Growing as growing
use Rattle.net_laws.specs.Growing.{are_set}
use Rattle.net_laws.specs.Laws.{IsBeneath}
use Rattle.net_laws.specs.Net.{Work, flowing_of}
use Rattle.net_laws.specs.Works.{work_of}
use Rattle.net_laws.proofs.Beneath.{flow_beneath}
use Rattle.net_laws.proofs.Even.{work_even}
use Rattle.net_laws.proofs.Finished.{finished}
use Rattle.net_laws.proofs.Lookups.{looked_up, value_at as cell_value}
use Rattle.plan_moves.specs.Sheets.{Sheet, needs_in, rules_of, state_of, taken_in}
use Rattle.plan_lists.specs.Laws.{ListsEnd, TellsFlow, TooManyEarly}
use Rattle.plan_lists.specs.Lists.{JobTest, any_job, count_jobs, unanswered}
use Rattle.plan_moves.proofs.Kept.{there_too}
use Rattle.plan_lists.proofs.Counting.{all_jobs, no_faults, no_jobs, row_answers, some_job}

-- ---- nothing is ready

pub set_same : (o : Option Value) → known.is_some o ≡ is_some o
set_same None = refl
set_same (Some x) = refl

pub cells_same : (b : Sheet) (owners : List ℕ) (cs : List ℕ) → are_set (state_of b owners) cs ≡ net.are_set b.values cs
cells_same b owners [] = refl
cells_same b owners (c ∷ cs) =
    ap (λ (t : Bool). t && are_set (state_of b owners) cs) (set_same (value_at b.values c)) ∙ ap (λ (t : Bool). net.is_set b.values c && t) (cells_same b owners cs)

pub stuck_too : (lib : Library) (site : List ℕ) (rows : List Row) (b : Sheet) (owners : List ℕ) → length b.rules ≡ length b.steps → AllStuck b → growing.AllStuck lib site rows (rules_of b) (state_of b owners)
stuck_too lib site rows b owners pairs stuck t r left =
    let w = there_too b.rules b.steps t r pairs left.rule in
    ap (are_set (state_of b owners)) (ap needs_in w.1) ∙ cells_same b owners w.0.needs ∙ stuck t w.0 w.1 (sym (ap taken_in w.1) ∙ left.left)

-- ---- what the flow waits for

pub is_nothing : {A : Type 0} (xs : List A) → is_empty xs ≡ true → xs ≡ []
is_nothing [] e = refl
is_nothing (x ∷ xs) e = absurd (false≢true e)

nobody : {A : Type 0} (xs : List A) (x : A) → xs ≡ [] → Contains xs x → ⊥
nobody xs x e c = let d : Contains [] x = subst (λ ys. Contains ys x) e c in omega (arith, d.1)

module _ (rows : List Row) (f : Flowing) (even : length f.codes ≡ length f.jobs) (answers : IsAnswered rows f) where
  -- Where nothing waits, each job is answered.
  none_open : f.waits ≡ [] → count_jobs (unanswered rows any_job) f.jobs f.codes ≡ 0
  none_open e = no_jobs (unanswered rows any_job) f.jobs f.codes (λ r c s. ap not (there r (answers.jobs r c)))
    where
      there : (r : Request) → (is_answered rows r ≡ true) ⊎ Contains f.waits r.place → has_row rows r.place r.attempt ≡ true
      there r (inl a) = sym (row_answers rows r.place r.attempt) ∙ a
      there r (inr w) = absurd (nobody f.waits r.place e w)

  none_waits : count_jobs (unanswered rows any_job) f.jobs f.codes ≡ 0 → f.waits ≡ []
  none_waits e = by_waits f.waits refl
    where
      by_waits : (ps : List (List Segment)) → f.waits ≡ ps → f.waits ≡ []
      by_waits [] h = h
      by_waits (p ∷ ps) h =
          let x = answers.waits p (subst (λ qs. Contains qs p) (sym h) (contains_first p ps)) in
          let s = some_job (unanswered rows any_job) f.jobs f.codes even x.0 x.1 (λ c. ap not (sym (row_answers rows x.0.place x.0.attempt) ∙ x.3)) in
          absurd (omega (arith, s, e))

  clean_parts : is_clean f ≡ true → (f.faults ≡ []) × (f.waits ≡ [])
  clean_parts h = let p = and_parts (is_empty f.faults) (is_empty f.waits) h in (is_nothing f.faults p.0, is_nothing f.waits p.1)

  clean_from : f.faults ≡ [] → f.waits ≡ [] → is_clean f ≡ true
  clean_from h j = and_from (is_empty f.faults) (is_empty f.waits) (ap is_empty h) (ap is_empty j)

  same_faults : (xs ys : List Fault) → ((is : Fault → Bool) → count_by is xs ≡ count_by is ys) → ys ≡ [] → xs ≡ []
  same_faults xs ys h e = no_faults xs (h (λ x. true) ∙ ap (count_by (λ (x : Fault). true)) e)

  told : (waiting answered : JobTest → ℕ) (faults : List Fault) (count : ℕ) → ((is : JobTest) → count_jobs is f.jobs f.codes ≡ waiting is + answered is) → ((is : Fault → Bool) → count_by is f.faults ≡ count_by is faults)
      → f.count ≡ count → ((is : JobTest) → waiting (unanswered rows is) ≡ waiting is) → ((is : JobTest) → answered (unanswered rows is) ≡ 0) → TellsFlow f rows waiting answered faults count
  told waiting answered faults count jobs faults_same counts waits over =
      record {
        even = even;
        jobs_are = sym (all_jobs f.jobs f.codes even) ∙ jobs any_job;
        ready = ready;
        faults_are = λ is. sym (faults_same is);
        count_is = counts;
        clean = (
          λ h. (let p = clean_parts h in (same_faults faults f.faults (λ is. sym (faults_same is)) p.0, ready any_job ∙ none_open p.1)),
          λ h e. clean_from (same_faults f.faults faults faults_same h) (none_waits (sym (ready any_job) ∙ e)),
        );
      }
    where
      ready : (is : JobTest) → waiting is ≡ count_jobs (unanswered rows is) f.jobs f.codes
      ready is =
          let e = jobs (unanswered rows is) in
          let o = waits is in
          let z = over is in
          omega (arith, e, o, z)

pub ends : ListsEnd
ends lib main checked site rows b owners depth k f found given place g ds distinct p waiting answered faults count l at =
    record {
      tells = subst (λ (h : Flowing). TellsFlow h rows waiting answered faults count) (sym shows)
          (told rows (flowing_of (value_at b.values) g w) (work_even lib site rows (rules_of b) (state_of b owners) p)
          (subst (IsAnswered rows) shows (flow_jobs_answered lib main checked site rows (suc depth) k given place)) waiting answered faults count l.jobs_are l.faults_are l.count_is at.waits at.over);
      values = λ key c e. ap (value_in key) shows ∙ looked_up (value_at b.values) g.names distinct key ∙ ap (cell_value (value_at b.values)) e;
    }
  where
    w : Work
    w = work_of lib site rows (rules_of b) (state_of b owners) p

    shows : flow (run_with lib site rows) (suc depth) k given place ≡ flowing_of (value_at b.values) g (work_of lib site rows (rules_of b) (state_of b owners) p)
    shows =
        ap (λ (o : Option FlowDef). flow_at (run_with lib site rows) (flow (run_with lib site rows) depth) o given place) found
        ∙ (finished lib site rows (rules_of b) (state_of b owners) (stuck_too lib site rows b owners at.pairs at.stuck) p).shows

-- ---- past the limits

pub too_many_now : TooManyEarly
too_many_now lib site rows b owners depth k f found given place g ds p jobs faults count l h = by_case (or_cases (nat_lt 20000 (jobs any_job)) (nat_lt 1000000 count) h)
  where
    beneath : IsBeneath (work_of lib site rows (rules_of b) (state_of b owners) p) (flow (run_with lib site rows) (suc depth) k given place)
    beneath = flow_beneath lib site rows (rules_of b) (state_of b owners) depth k f found given place g ds p

    number : length (work_of lib site rows (rules_of b) (state_of b owners) p).jobs ≡ jobs any_job
    number = sym (all_jobs _ _ (work_even lib site rows (rules_of b) (state_of b owners) p)) ∙ l.jobs_are any_job

    by_case : (nat_lt 20000 (jobs any_job) ≡ true) ⊎ (nat_lt 1000000 count ≡ true) → too_many (flow (run_with lib site rows) (suc depth) k given place) ≡ true
    by_case (inl e) =
        let few = ltb-true 20000 (jobs any_job) e in
        let size = beneath.size in
        or_left (nat_lt 20000 (length (flow (run_with lib site rows) (suc depth) k given place).jobs)) (nat_lt 1000000 (flow (run_with lib site rows) (suc depth) k given place).count)
        (lt-ltb 20000 (length (flow (run_with lib site rows) (suc depth) k given place).jobs) (omega (arith, few, size, number)))
    by_case (inr e) =
        let few = ltb-true 1000000 count e in
        let most = beneath.count in
        let same = l.count_is in
        or_right (nat_lt 20000 (length (flow (run_with lib site rows) (suc depth) k given place).jobs)) (nat_lt 1000000 (flow (run_with lib site rows) (suc depth) k given place).count)
        (lt-ltb 1000000 (flow (run_with lib site rows) (suc depth) k given place).count (omega (arith, few, most, same)))
