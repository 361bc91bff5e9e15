-- What a run leaves, by the core that it leaves.
use Rattle.std.proofs.Common.{◌≡◌, ◌≢◌, ◌⊎◌, inl, inr, ℕ, true, not, if◌then◌else◌, List, [], Option, Some, None, ap, sym, subst, ◌∙◌, refl}
use Rattle.std.proofs.lemmas.Bool.{false≢true}
use Rattle.wdl_base.specs.declared.answer.Answer.{Answer}
use Rattle.wdl_base.specs.declared.entry.Entry.{Entry}
use Rattle.wdl_base.specs.declared.request.Request.{Request}
use Rattle.wdl_base.specs.declared.step.Counts.{Counts}
use Rattle.wdl_base.specs.declared.step.Step.{Step}
use Rattle.report_text.specs.declared.status.Status.{Status}
use Rattle.report_text.specs.declared.status.Status.TheVariants as status
use Rattle.wdl_typed.specs.Flow.{Flowing, is_empty, too_many}
use Rattle.ready_core.specs.Cores.{CoreState, IsPaidFor, Origin, flow_of, has_fault}
use Rattle.ready_core.specs.Flows.{outcome_of, outputs_if_clean, outputs_in}
use Rattle.work_desk.specs.Keeping.{KeeperView, Went}
use Rattle.work_desk.specs.Ran.{HasRun, IsDone}
use Rattle.work_desk.specs.Views.{AllEqual}
use Rattle.work_desk.specs.declared.stop.Stop.{Stop}
use Rattle.work_desk.specs.declared.stop.Stop.TheVariants as end
use Rattle.workflow_stages.specs.declared.ended.Work.{Work}
use Rattle.workflow_cli.specs.Running.{AreRowsOf, IsIdle, IsOn, IsStarved, KeepsRows, Main, Trace, core_of, lapses_of, origin_of}
use Rattle.workflow_cli.specs.Stages.{HasLeft, IsOpened, OpenStops, RunsMain, Turns, stops}
use Rattle.workflow_cli.proofs.Kept.{went_from, went_none}

-- a core whose run did not stop has its outputs
pub outcome_is : (c : CoreState) → IsDone c → outcome_of c.origin.checked (flow_of c) ≡ Some (outputs_in c.origin.checked (flow_of c))
outcome_is c d =
    ap (λ b. if b then None else outputs_if_clean c.origin.checked (flow_of c)) d.few
    ∙ ap (λ b. if b then Some (outputs_in c.origin.checked (flow_of c)) else None) d.clean

-- a flow with a fault that shows none is past its limits
pub past_limits : (f : Flowing) → has_fault f ≡ true → (f.faults ≡ []) ⊎ (too_many f ≡ true) → too_many f ≡ true
past_limits f h (inl e) = absurd (false≢true (ap (λ fs. not (is_empty fs)) (sym e) ∙ h))
past_limits f h (inr e) = e

-- what is left by a run that had memory to begin
pub has_begun : {A : Type 0} (c : CoreState) (why : Option Stop) (four : Counts) → A ⊎ IsStarved c why four → why ≢ Some end.NoMemory → A
has_begun c why four (inl run) h = run
has_begun c why four (inr nothing) h = absurd (h nothing.starved)

module _ (gives : Request → Answer → Type 0) (refuses : Request → Type 0) (t : Trace) (m : Main) (w : Work) where
  abbrev Ran : List Entry → CoreState → Option Stop → Counts → Type 0
  Ran rows c why four =
      HasRun m.options.workers gives refuses (lapses_of m.options.journal t.lapses) rows c why four ⊎ IsStarved c why four

  abbrev Keeps : CoreState → Option Stop → Type 0
  Keeps c why = KeepsRows gives c why m.options.journal t.keeper t.keeper_now

  module _ (why : Option Stop) (c : CoreState) (origin : c.origin ≡ origin_of m) (journal : t.journal ≡ c.journal) (steps : t.steps ≡ c.steps) where
    make : Origin → List Entry → List Step → CoreState
    make o es ss = record { origin = o; journal = es; taken = c.taken; out = c.out; steps = ss; plan = c.plan }

    same_core : c ≡ core_of m t c.taken c.out c.plan
    unfolding make
    same_core = ap (λ o. make o c.journal c.steps) origin ∙ ap (λ es. make (origin_of m) es c.steps) (sym journal) ∙ ap (make (origin_of m) t.journal) (sym steps)

    -- the work of a core after its run
    pub has_left : (rows : List Entry) (four : Counts) (name : List ℕ) → t.counts ≡ four → name ≡ m.flow.name → Ran rows c why four
        → AreRowsOf t.keeper m.options.journal rows → Keeps c why → (why ≡ None → IsPaidFor t.before t.now c) → Turns m.options.report name c why w → HasLeft gives refuses t m w
    has_left rows four name counts named run of kept paid turns = record {
      why = why;
      left = record {
        rows = rows;
        of_keeper = of;
        taken = c.taken;
        out = c.out;
        plan = c.plan;
        run = subst (λ x. Ran rows x why t.counts) same_core (subst (Ran rows c why) (sym counts) run);
        kept = subst (λ x. Keeps x why) same_core kept;
        paid = subst (λ x. why ≡ None → IsPaidFor t.before t.now x) same_core paid;
      };
      turns = subst (λ x. Turns m.options.report m.flow.name x why w) same_core (subst (λ n. Turns m.options.report n c why w) named turns);
    }

  -- ---- a core that was not made, for want of memory

  abbrev Nothing : List Entry → List Step → CoreState
  Nothing es ss = record { origin = origin_of m; journal = es; taken = []; out = []; steps = ss; plan = None }

  abbrev starved : Option Stop
  starved = Some end.NoMemory

  unstarted : (rows : List Entry) → AllEqual t.counts 0 → Ran rows (Nothing [] []) starved t.counts
  unstarted rows four = inr (record { starved = refl; no_answer = refl; no_job = refl; no_count = four })

  pub has_starved : (rows : List Entry) → t.journal ≡ [] → t.steps ≡ [] → AllEqual t.counts 0 → AreRowsOf t.keeper m.options.journal rows
      → Keeps (core_of m t [] [] None) starved → w ≡ stops status.NoMemory → HasLeft gives refuses t m w
  has_starved rows journal steps four of kept e = record {
    why = starved;
    left = record {
      rows = rows;
      of_keeper = of;
      taken = [];
      out = [];
      plan = None;
      run = subst (λ es. Ran rows (Nothing es t.steps) starved t.counts) (sym journal) (subst (λ ss. Ran rows (Nothing [] ss) starved t.counts) (sym steps) (unstarted rows four));
      kept = kept;
      paid = λ e. cc;
    };
    turns = (status.NoMemory, e, refl);
  }

  -- ---- without a journal

  module _ (none : m.options.journal ≡ None) where
    pub no_rows : AreRowsOf t.keeper m.options.journal []
    no_rows = subst (λ j. AreRowsOf t.keeper j []) (sym none) refl

    pub unkept : (c : CoreState) (why : Option Stop) → t.keeper_now ≡ t.keeper → why ≢ Some end.Keep → Keeps c why
    unkept c why same stop = subst (λ j. KeepsRows gives c why j t.keeper t.keeper_now) (sym none) (same, stop)

  -- ---- with one

  module _ (path : List ℕ) (named : m.options.journal ≡ Some path) where
    pub its_rows : (k : KeeperView) (rows : List Entry) → IsOpened path t.keeper k rows → AreRowsOf t.keeper m.options.journal rows
    its_rows k rows o = subst (λ j. AreRowsOf t.keeper j rows) (sym named) o.told

    pub keeps : (k : KeeperView) (rows : List Entry) → IsOpened path t.keeper k rows → (c : CoreState) (why : Option Stop) → Went gives c why k t.keeper_now → Keeps c why
    keeps k rows o c why h = subst (λ j. KeepsRows gives c why j t.keeper t.keeper_now) (sym named) (went_from gives c why path t.keeper k t.keeper_now rows o h)

    pub keeps_none : (k : KeeperView) (rows : List Entry) → IsOpened path t.keeper k rows → t.journal ≡ [] → t.keeper_now ≡ k → Keeps (core_of m t [] [] None) starved
    keeps_none k rows o journal same = keeps k rows o (core_of m t [] [] None) starved (subst (Went gives (core_of m t [] [] None) starved k) (sym same) (went_none gives (core_of m t [] [] None) starved journal refl k))

    -- the keeper failed before the run
    pub unopened : (s : Status) → IsIdle t → OpenStops path t.keeper t.keeper_now s → w ≡ stops s → RunsMain gives refuses t m w
    unopened status.Keep idle h e = inr (inl (record { idle = idle; path = path; named = named; opened = h.0; counted = h.1 }, e))
    unopened status.NoMemory idle h e = inl (idle, e)
    unopened status.Ok idle h e = absurd h
    unopened (status.Failed fault) idle h e = absurd h
    unopened status.Usage idle h e = absurd h
    unopened (status.Document code span) idle h e = absurd h
    unopened (status.Inputs code name) idle h e = absurd h
    unopened (status.Read p) idle h e = absurd h
    unopened status.Write idle h e = absurd h
    unopened (status.NotInSubset rule span) idle h e = absurd h
    unopened (status.Launch place) idle h e = absurd h
    unopened status.TooMany idle h e = absurd h

-- a keeper that failed is started on no other path
pub stopped_on : (path : List ℕ) (k l : KeeperView) (s : Status) → OpenStops path k l s → IsOn path l.path
stopped_on path k l status.Keep h = inl h.0
stopped_on path k l status.NoMemory h = h
stopped_on path k l status.Ok h = absurd h
stopped_on path k l (status.Failed fault) h = absurd h
stopped_on path k l status.Usage h = absurd h
stopped_on path k l (status.Document code span) h = absurd h
stopped_on path k l (status.Inputs code name) h = absurd h
stopped_on path k l (status.Read p) h = absurd h
stopped_on path k l status.Write h = absurd h
stopped_on path k l (status.NotInSubset rule span) h = absurd h
stopped_on path k l (status.Launch place) h = absurd h
stopped_on path k l status.TooMany h = absurd h
