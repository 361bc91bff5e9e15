-- A keeper that was started, whose rows were read, and over which a run then went.
use Rattle.std.proofs.Common.{◌≡◌, ◌≤◌, ◌⊎◌, inl, inr, ℕ, List, [], Option, Some, None, Result, Ok, Err, Contains, is_some, arith, ap, sym, subst, ◌∙◌, refl}
use Rattle.std.proofs.lemmas.Option.{same_Some}
use Rattle.wdl_base.specs.declared.answer.Answer.{Answer}
use Rattle.wdl_base.specs.declared.entry.Entry.{Entry}
use Rattle.wdl_base.specs.declared.request.Request.{Request}
use Rattle.report_text.specs.declared.status.Status.{Status}
use Rattle.report_text.specs.declared.status.Status.TheVariants as status
use Rattle.wdl_port.specs.Causes.{Rose}
use Rattle.wdl_port.specs.Rows.{AreRows}
use Rattle.ready_core.specs.Cores.{CoreState}
use Rattle.ready_core.specs.Rows.{TakenJob}
use Rattle.work_desk.specs.Keeping.{AreFrom, AreKept, AreLeft, KeeperView, RowsWent, Went, keeper_view}
use Rattle.work_desk.specs.declared.stop.Stop.{Stop}
use Rattle.work_desk.specs.declared.stop.Stop.TheVariants as end
use Rattle.workflow_cli.specs.Stages.{IsOpened, OpenStops, Opens}
use Rattle.wdl_sources.proofs.TakeLemmas.{rose_later}

no_entry : (e : Entry) → Contains [] e → ⊥
no_entry e c = omega (arith, c.1)

from_self : (gives : Request → Answer → Type 0) (taken : List TakenJob) (rows : List Entry) → AreFrom gives taken rows rows
unfolding AreFrom
from_self gives taken rows row h = inl h

left_self : (taken : List TakenJob) (rows : List Entry) → AreLeft taken rows rows
unfolding AreLeft
left_self taken rows row h n = h

none_kept : (journal rows : List Entry) → journal ≡ [] → AreKept journal rows
unfolding AreKept
none_kept journal rows j e h = absurd (no_entry e (subst (λ es. Contains es e) j h))

module _ (gives : Request → Answer → Type 0) (c : CoreState) (why : Option Stop) where
  abbrev RowsAre : KeeperView → List Entry → List Entry → Type 0
  RowsAre k before after = RowsWent gives c ((why ≡ None) ⊎ ¬ (Rose k.faults k.faults)) before after

  same_rows : c.journal ≡ [] → (k : KeeperView) (rows : List Entry) → RowsAre k rows rows
  same_rows none k rows = record { from = from_self gives c.taken rows; left = left_self c.taken rows; journal = λ h. none_kept c.journal rows none }

  -- nothing ran
  pub went_none : c.journal ≡ [] → why ≡ Some end.NoMemory → (k : KeeperView) → Went gives c why k k
  went_none none e k = record {
    path = refl;
    faults = omega arith;
    keep = λ h. let p = sym e ∙ h in cc;
    told = refl;
    rows = λ before after b a. subst (RowsAre k before) (same_Some _ _ (sym b ∙ a)) (same_rows none k before);
  }

  module _ (path : List ℕ) (k m l : KeeperView) (rows : List Entry) (o : IsOpened path k m rows) where
    rose_on : Rose m.faults l.faults → Rose k.faults l.faults
    rose_on = rose_later k.faults m.faults l.faults o.later

    settled : (why ≡ None) ⊎ ¬ (Rose k.faults l.faults) → (why ≡ None) ⊎ ¬ (Rose m.faults l.faults)
    settled (inl e) = inl e
    settled (inr n) = inr (λ r. n (rose_on r))

    -- from before it was started
    pub went_from : Went gives c why m l → Went gives c why (keeper_view k.kept (Some path) k.faults) l
    went_from w = record {
      path = w.path ∙ o.opened;
      faults = omega (arith, o.later, w.faults);
      keep = λ e. rose_on (w.keep e);
      told = w.told ∙ ap is_some o.same;
      rows = λ before after b a. let r = w.rows before after (o.same ∙ b) a in record { from = r.from; left = r.left; journal = λ h. r.journal (settled h) };
    }

-- ---- the rows that are read

module _ (path : List ℕ) (k m l : KeeperView) (same : m.kept ≡ k.kept) (later : k.faults ≤ m.faults) where
  stops_before : (s : Status) → OpenStops path m l s → OpenStops path k l s
  stops_before status.Keep h = (h.0, rose_later k.faults m.faults l.faults later h.1)
  stops_before status.NoMemory h = h
  stops_before status.Ok h = absurd h
  stops_before (status.Failed fault) h = absurd h
  stops_before status.Usage h = absurd h
  stops_before (status.Document code span) h = absurd h
  stops_before (status.Inputs code name) h = absurd h
  stops_before (status.Read p) h = absurd h
  stops_before status.Write h = absurd h
  stops_before (status.NotInSubset rule span) h = absurd h
  stops_before (status.Launch place) h = absurd h
  stops_before status.TooMany h = absurd h

  -- from before the keeper was started
  pub opens_before : (r : Result (List Entry) Status) → Opens path m l r → Opens path k l r
  opens_before (Ok rows) h = record {
    opened = h.opened;
    same = h.same ∙ same;
    later = omega (arith, later, h.later);
    told = subst (λ x. AreRows x rows) same h.told;
    order = h.order;
    sources = h.sources;
  }
  opens_before (Err s) h = (h.0 ∙ same, stops_before s h.1)
