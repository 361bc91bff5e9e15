-- What a load comes to, and what words ask for none.
use Rattle.std.proofs.Common.{◌≡◌, inl, inr, ℕ, Bool, true, false, List, [], Option, Some, None, Result, Ok, Err, IfOk, ap, sym, subst, ◌∙◌, refl}
use Rattle.std.proofs.lemmas.Bool.{false≢true}
use Rattle.wdl_value.specs.declared.env.Bind.{Bind}
use Rattle.report_text.specs.declared.status.Status.{Status}
use Rattle.report_text.specs.declared.status.Status.TheVariants as status
use Rattle.wdl_port.specs.Causes.{Rose}
use Rattle.wdl_port.specs.Memory.{CanFail, bytes_at}
use Rattle.wdl_port.specs.Table.{Gives, Refuses}
use Rattle.wdl_port.specs.declared.memory_shelf.PathFile.{PathFile}
use Rattle.wdl_port.specs.declared.table_row.TableRow.{TableRow}
use Rattle.wdl_base.specs.declared.place.Segment.{Segment}
use Rattle.wdl_typed.specs.declared.checked.Checked.{Checked}
use Rattle.wdl_typed.specs.declared.flow.FlowDef.{FlowDef}
use Rattle.wdl_json.specs.Inputs.{inputs_in}
use Rattle.wdl_load.specs.Loads.{AreLoadRows}
use Rattle.ready_core.specs.Cores.{CoreState}
use Rattle.work_desk.specs.declared.stop.Stop.{Stop as Why}
use Rattle.work_desk.specs.declared.stop.Stop.TheVariants as end
use Rattle.workflow_stages.specs.declared.ended.CommandStop.{CommandStop}
use Rattle.workflow_stages.specs.declared.ended.Work.{Work}
use Rattle.workflow_stages.specs.declared.ended.Work.TheVariants as work
use Rattle.workflow_stages.specs.declared.prepare.Prepared.{Prepared}
use Rattle.workflow_stages.specs.Preparing.{IsPrepared, PrepareStops, Prepares}
use Rattle.workflow_cli.specs.declared.asking.Command.{Command}
use Rattle.workflow_cli.specs.declared.asking.Command.TheVariants as command
use Rattle.workflow_cli.specs.declared.asking.RunOptions.{RunOptions}
use Rattle.workflow_cli.specs.Asking.{AskStops, IsCommand, IsForMain, IsLoad, IsLoadOf, Words}
use Rattle.workflow_cli.specs.Causes.{Names}
use Rattle.workflow_cli.specs.Loading.{IsLoaded, IsLoadWritten, LoadsAs, RunsLoad, Starts, load_file, load_files, load_options, load_refused, load_tells, table_gives, table_refuses}
use Rattle.workflow_cli.specs.Running.{IsIdle, Leaves, Main, Trace, core_of}
use Rattle.workflow_cli.proofs.Left.{has_begun}
use Rattle.workflow_cli.specs.Stages.{IsFailedAs, IsFitting, RunsMain, StopsAs, Turns, main_with, stops}
use Rattle.workflow_cli.specs.Writing.{Finishes, Reports, Told}
use Rattle.workflow_cli.proofs.Commands.{readable, same_command}

-- ---- words that ask for no load

abbrev loads : Command → Bool
loads (command.Load number) = true
loads c = false

pub no_load : (words : Words) (c : Command) → IsCommand words c → loads c ≡ false → IsLoad words → ⊥
no_load words c h e l = false≢true (sym e ∙ ap loads (same_command words c (command.Load l.0) h l.1))

pub main_no_load : (words : Words) (file : List ℕ) (inputs : Option (List ℕ)) → IsForMain words file inputs → IsLoad words → ⊥
main_no_load words file inputs (inl h) = no_load words (command.Run file inputs h.0) h.1 refl
main_no_load words file inputs (inr (inl h)) = no_load words (command.Cwl file inputs) h refl
main_no_load words file inputs (inr (inr (none, inl h))) = no_load words (command.Inputs file) h refl
main_no_load words file inputs (inr (inr (none, inr h))) = no_load words (command.Bundle file) h refl

pub named_no_load : (words : Words) (file : List ℕ) → Names words file → IsLoad words → ⊥
named_no_load words file (inl h) = no_load words (command.Check file) h refl
named_no_load words file (inr h) = main_no_load words file h.0 h.1

-- ---- its stages

pub starts : (n : ℕ) (files : List PathFile) (fails : List ℕ) (file : List ℕ) (before now : ℕ) (r : Result Prepared CommandStop)
    → files ≡ load_files n → fails ≡ [] → file ≡ load_file
    → Prepares (λ p. bytes_at files p) (λ p. CanFail files fails p) (Rose before now) file None r → Starts n r
starts n files fails file before now r e f g h =
    let a = subst (λ fs. Prepares (λ p. bytes_at fs p) (λ p. CanFail fs fails p) (Rose before now) file None r) e h in
    let b = subst (λ ns. Prepares (λ p. bytes_at (load_files n) p) (λ p. CanFail (load_files n) ns p) (Rose before now) file None r) f a in
    (before, now, subst (λ x. Prepares (load_tells n) (load_refused n) (Rose before now) x None r) g b)

-- the inputs of a checked form that was found fit its main workflow
pub fits_start : (n : ℕ) (r : Result Prepared CommandStop) → Starts n r → IfOk r (λ p. (f : FlowDef) × IsFitting p.checked p.given f)
fits_start n (Ok p) h = let g = h.2.0.fits in (g.flow, record { main = g.main; fit = g.fit })
fits_start n (Err st) h = tt

pub starved_start : (n : ℕ) (st : CommandStop) → st.status ≡ status.NoMemory → Starts n (Err st)
starved_start n st e = (0, 0, subst (λ s. PrepareStops (load_tells n) (load_refused n) (Rose 0 0) load_file None s st.paths) (sym e) tt)

module _ (n : ℕ) (t : Trace) where
  pub runs_load : (rows : List TableRow) (refused : List (List Segment)) (o : RunOptions) (c : Checked) (given : List Bind) (f : FlowDef) (w : Work)
      → AreLoadRows n rows → refused ≡ [] → o ≡ load_options n
      → RunsMain (λ q a. Gives rows refused q.place q.attempt a) (λ q. Refuses rows refused q.place q.attempt) t (main_with c given o f) w
      → RunsLoad n t (main_with c given (load_options n) f) w
  runs_load rows refused o c given f w of e same h =
      let a = subst (λ ps. RunsMain (λ q a. Gives rows ps q.place q.attempt a) (λ q. Refuses rows ps q.place q.attempt) t (main_with c given o f) w) e h in
      inr (rows, of, subst (λ x. RunsMain (table_gives rows) (table_refuses rows) t (main_with c given x f) w) same a)

  -- words that ask for nothing, or for a load that wants memory
  pub asks_loads : (words : Words) → IsLoadOf words n → IsIdle t → (s : Status) (st : CommandStop) → st.status ≡ s → AskStops words s → LoadsAs n t (work.Stop st)
  asks_loads words asked idle status.NoMemory st e h =
      inl (0, 0, record { idle = idle; stop = st; is = refl; cause = subst (λ s. PrepareStops (load_tells n) (load_refused n) (Rose 0 0) load_file None s st.paths) (sym e) tt })
  asks_loads words asked idle status.Usage st e h = absurd (readable words (command.Load n) asked h)
  asks_loads words asked idle status.Ok st e h = absurd h
  asks_loads words asked idle (status.Failed fault) st e h = absurd h
  asks_loads words asked idle (status.Document code span) st e h = absurd h
  asks_loads words asked idle (status.Inputs code name) st e h = absurd h
  asks_loads words asked idle (status.Read path) st e h = absurd h
  asks_loads words asked idle status.Write st e h = absurd h
  asks_loads words asked idle (status.NotInSubset rule span) st e h = absurd h
  asks_loads words asked idle (status.Launch place) st e h = absurd h
  asks_loads words asked idle status.Keep st e h = absurd h
  asks_loads words asked idle status.TooMany st e h = absurd h

  -- ---- a load with a text

  text_same : (a b : List ℕ) → work.Text a ≡ work.Text b → a ≡ b
  text_same a b e = cc

  no_stop : (a : List ℕ) (st : CommandStop) → work.Text a ≡ work.Stop st → ⊥
  no_stop a st e = cc

  no_stops : (a : List ℕ) (s : Status) → work.Text a ≡ stops s → ⊥
  no_stops a s e = cc

  module _ (text : List ℕ) where
    module _ (rows : List TableRow) (of : AreLoadRows n rows) (c : Checked) (given : List Bind) (p : IsPrepared (load_tells n) load_file None c given) where
      abbrev its_main : Main
      its_main = main_with c given (load_options n) p.fits.flow

      by_why : (why : Option Why) (left : Leaves (table_gives rows) (table_refuses rows) t its_main why)
          → Turns its_main.options.report its_main.flow.name (core_of its_main t left.taken left.out left.plan) why (work.Text text) → IsLoaded n t text
      by_why None left (inl e) =
          let d = (has_begun _ _ _ left.run (λ e. cc)).clean refl in
          record {
            rows = rows;
            of_calls = of;
            main = its_main;
            checked = p.has;
            is_main = p.fits.main;
            no_inputs = subst (λ x. inputs_in c.structs p.fits.flow x ≡ Ok given) p.fits.is_text p.fits.reads;
            options = refl;
            left = left;
            few = d.few;
            clean = d.clean;
            paid = (left.paid refl d.few).within;
            line = text_same text _ e;
          }
      by_why None left (inr e) = absurd (no_stops text status.NoMemory e)
      by_why (Some why) left (s, e, h) = absurd (no_stops text s e)

      by_run : RunsMain (table_gives rows) (table_refuses rows) t its_main (work.Text text) → IsLoaded n t text
      by_run (inl h) = absurd (no_stops text status.NoMemory h.1)
      by_run (inr (inl h)) = absurd (no_stops text status.Keep h.1)
      by_run (inr (inr h)) = by_why h.why h.left h.turns

    is_loaded : LoadsAs n t (work.Text text) → IsLoaded n t text
    is_loaded (inl h) = absurd (no_stop text h.2.stop h.2.is)
    is_loaded (inr h) = by_load h.ran
      where
        by_load : RunsLoad n t (main_with h.checked h.given (load_options n) h.prepared.fits.flow) (work.Text text) → IsLoaded n t text
        by_load (inl x) = absurd (no_stops text status.NoMemory x.1)
        by_load (inr x) = by_run x.0 x.1 h.checked h.given h.prepared x.2

  -- ---- a load that stopped

  -- a stop is never Ok
  abbrev is_ok : Status → Bool
  is_ok status.Ok = true
  is_ok s = false

  abbrev status_of : Work → Status
  status_of (work.Stop st) = st.status
  status_of (work.Text text) = status.Ok

  not_ok : (s r : Status) → s ≡ r → s ≡ status.Ok → is_ok r ≡ false → ⊥
  not_ok s r e o f = false≢true (sym f ∙ ap is_ok (sym e ∙ o))

  failed_not_ok : (c : CoreState) (s : Status) → s ≡ status.Ok → IsFailedAs c s → ⊥
  failed_not_ok c s e h = subst (λ x. IsFailedAs c x) e h

  stopped_not_ok : (c : CoreState) (why : Why) (s : Status) → s ≡ status.Ok → StopsAs c why s → ⊥
  stopped_not_ok c end.Failed s e h = failed_not_ok c s e h
  stopped_not_ok c end.NoMemory s e h = not_ok s status.NoMemory h e refl
  stopped_not_ok c (end.Launch place) s e h = not_ok s (status.Launch place) h e refl
  stopped_not_ok c end.Keep s e h = not_ok s status.Keep h e refl
  stopped_not_ok c end.TooMany s e h = not_ok s status.TooMany h e refl

  module _ (st : CommandStop) (o : st.status ≡ status.Ok) where
    is_stops : (s : Status) → work.Stop st ≡ stops s → s ≡ status.Ok
    is_stops s e = sym (ap status_of e) ∙ o

    no_turn : (m : Main) (c : CoreState) (why : Option Why) → Turns m.options.report m.flow.name c why (work.Stop st) → ⊥
    no_turn m c None (inl e) = no_stop _ st (sym e)
    no_turn m c None (inr e) = not_ok status.NoMemory status.NoMemory refl (is_stops status.NoMemory e) refl
    no_turn m c (Some why) (s, e, h) = stopped_not_ok c why s (is_stops s e) h

    no_run : (rows : List TableRow) (m : Main) → RunsMain (table_gives rows) (table_refuses rows) t m (work.Stop st) → ⊥
    no_run rows m (inl h) = not_ok status.NoMemory status.NoMemory refl (is_stops status.NoMemory h.1) refl
    no_run rows m (inr (inl h)) = not_ok status.Keep status.Keep refl (is_stops status.Keep h.1) refl
    no_run rows m (inr (inr h)) = no_turn m (core_of m t h.left.taken h.left.out h.left.plan) h.why h.turns

    never_ok : LoadsAs n t (work.Stop st) → ⊥
    never_ok (inl h) =
        let same = ap status_of h.2.is in
        subst (λ s. PrepareStops (load_tells n) (load_refused n) (Rose h.0 h.1) load_file None s h.2.stop.paths) (sym same ∙ o) h.2.cause
    never_ok (inr h) = by_load h.ran
      where
        by_load : RunsLoad n t (main_with h.checked h.given (load_options n) h.prepared.fits.flow) (work.Stop st) → ⊥
        by_load (inl x) = not_ok status.NoMemory status.NoMemory refl (is_stops status.NoMemory x.1) refl
        by_load (inr x) = no_run x.0 (main_with h.checked h.given (load_options n) h.prepared.fits.flow) x.2

  -- ---- with Ok

  module _ (out out' err err' : Told) (rose_out rose_err : Type 0) (r : Status) (ok : r ≡ status.Ok) where
    not_reported : (st : CommandStop) → LoadsAs n t (work.Stop st) → Reports st.status st.paths err err' rose_err r → ⊥
    not_reported st h (inl (inl x)) = never_ok st (sym x.0 ∙ ok) h
    not_reported st h (inl (inr x)) = not_ok r status.Write x.0 ok refl
    not_reported st h (inr (inl x)) = not_ok r status.NoMemory x.0 ok refl
    not_reported st h (inr (inr x)) = not_ok r status.Write x.0 ok refl

    pub load_written : (w : Work) → LoadsAs n t w → Finishes w out out' err err' rose_out rose_err r → IsLoadWritten n t out out' err err'
    load_written (work.Text text) h (inl f) = record { text = text; loaded = is_loaded text h; output = f.1; error = f.2 }
    load_written (work.Text text) h (inr f) = absurd (not_ok r status.Write f.0 ok refl)
    load_written (work.Stop st) h f = absurd (not_reported st h f.1)
