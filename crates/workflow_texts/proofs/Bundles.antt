-- From the stages of a bundle to its work.
use Rattle.std.proofs.Common.{◌≡◌, ◌<◌, ◌≤◌, inl, inr, ℕ, Bool, true, false, List, [], None, Result, Ok, Err, IfOk, length, ap, sym, subst, ◌∙◌, refl}
use Rattle.std.proofs.lemmas.Bool.{false≢true}
use Rattle.report_text.specs.declared.status.Status.{Status}
use Rattle.report_text.specs.declared.status.Status.TheVariants as status
use Rattle.wdl_base.specs.declared.error.NoMemory.{NoMemory}
use Rattle.wdl_base.specs.declared.span.Span.{Span}
use Rattle.wdl_ast.specs.declared.document.Document.{Document}
use Rattle.wdl_port.specs.Causes.{Rose}
use Rattle.wdl_port.specs.Memory.{CanFail, bytes_at}
use Rattle.wdl_port.specs.declared.memory_shelf.PathFile.{PathFile}
use Rattle.wdl_library.specs.declared.library.Library.{Library}
use Rattle.wdl_typed.specs.declared.checked.Checked.{Checked}
use Rattle.wdl_imports.specs.Libraries.{HasLibrary}
use Rattle.wdl_bundle.specs.Bundled.{Answers}
use Rattle.wdl_bundle.specs.declared.fault.BundleFault.{BundleFault}
use Rattle.wdl_bundle.specs.declared.fault.BundleFault.TheVariants as fault
use Rattle.wdl_print.specs.Printed.{printed_document}
use Rattle.workflow_stages.specs.declared.ended.CommandStop.{CommandStop}
use Rattle.workflow_stages.specs.declared.ended.Work.{Work}
use Rattle.workflow_stages.specs.declared.ended.Work.TheVariants as work
use Rattle.workflow_stages.specs.Alone.{alone, alone_refused, only_file}
use Rattle.workflow_stages.specs.Documents.{Checks, CheckStops, HasChecked, HasMainIn, MainInStops, MainStops, Tells}
use Rattle.workflow_stages.specs.Paths.{ArePaths, IsOutsideStop}
use Rattle.workflow_texts.specs.Bundling.{Breaks, BundleInStops, BundleStops, BundleWork, ChecksAlone, Compares, HasCheckedText, HasText, IsOther, IsPrint, IsText, WritesBundle, bundle_of, flow_call, is_same, is_starved, nowhere}
use Rattle.workflow_stages.proofs.Joined.{has_main, main_stops, number_of}

-- ---- the text

-- the text of the bundle, without a call of a workflow
pub has_text : (lib : Library) (d : Document) (r : Result (List ℕ) BundleFault) → flow_call lib ≡ None → d ≡ bundle_of lib → IsPrint d r → HasText lib r
has_text lib d (Ok text) none e h = record { calls_no_workflow = none; says = h.0 ∙ ap printed_document e; short = h.1 }
has_text lib d (Err (fault.Bad rule span)) none e h =
    inr (record { is_rule = h.0; is_span = h.1; calls_no_workflow = none; long = subst (λ (x : Document). 1048576 < length (printed_document x)) e h.2 })
has_text lib d (Err fault.NoMemory) none e h = tt

pub no_text : (lib : Library) (e : BundleFault) → Answers (flow_call lib) (bundle_of lib) (Err e) → HasText lib (Err e)
no_text lib (fault.Bad rule span) h = inl (record { is_rule = h.0; calls_workflow = h.1 })
no_text lib fault.NoMemory h = tt

-- ---- the text alone

module _ (file text : List ℕ) where
  -- what a shelf of that text alone gives
  pub form_alone : (files : List PathFile) (fails : List ℕ) (before now : ℕ) (r : Result Checked CommandStop) → files ≡ only_file file text → fails ≡ []
      → Checks (λ p. bytes_at files p) file (λ p. CanFail files fails p) (Rose before now) r → ChecksAlone file text r
  form_alone files fails before now r e f h =
      let a = subst (λ (fs : List PathFile). Checks (λ p. bytes_at fs p) file (λ p. CanFail fs fails p) (Rose before now) r) e h in
      (before, now, subst (λ (ns : List ℕ). Checks (alone file text) file (λ p. CanFail (only_file file text) ns p) (Rose before now) r) f a)

  pub starved_alone : (st : CommandStop) → st.status ≡ status.NoMemory → ChecksAlone file text (Err st)
  starved_alone st e = (0, 0, subst (λ (s : Status). CheckStops (alone file text) file (alone_refused file text) (Rose 0 0) s st.paths) (sym e) tt)

module _ (c : Checked) (file text : List ℕ) where
  -- a form, compared with this one
  pub compares : (form : Checked) (r : Result Bool NoMemory) → HasChecked (alone file text) file form → IfOk r (λ same. same ≡ is_same c form) → Compares c file text r
  compares form (Ok true) has e = record { form = form; has = has; same = sym e }
  compares form (Ok false) has e = inr (record { form = form; has = has; other = sym e })
  compares form (Err x) has e = tt

  -- no form
  pub other_form : (before now : ℕ) (s : Status) (paths : List (List ℕ)) → is_starved s ≡ false → CheckStops (alone file text) file (alone_refused file text) (Rose before now) s paths → IsOther c file text
  other_form before now (status.Read path) paths e h = inl (inr (record { path = path; reached = h.reached; missing = h.refusal }))
  other_form before now (status.Document code span) paths e h = inl (inl (record { code = code; span = span; paths = paths; refused = h }))
  other_form before now status.NoMemory paths e h = absurd (false≢true (sym e))
  other_form before now status.Ok paths e h = absurd h
  other_form before now (status.Failed fault) paths e h = absurd h
  other_form before now status.Usage paths e h = absurd h
  other_form before now (status.Inputs code name) paths e h = absurd h
  other_form before now status.Write paths e h = absurd h
  other_form before now (status.NotInSubset rule span) paths e h = absurd h
  other_form before now (status.Launch place) paths e h = absurd h
  other_form before now status.Keep paths e h = absurd h
  other_form before now status.TooMany paths e h = absurd h

module _ (lib : Library) (c : Checked) (file : List ℕ) where
  pub no_checked_text : (e : BundleFault) → HasText lib (Err e) → HasCheckedText lib c file (Err e)
  no_checked_text (fault.Bad rule span) h = inl h
  no_checked_text fault.NoMemory h = tt

  -- the text alone has another form
  pub changed : (text : List ℕ) → IsText lib text → IsOther c file text → Breaks lib c file 622 nowhere
  changed text t h =
      inr (record {
        is_rule = refl;
        is_span = refl;
        calls_no_workflow = t.calls_no_workflow;
        short = subst (λ (x : List ℕ). length x ≤ 1048576) t.says t.short;
        other = subst (IsOther c file) t.says h;
      })

  -- ---- the work

  module _ (all : List (List ℕ)) (rule : ℕ) (span : Span) (h : Breaks lib c file rule span) where
    pub ruled_out : (s : Status) (paths : List (List ℕ)) → IsOutsideStop rule span all s paths → BundleInStops lib c all file s paths
    ruled_out (status.NotInSubset n at) paths (is_rule, is_span, named) =
        (subst (λ x. Breaks lib c file x at) (sym is_rule) (subst (Breaks lib c file rule) (sym is_span) h), subst (λ (x : Span). ArePaths all x.doc paths) (sym is_span) named)
    ruled_out status.NoMemory paths k = tt
    ruled_out status.Ok paths k = absurd k
    ruled_out (status.Failed fault) paths k = absurd k
    ruled_out status.Usage paths k = absurd k
    ruled_out (status.Document code at) paths k = absurd k
    ruled_out (status.Inputs code name) paths k = absurd k
    ruled_out (status.Read path) paths k = absurd k
    ruled_out status.Write paths k = absurd k
    ruled_out (status.Launch place) paths k = absurd k
    ruled_out status.Keep paths k = absurd k
    ruled_out status.TooMany paths k = absurd k

module _ (tells : Tells) (refused : List ℕ → Type 0) (rose : Type 0) (file : List ℕ) where
  -- no main workflow
  pub unread : (s : Status) (paths : List (List ℕ)) → MainStops tells file refused rose s paths → BundleStops tells refused rose file s paths
  unread (status.Read path) paths h = h
  unread (status.Document code span) paths h = h
  unread status.NoMemory paths h = tt
  unread status.Ok paths h = absurd h
  unread (status.Failed fault) paths h = absurd h
  unread status.Usage paths h = absurd h
  unread (status.Inputs code name) paths h = absurd h
  unread status.Write paths h = absurd h
  unread (status.NotInSubset rule span) paths h = absurd h
  unread (status.Launch place) paths h = absurd h
  unread status.Keep paths h = absurd h
  unread status.TooMany paths h = absurd h

  module _ (lib : Library) (has : HasLibrary tells file lib) where
    pub mainless : (s : Status) (paths : List (List ℕ)) → MainInStops lib file s paths → BundleStops tells refused rose file s paths
    mainless s paths h = unread s paths (main_stops tells file refused rose lib has s paths h)

    module _ (c : Checked) (all : List (List ℕ)) (m : HasMainIn lib c all) where
      abbrev number : ℕ
      number = (number_of tells file refused rose lib has c all m).0

      stops : (s : Status) (paths : List (List ℕ)) → BundleInStops lib c all file s paths → BundleStops tells refused rose file s paths
      stops (status.NotInSubset rule span) paths h =
          record { checked = c; number = number; flow = m.flow; all = all; source = has_main tells file refused rose lib has c all m; broken = h.0; named = h.1 }
      stops status.NoMemory paths h = tt
      stops status.Ok paths h = absurd h
      stops (status.Failed fault) paths h = absurd h
      stops status.Usage paths h = absurd h
      stops (status.Document code span) paths h = absurd h
      stops (status.Inputs code name) paths h = absurd h
      stops (status.Read path) paths h = absurd h
      stops status.Write paths h = absurd h
      stops (status.Launch place) paths h = absurd h
      stops status.Keep paths h = absurd h
      stops status.TooMany paths h = absurd h

      pub writes_bundle : (w : Work) → BundleWork lib c all file w → WritesBundle tells refused rose file w
      writes_bundle (work.Text text) h = record {
        checked = c;
        number = number;
        flow = m.flow;
        paths = all;
        source = has_main tells file refused rose lib has c all m;
        calls_no_workflow = h.0.calls_no_workflow;
        says = h.0.says;
        short = h.0.short;
        same = h.1;
      }
      writes_bundle (work.Stop stop) h = stops stop.status stop.paths h
