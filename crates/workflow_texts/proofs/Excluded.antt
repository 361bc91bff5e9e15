-- What is in the subset, and what is not.
use Rattle.std.proofs.Common.{◌≡◌, ℕ, suc, true, List, [], ◌∷◌, ◌++◌, Option, Some, None, Result, Ok, Err, IfOk, ap, sym, subst, ◌∙◌, refl, arith, codes}
use Rattle.std.proofs.lemmas.Bool.{false≢true, and_parts}
use Rattle.std.specs.List.{Any, slice_get}
use Rattle.wdl_base.specs.declared.span.Span.{Span}
use Rattle.wdl_typed.specs.declared.checked.Checked.{Checked}
use Rattle.wdl_typed.specs.Bodies.{Library, library}
use Rattle.cwl_model.specs.declared.process.Process.{Process, out-Process}
use Rattle.cwl_model.specs.declared.process.Process.TheVariants as process
use Rattle.cwl_image.specs.declared.broken.Broken.{Broken}
use Rattle.cwl_image.specs.Image.{Targets, flow_at, flow_image, image, target_by}
use Rattle.wdl_typed.specs.declared.task.TInput.{TInput}
use Rattle.cwl_records.specs.declared.leaf.RecordLeaf.{RecordLeaf}
use Rattle.cwl_records.specs.declared.lowering.Lowered.{Lowered}
use Rattle.cwl_records.specs.Outcomes.{IsLowered, lowered_form}
use Rattle.wide_formed.specs.Forms.{LoweredForm, Says as SaysForm, form_by, is_flow}
use Rattle.cwl_image.specs.Kept.{is_kept}
use Rattle.cwl_image.specs.Named.{names_are_names}
use Rattle.cwl_emit.specs.Objects.{object_text}
use Rattle.cwl_image.specs.Subset.{broken_in, in_subset, is_empty, places_of}
use Rattle.cwl_subset.specs.declared.subset.Subset.{Subset}
use Rattle.cwl_flow.specs.Drafts as draft
use Rattle.wdl_base.specs.declared.error.NoMemory.{NoMemory}
use Rattle.wdl_value.specs.declared.env.Bind.{Bind}
use Rattle.wdl_typed.specs.declared.flow.FlowDef.{FlowDef}
use Rattle.report_text.specs.declared.status.Status.{Status}
use Rattle.report_text.specs.declared.status.Status.TheVariants as status
use Rattle.workflow_stages.specs.declared.ended.Work.{Work}
use Rattle.workflow_stages.specs.declared.ended.Work.TheVariants as work
use Rattle.workflow_stages.specs.Documents.{HasMain, Tells}
use Rattle.workflow_stages.specs.Preparing.{IsPrepared}
use Rattle.workflow_texts.specs.Translating.{BreaksLowest, BreaksNone, DocumentStops, DocumentWork, FormObjectWork, FormStops, FormWork, GivesAll, HasNames, IsInSubset, IsLowest, ObjectStops, ObjectWork, SubsetStops, TextWork, WritesDocument, WritesObject, form_of, form_with, library_of, lowered}

none_of : {A : Type 0} (P : A → Type 0) → Any P [] → ⊥
none_of P h = omega (arith, h.2)

no_places : (n : ℕ) (bs : List Broken) → is_empty bs ≡ true → places_of n bs ≡ []
no_places n [] h = refl
no_places n (b ∷ bs) h = absurd (false≢true h)

-- no rule is broken in what is in the subset
pub not_outside : (c : Checked) (number rule : ℕ) (span : Span) → IsLowest c number rule span → IsInSubset c number → ⊥
not_outside c number rule span h k =
    none_of (λ (s : Span). s ≡ span) (subst (Any (λ (s : Span). s ≡ span)) (no_places rule (broken_in (lowered c number).lib number) k) h.broken)

-- a form of the subset is in it, and its names are NAMEs
subset_holds : (s : Subset) (c : Checked) → s.checked ≡ c → (number : ℕ) → c.main ≡ Some number → BreaksNone (library_of c) number × HasNames (library_of c)
subset_holds s c e number m =
    let kept = subst (λ (x : Checked). is_kept (library_of x) x.main ≡ true) e s.kept in
    and_parts (in_subset (library_of c) number) (names_are_names (library_of c)) (sym (ap (is_kept (library_of c)) m) ∙ kept)

-- the process of the main workflow is its image
pub image_is : (c : Checked) (p : Process) → draft.image_of (draft.library_of c) c.main ≡ Some p → (number : ℕ) → c.main ≡ Some number → p ≡ image (library_of c) number
unfolding draft.image_of
image_is c p h number m = let e = sym (ap (draft.image_of (draft.library_of c)) m) ∙ h in cc

flow_there : (lib : Library) (targets : Targets) (o : Option FlowDef) → is_flow (out-Process (flow_at lib targets o)) ≡ true
flow_there lib targets None = ap is_flow (process.outs-Flow _)
flow_there lib targets (Some f) = ap is_flow (process.outs-Flow _)

image_flows : (lib : Library) (depth main : ℕ) → is_flow (out-Process (flow_image lib (suc depth) main)) ≡ true
image_flows lib depth main = flow_there lib (target_by lib (flow_image lib depth)) (slice_get lib.flows main)

-- It is a Workflow.
pub is_workflow : (c : Checked) (p : Process) → draft.image_of (draft.library_of c) c.main ≡ Some p → is_flow (out-Process p) ≡ true
unfolding draft.image_of
is_workflow c p h = by_main c.main h
  where
    by_main : (o : Option ℕ) → draft.image_of (draft.library_of c) o ≡ Some p → is_flow (out-Process p) ≡ true
    by_main None e = cc
    by_main (Some number) e = let q : image (library_of c) number ≡ p = cc in subst (λ x. is_flow (out-Process x) ≡ true) q (image_flows (library_of c) 24 number)

-- ---- the form without aliases and struct inputs

lowered_is : (c : Checked) (l : Lowered) → IsLowered c l → (number : ℕ) → c.main ≡ Some number → form_of l ≡ lowered c number
lowered_is c l h number m =
    ap (λ s. record { lib = library s l.checked.tasks l.checked.flows; records = l.records; source = l.source }) h.kept.structs
    ∙ ap (λ t. record { lib = library c.structs t l.checked.flows; records = l.records; source = l.source }) h.kept.tasks
    ∙ ap (form_by (library_of c)) (h.is ∙ ap (lowered_form (library_of c)) m)

main_kept : (c : Checked) (l : Lowered) → IsLowered c l → (number : ℕ) → c.main ≡ Some number → l.checked.main ≡ Some number
main_kept c l h number m = h.kept.main ∙ m

form_stops : (c : Checked) (l : Lowered) (all : List (List ℕ)) → IsLowered c l → (s : Status) (paths : List (List ℕ)) → FormStops l.checked all s paths → SubsetStops c all s paths
form_stops c l all h (status.NotInSubset rule span) paths k = (
  (λ number m. subst (λ (x : LoweredForm). BreaksLowest x.lib number rule span) (lowered_is c l h number m) (k.0 number (main_kept c l h number m))),
  k.1,
)
form_stops c l all h status.NoMemory paths k = tt
form_stops c l all h status.Ok paths k = absurd k
form_stops c l all h (status.Failed fault) paths k = absurd k
form_stops c l all h status.Usage paths k = absurd k
form_stops c l all h (status.Document code span) paths k = absurd k
form_stops c l all h (status.Inputs code name) paths k = absurd k
form_stops c l all h (status.Read path) paths k = absurd k
form_stops c l all h status.Write paths k = absurd k
form_stops c l all h (status.Launch place) paths k = absurd k
form_stops c l all h status.Keep paths k = absurd k
form_stops c l all h status.TooMany paths k = absurd k

-- ---- the document

pub form_work : (l : Lowered) (all : List (List ℕ)) (s : Subset) (records : List RecordLeaf) (source : List TInput) (r : Result (List ℕ) NoMemory) (w : Work) → s.checked ≡ l.checked → records ≡ l.records
    → source ≡ l.source → IfOk r (λ t. (number : ℕ) → s.checked.main ≡ Some number → SaysForm (form_with s.checked records source) number t) → TextWork r w → FormWork l all w
form_work l all s records source (Ok t) w e a b h k =
    subst (FormWork l all) (sym k)
    (λ number m.
    let k = subset_holds s l.checked e number m in (
      k.0,
      k.1,
      subst (λ (x : List TInput). SaysForm (form_with l.checked l.records x) number t) b
          (subst (λ (x : List RecordLeaf). SaysForm (form_with l.checked x source) number t) a
          (subst (λ (x : Checked). SaysForm (form_with x records source) number t) e (h number (ap (λ (x : Checked). x.main) e ∙ m)))),
    ))
form_work l all s records source (Err x) (work.Stop stop) e a b h k = subst (λ st. FormStops l.checked all st stop.paths) (sym k) tt
form_work l all s records source (Err x) (work.Text text) e a b h k = absurd k

pub document_work : (c : Checked) (l : Lowered) (all : List (List ℕ)) (w : Work) → IsLowered c l → FormWork l all w → DocumentWork c all w
document_work c l all (work.Text text) h k =
    λ number m.
    let e = lowered_is c l h number m in
    let d = k number (main_kept c l h number m) in (
      subst (λ (x : LoweredForm). BreaksNone x.lib number) e d.0,
      subst (λ (x : LoweredForm). HasNames x.lib) e d.1,
      subst (λ (x : LoweredForm). SaysForm x number text) e d.2,
    )
document_work c l all (work.Stop stop) h k = form_stops c l all h stop.status stop.paths k

pub form_object_work : (c : Checked) (all : List (List ℕ)) (given : List Bind) (s : Subset) (r : Result (List ℕ) NoMemory) (w : Work) → s.checked ≡ c
    → IfOk r (λ t. t ≡ object_text given ++ codes "\n") → TextWork r w → FormObjectWork c all given w
form_object_work c all given s (Ok t) w e h k = subst (FormObjectWork c all given) (sym k) ((λ number m. subset_holds s c e number m), h)
form_object_work c all given s (Err x) (work.Stop stop) e h k = subst (λ st. FormStops c all st stop.paths) (sym k) tt
form_object_work c all given s (Err x) (work.Text text) e h k = absurd k

pub object_work : (c : Checked) (l : Lowered) (all : List (List ℕ)) (given : List Bind) (w : Work) → IsLowered c l → FormObjectWork l.checked all given w → ObjectWork c all given w
object_work c l all given (work.Text text) h k = (
  (λ number m.
      let e = lowered_is c l h number m in
      let d = k.0 number (main_kept c l h number m) in
      (subst (λ (x : LoweredForm). BreaksNone x.lib number) e d.0, subst (λ (x : LoweredForm). HasNames x.lib) e d.1)),
  k.1,
)
object_work c l all given (work.Stop stop) h k = form_stops c l all h stop.status stop.paths k

-- want of memory
pub unlowered : (c : Checked) (all : List (List ℕ)) (s : Status) (paths : List (List ℕ)) → s ≡ status.NoMemory → SubsetStops c all s paths
unlowered c all s paths e = subst (λ x. SubsetStops c all x paths) (sym e) tt

module _ (tells : Tells) (refused : List ℕ → Type 0) (rose : Type 0) (file : List ℕ) (c : Checked) (all : List (List ℕ)) where
  abbrev Mains : Type 0
  Mains = (number : ℕ) × (f : FlowDef) × HasMain tells file c number f all

  document_stops : Mains → (s : Status) (paths : List (List ℕ)) → SubsetStops c all s paths → DocumentStops tells refused rose file s paths
  document_stops m (status.NotInSubset rule span) paths h =
      record { checked = c; number = m.0; flow = m.1; all = all; source = m.2; given = tt; lowest = h.0 m.0 m.2.numbered; named = h.1 }
  document_stops m status.NoMemory paths h = tt
  document_stops m status.Ok paths h = absurd h
  document_stops m (status.Failed fault) paths h = absurd h
  document_stops m status.Usage paths h = absurd h
  document_stops m (status.Document code span) paths h = absurd h
  document_stops m (status.Inputs code name) paths h = absurd h
  document_stops m (status.Read path) paths h = absurd h
  document_stops m status.Write paths h = absurd h
  document_stops m (status.Launch place) paths h = absurd h
  document_stops m status.Keep paths h = absurd h
  document_stops m status.TooMany paths h = absurd h

  pub writes_document : (w : Work) → Mains → DocumentWork c all w → WritesDocument tells refused rose file w
  writes_document (work.Text text) m h =
      let d = h m.0 m.2.numbered in record { checked = c; number = m.0; flow = m.1; paths = all; source = m.2; in_subset = d.0; named = d.1; says = d.2 }
  writes_document (work.Stop stop) m h = document_stops m stop.status stop.paths h

  -- ---- the input object

  gives_all : (inputs : Option (List ℕ)) (given : List Bind) (p : IsPrepared tells file inputs c given) → GivesAll tells inputs c p.fits.flow
  gives_all None given p = tt
  gives_all (Some path) given p = (p.fits.text, given, p.fits.is_text, p.fits.reads)

  module _ (inputs : Option (List ℕ)) (given : List Bind) (p : IsPrepared tells file inputs c given) (m : Mains) where
    source : HasMain tells file c m.0 p.fits.flow all
    source = record { located = m.2.located; numbered = m.2.numbered; main = p.fits.main }

    object_stops : (s : Status) (paths : List (List ℕ)) → SubsetStops c all s paths → ObjectStops tells refused rose file inputs s paths
    object_stops (status.NotInSubset rule span) paths h =
        record { checked = c; number = m.0; flow = p.fits.flow; all = all; source = source; given = gives_all inputs given p; lowest = h.0 m.0 m.2.numbered; named = h.1 }
    object_stops status.NoMemory paths h = tt
    object_stops status.Ok paths h = absurd h
    object_stops (status.Failed fault) paths h = absurd h
    object_stops status.Usage paths h = absurd h
    object_stops (status.Document code span) paths h = absurd h
    object_stops (status.Inputs code name) paths h = absurd h
    object_stops (status.Read path) paths h = absurd h
    object_stops status.Write paths h = absurd h
    object_stops (status.Launch place) paths h = absurd h
    object_stops status.Keep paths h = absurd h
    object_stops status.TooMany paths h = absurd h

    pub writes_object : (w : Work) → ObjectWork c all given w → WritesObject tells refused rose file inputs w
    writes_object (work.Text text) h =
        record {
          checked = c;
          number = m.0;
          flow = p.fits.flow;
          paths = all;
          source = source;
          read = p.fits.text;
          is_read = p.fits.is_text;
          given = given;
          reads = p.fits.reads;
          in_subset = (h.0 m.0 m.2.numbered).0;
          named = (h.0 m.0 m.2.numbered).1;
          says = h.1;
        }
    writes_object (work.Stop stop) h = object_stops stop.status stop.paths h
