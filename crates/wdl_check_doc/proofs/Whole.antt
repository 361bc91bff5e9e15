-- A typed library is all that a checked form keeps, by what is true of its tasks and workflows.
use Rattle.std.proofs.Common.{◌≡◌, ℕ, suc, ◌+◌, ◌≤◌, ◌^◌, Bool, true, false, ◌&&◌, cond, List, [], ◌∷◌, ◌++◌, Some, append-nil, append_assoc, length, length-append, map, nat_lt, slice_get, refl, sym, ap, subst, ◌∙◌, arith}
use Rattle.std.specs.List.{list_all}
use Rattle.std.proofs.lemmas.Bool.{and_from, and_parts, false≢true, lt-ltb}
use Rattle.std.proofs.lemmas.Option.{same_Some}
use Rattle.wdl_value.specs.Fits.{Structs}
use Rattle.wdl_ast.specs.declared.document.Section.{Section}
use Rattle.wdl_ast.specs.declared.document.Section.TheVariants as section
use Rattle.wdl_ast.specs.declared.task.TaskSection.{TaskSection}
use Rattle.wdl_ast.specs.declared.workflow.Workflow.{Workflow}
use Rattle.wdl_ast.specs.DocumentWords.{document_words, section_words, task_words, workflow_words}
use Rattle.wdl_ast.specs.DocumentWords as words
use Rattle.wdl_typed.specs.declared.checked.CheckedParts.{CheckedParts}
use Rattle.wdl_typed.specs.declared.flow.FlowDef.{FlowDef}
use Rattle.wdl_typed.specs.declared.flow.Statement.{Statement, out-Statement}
use Rattle.wdl_typed.specs.declared.task.TaskDef.{TaskDef}
use Rattle.wdl_typed.specs.Bodies.{Library, body_nests, library, nests}
use Rattle.wdl_typed.specs.Declarations as well
use Rattle.wdl_typed.specs.Kept.{count, count_statements, flow_typed, is_checked, main_is_there, sum_of}
use Rattle.wdl_typed.specs.KnownTypes.{are_structs}
use Rattle.wdl_library.specs.declared.doc.Doc.{Doc}
use Rattle.wdl_library.specs.Links.{has_links, has_no_circle, is_countable, is_linked, tokens_in}
use Rattle.wdl_library.specs.Structs.{HasStructs}
use Rattle.wdl_check_types.specs.Laws.{AreKnown, WrittenTypes}
use Rattle.wdl_check_types.specs.Outcome.{Outcome, done, refused, then_}
use Rattle.wdl_check_flow.specs.declared.flow.FlowHead.{FlowHead}
use Rattle.wdl_check_flow.specs.declared.flow.FlowRest.{FlowRest}
use Rattle.wdl_check_flow.specs.Flows.{head_typed}
use Rattle.wdl_check_flow.specs.Laws.{FlowsCounted, FlowsNamed, FlowsTyped, HeadsFit, IsOf}
use Rattle.wdl_check_flow.specs.Targets.{Place}
use Rattle.wdl_check_task.specs.Laws.{TaskCounts, TaskTypes}
use Rattle.wdl_check_doc.specs.Checked.{checked_parts, first_among, main_of, runnables_typed, typed}
use Rattle.wdl_check_doc.specs.Flows.{flow_def, flow_defs, flow_nests, flow_span, flows_nest, flows_typed, place, rest_in, rests_typed, span_at, statement_nests}
use Rattle.wdl_check_doc.specs.Laws.{LibrariesChecked}
use Rattle.wdl_check_doc.specs.Offers.{Table, flow_offers, own_at, spaces, tables, task_offers}
use Rattle.wdl_check_doc.specs.Outcomes.{all, each}
use Rattle.wdl_check_doc.specs.Parts.{Part, part, parts_from, world}
use Rattle.wdl_check_doc.specs.Runnables.{FlowPart, Headed, TaskPart, flow_part, flows_at, flows_of, head_in, head_of, headed, names_typed, task_in, task_part, tasks_at, tasks_in, tasks_of, workflows_in}
use Rattle.wdl_check_doc.specs.Structs.{structs_typed}
use Rattle.wdl_check_doc.proofs.Kept.{all_have, have_parts, sections_fine}
use Rattle.wdl_check_doc.proofs.Offering.{FitAll, flows_offered, targets_are, tasks_offered}
use Rattle.wdl_check_doc.proofs.StructLaws.{names_known, structs_kept}
use Rattle.wdl_check_doc.proofs.Typed.{Have, each_have}
use Rattle.wdl_base.proofs.Options.{then_parts}

-- ---- lists and what was made of their members

abbrev Both : {A B : Type 0} → (A → B → Type 0) → List A → List B → Type 0
Both R [] [] = Unit {0}
Both R [] (b ∷ bs) = ⊥
Both R (a ∷ as_) [] = ⊥
Both R (a ∷ as_) (b ∷ bs) = R a b × Both R as_ bs

each_behind : {A B : Type 0} (f : A → Outcome B) (before : List B) (as_ : List A) (bs : List B) → (each f before as_).typed ≡ Some bs
    → (made : List B) × (bs ≡ before ++ made) × Both (λ (a : A) (b : B). (f a).typed ≡ Some b) as_ made
each_behind f before [] bs h = ([], sym (same_Some before bs h) ∙ sym (append-nil before), tt)
each_behind {A} {B} f before (a ∷ as_) bs h =
    let s = then_parts (λ (b : B). (each f (before ++ b ∷ []) as_).typed) (f a).typed bs h in
    let r = each_behind f (before ++ s.0 ∷ []) as_ bs s.2 in
    (s.0 ∷ r.0, r.1 ∙ append_assoc before (s.0 ∷ []) r.0, (s.1, r.2))

each_both : {A B : Type 0} (f : A → Outcome B) (as_ : List A) (bs : List B) → (each f [] as_).typed ≡ Some bs → Both (λ (a : A) (b : B). (f a).typed ≡ Some b) as_ bs
each_both {A} {B} f as_ bs h =
    let r = each_behind f [] as_ bs h in
    subst (λ (made : List B). Both (λ (a : A) (b : B). (f a).typed ≡ Some b) as_ made) (sym r.1) r.2

-- ---- counts

abbrev task_size : TaskDef → ℕ
task_size d = 1 + length d.command

abbrev flow_size : FlowDef → ℕ
flow_size f = 1 + count_statements f.body

sizes : (tasks : List TaskDef) → length tasks + sum_of (map (λ (t : TaskDef). length t.command) tasks) ≡ sum_of (map task_size tasks)
sizes [] = refl
sizes (t ∷ ts) = let r = sizes ts in omega (arith, r)

flow_sizes : (flows : List FlowDef) → length flows + sum_of (map (λ (f : FlowDef). count_statements f.body) flows) ≡ sum_of (map flow_size flows)
flow_sizes [] = refl
flow_sizes (f ∷ fs) = let r = flow_sizes fs in omega (arith, r)

abbrev task_tokens : List TaskPart → ℕ
task_tokens ts = sum_of (map (λ (t : TaskPart). length (task_words t.task)) ts)

abbrev flow_tokens : List FlowPart → ℕ
flow_tokens fs = sum_of (map (λ (f : FlowPart). length (workflow_words f.workflow)) fs)

sum_both : (ms ns : List ℕ) → sum_of (ms ++ ns) ≡ sum_of ms + sum_of ns
sum_both [] ns = omega arith
sum_both (m ∷ ms) ns = let r = sum_both ms ns in omega (arith, r)

map_both : {A B : Type 0} (f : A → B) (xs ys : List A) → map f (xs ++ ys) ≡ map f xs ++ map f ys
map_both f [] ys = refl
map_both {A} {B} f (x ∷ xs) ys = ap (λ (zs : List B). f x ∷ zs) (map_both f xs ys)

task_tokens_both : (ts us : List TaskPart) → task_tokens (ts ++ us) ≡ task_tokens ts + task_tokens us
task_tokens_both ts us = ap sum_of (map_both (λ (t : TaskPart). length (task_words t.task)) ts us) ∙ sum_both _ _

flow_tokens_both : (fs gs : List FlowPart) → flow_tokens (fs ++ gs) ≡ flow_tokens fs + flow_tokens gs
flow_tokens_both fs gs = ap sum_of (map_both (λ (f : FlowPart). length (workflow_words f.workflow)) fs gs) ∙ sum_both _ _

-- the tokens of the sections of a document
section_tokens : (p : Part) (ss : List Section) → task_tokens (map (task_part p) (tasks_in ss)) + flow_tokens (map (flow_part p) (workflows_in ss)) ≤ length (words.each section_words ss)
section_tokens p [] = omega arith
section_tokens p (section.Import i ∷ ss) =
    let e : length (words.each section_words (section.Import i ∷ ss)) ≡ length (section_words (section.Import i)) + length (words.each section_words ss) =
    length-append (section_words (section.Import i)) (words.each section_words ss) in
    let r = section_tokens p ss in
    omega (arith, e, r)
section_tokens p (section.Struct d ∷ ss) =
    let e : length (words.each section_words (section.Struct d ∷ ss)) ≡ length (section_words (section.Struct d)) + length (words.each section_words ss) =
    length-append (section_words (section.Struct d)) (words.each section_words ss) in
    let r = section_tokens p ss in
    omega (arith, e, r)
section_tokens p (section.Task t ∷ ss) =
    let e : length (words.each section_words (section.Task t ∷ ss)) ≡ length (task_words t) + length (words.each section_words ss) =
    length-append (task_words t) (words.each section_words ss) in
    let a : task_tokens (map (task_part p) (tasks_in (section.Task t ∷ ss))) ≡ length (task_words t) + task_tokens (map (task_part p) (tasks_in ss)) = refl in
    let r = section_tokens p ss in
    omega (arith, e, a, r)
section_tokens p (section.Workflow f ∷ ss) =
    let e : length (words.each section_words (section.Workflow f ∷ ss)) ≡ length (workflow_words f) + length (words.each section_words ss) =
    length-append (workflow_words f) (words.each section_words ss) in
    let a : flow_tokens (map (flow_part p) (workflows_in (section.Workflow f ∷ ss))) ≡ length (workflow_words f) + flow_tokens (map (flow_part p) (workflows_in ss)) = refl in
    let r = section_tokens p ss in
    omega (arith, e, a, r)

part_tokens : (k : ℕ) (ds : List Doc) → task_tokens (tasks_of (parts_from k ds)) + flow_tokens (flows_of (parts_from k ds)) ≤ tokens_in ds
part_tokens k [] = omega arith
part_tokens k (d ∷ ds) =
    let p = part k d in
    let ps = parts_from (k + 1) ds in
    let t : tokens_in (d ∷ ds) ≡ length (document_words d.document) + tokens_in ds = refl in
    let w : length (document_words d.document) ≡ suc (suc (length (words.each section_words d.document.sections))) = refl in
    let a : task_tokens (tasks_of (parts_from k (d ∷ ds))) ≡ task_tokens (tasks_at p) + task_tokens (tasks_of ps) = task_tokens_both (tasks_at p) (tasks_of ps) in
    let b : flow_tokens (flows_of (parts_from k (d ∷ ds))) ≡ flow_tokens (flows_at p) + flow_tokens (flows_of ps) = flow_tokens_both (flows_at p) (flows_of ps) in
    let s : task_tokens (tasks_at p) + flow_tokens (flows_at p) ≤ length (words.each section_words d.document.sections) = section_tokens p d.document.sections in
    let r = part_tokens (k + 1) ds in
    omega (arith, t, w, a, b, s, r)

-- ---- workflows

module _ (structs : Structs) where
  -- a workflow with what its head says
  abbrev HeadOf : Headed → Type 0
  HeadOf h = ((head_typed (world structs h.flow.part) h.flow.workflow).typed ≡ Some h.head) × AreKnown structs h.flow.part.locals

  abbrev KnownPart : Part → Type 0
  KnownPart p = AreKnown structs p.locals

  abbrev KnownTask : TaskPart → Type 0
  KnownTask t = AreKnown structs t.part.locals

  abbrev KnownFlow : FlowPart → Type 0
  KnownFlow f = AreKnown structs f.part.locals

  known_tasks_at : (p : Part) → KnownPart p → (ts : List TaskSection) → Have KnownTask (map (task_part p) ts)
  known_tasks_at p h [] = tt
  known_tasks_at p h (t ∷ ts) = (h, known_tasks_at p h ts)

  known_flows_at : (p : Part) → KnownPart p → (fs : List Workflow) → Have KnownFlow (map (flow_part p) fs)
  known_flows_at p h [] = tt
  known_flows_at p h (f ∷ fs) = (h, known_flows_at p h fs)

  have_more : {A : Type 0} (P : A → Type 0) (xs ys : List A) → Have P xs → Have P ys → Have P (xs ++ ys)
  have_more P [] ys h k = k
  have_more P (x ∷ xs) ys h k = (h.0, have_more P xs ys h.1 k)

  known_tasks : (ps : List Part) → Have KnownPart ps → Have KnownTask (tasks_of ps)
  known_tasks [] h = tt
  known_tasks (p ∷ ps) h = have_more KnownTask (tasks_at p) (tasks_of ps) (known_tasks_at p h.0 (tasks_in p.sections)) (known_tasks ps h.1)

  known_flows : (ps : List Part) → Have KnownPart ps → Have KnownFlow (flows_of ps)
  known_flows [] h = tt
  known_flows (p ∷ ps) h = have_more KnownFlow (flows_at p) (flows_of ps) (known_flows_at p h.0 (workflows_in p.sections)) (known_flows ps h.1)

  head_is : (f : FlowPart) (h : Headed) → (head_in structs f).typed ≡ Some h → ((head_of structs f).typed ≡ Some h.head) × (f ≡ h.flow)
  head_is f h e =
      let s = then_parts (λ (g : FlowHead). Some (headed f g)) (head_of structs f).typed h e in
      let same : headed f s.0 ≡ h = same_Some (headed f s.0) h s.2 in
      (s.1 ∙ ap (λ (x : Headed). Some x.head) same, ap (λ (x : Headed). x.flow) same)

  head_has : (f : FlowPart) (h : Headed) → KnownFlow f → (head_in structs f).typed ≡ Some h → HeadOf h
  head_has f h k e =
      let r = head_is f h e in
      (subst (λ (g : FlowPart). (head_typed (world structs g.part) g.workflow).typed ≡ Some h.head) r.1 r.0, subst KnownFlow r.1 k)

  module _ (flow_types : FlowsTyped) (heads_fit : HeadsFit) (named : FlowsNamed) (counted : FlowsCounted) (ps : List Part) (tasks : List TaskDef) where
    abbrev tables_by : List Headed → List Table
    tables_by hs = tables ps (task_offers 0 tasks) (flow_offers 0 hs)

    abbrev RestOf : List Headed → Headed → FlowRest → Type 0
    RestOf all h r = (rest_in structs (tables_by all) h).typed ≡ Some r

    abbrev place_of : List Headed → Headed → Place
    place_of all h = place structs (own_at (slice_get (tables_by all) h.flow.part.number)) (spaces (tables_by all) h.flow.part.imports) h.flow.part

    fit_all : (all hs : List Headed) (rs : List FlowRest) → Have HeadOf hs → Both (RestOf all) hs rs → FitAll hs rs
    fit_all all [] rs k b = tt
    fit_all all (h ∷ hs) [] k b = b
    fit_all all (h ∷ hs) (r ∷ rs) k b = (heads_fit (place_of all h) h.flow.workflow h.head r k.0.0 b.0, fit_all all hs rs k.1 b.1)

    module _ (all : List Headed) (rests : List FlowRest) (fit : FitAll all rests) where
      abbrev lib : Library
      lib = library structs tasks (flow_defs all rests)

      place_is : (h : Headed) → HeadOf h → IsOf lib (place_of all h)
      place_is h k = record {
        structs = refl;
        known = k.1;
        offered = targets_are lib ps (task_offers 0 tasks) (flow_offers 0 all) h.flow.part.number h.flow.part.imports
            (tasks_offered structs (flow_defs all rests) tasks) (flows_offered structs tasks all rests fit);
      }

      flow_is : (h : Headed) (r : FlowRest) → HeadOf h → RestOf all h r → body_nests (flow_defs all rests) 24 r.body ≡ true → flow_typed lib (flow_def h r) ≡ true
      flow_is h r k e deep =
          let p = place_of all h in
          let n = named p h.flow.workflow h.head r h.flow.workflow.name.name (flow_span h.flow) k.0 e in
          let t = flow_types lib p h.flow.workflow h.head r h.flow.workflow.name.name (flow_span h.flow) (place_is h k) k.0 e in
          and_from _ _ (and_from _ _ (and_from _ _ (and_from _ _ (and_from _ _ n.0 n.1) n.2) deep) t.0) t.1

      flows_are : (hs : List Headed) (rs : List FlowRest) → Have HeadOf hs → Both (RestOf all) hs rs
          → Have (λ (f : FlowDef). body_nests (flow_defs all rests) 24 f.body ≡ true) (flow_defs hs rs) → list_all (flow_typed lib) (flow_defs hs rs) ≡ true
      flows_are [] rs k b d = refl
      flows_are (h ∷ hs) [] k b d = refl
      flows_are (h ∷ hs) (r ∷ rs) k b d = and_from _ _ (flow_is h r k.0 b.0 d.0) (flows_are hs rs k.1 b.1 d.1)

    -- each workflow has fewer statements than tokens
    flows_count : (all : List Headed) (fs : List FlowPart) (hs : List Headed) (rs : List FlowRest) → Both (λ (f : FlowPart) (h : Headed). (head_in structs f).typed ≡ Some h) fs hs
        → Both (RestOf all) hs rs → sum_of (map flow_size (flow_defs hs rs)) ≤ flow_tokens fs
    flows_count all [] [] rs a b = omega arith
    flows_count all [] (h ∷ hs) rs a b = absurd a
    flows_count all (f ∷ fs) [] rs a b = absurd a
    flows_count all (f ∷ fs) (h ∷ hs) [] a b = absurd b
    flows_count all (f ∷ fs) (h ∷ hs) (r0 ∷ rs) a b =
        let one = counted (place_of all h) h.flow.workflow h.head.inputs r0 b.0 in
        let same : length (workflow_words h.flow.workflow) ≡ length (workflow_words f.workflow) = ap (λ (g : FlowPart). length (workflow_words g.workflow)) (sym (head_is f h a.0).1) in
        let r = flows_count all fs hs rs a.1 b.1 in
        let d : sum_of (map flow_size (flow_defs (h ∷ hs) (r0 ∷ rs))) ≡ (1 + count_statements r0.body) + sum_of (map flow_size (flow_defs hs rs)) = refl in
        let t : flow_tokens (f ∷ fs) ≡ length (workflow_words f.workflow) + flow_tokens fs = refl in
        omega (arith, one, same, r, d, t)

-- ---- depths

statements_nest : (flows : List FlowDef) (ss : List Statement) → Have (λ (s : Statement). (statement_nests flows s).typed ≡ Some tt) ss → body_nests flows 24 ss ≡ true
statements_nest flows [] h = refl
statements_nest flows (s ∷ ss) h = and_from _ _ (by_test (nests flows 24 (out-Statement s)) h.0) (statements_nest flows ss h.1)
  where
    by_test : (b : Bool) → (cond b (done {A = Unit {0}} tt) (refused {A = Unit {0}} 328 (span_at (out-Statement s)))).typed ≡ Some tt → b ≡ true
    by_test true e = refl
    by_test false e = cc

bodies_nest : (flows fs : List FlowDef) → Have (λ (f : FlowDef). (flow_nests flows f).typed ≡ Some tt) fs → Have (λ (f : FlowDef). body_nests flows 24 f.body ≡ true) fs
bodies_nest flows [] h = tt
bodies_nest flows (f ∷ fs) h = (statements_nest flows f.body (all_have (statement_nests flows) f.body h.0), bodies_nest flows fs h.1)

-- ---- tasks

tasks_are : (structs : Structs) → TaskTypes → (ts : List TaskPart) (ds : List TaskDef) → Have (KnownTask structs) ts → Both (λ (t : TaskPart) (d : TaskDef). (task_in structs t).typed ≡ Some d) ts ds
    → list_all (well.task_typed structs) ds ≡ true
tasks_are structs law [] [] k b = refl
tasks_are structs law [] (d ∷ ds) k b = absurd b
tasks_are structs law (t ∷ ts) [] k b = absurd b
tasks_are structs law (t ∷ ts) (d ∷ ds) k b = and_from _ _ (law (world structs t.part) t.task d k.0 b.0) (tasks_are structs law ts ds k.1 b.1)

tasks_count : (structs : Structs) → TaskCounts → (ts : List TaskPart) (ds : List TaskDef) → Both (λ (t : TaskPart) (d : TaskDef). (task_in structs t).typed ≡ Some d) ts ds
    → sum_of (map task_size ds) ≤ task_tokens ts
tasks_count structs law [] [] b = omega arith
tasks_count structs law [] (d ∷ ds) b = absurd b
tasks_count structs law (t ∷ ts) [] b = absurd b
tasks_count structs law (t ∷ ts) (d ∷ ds) b =
    let one = law (world structs t.part) t.task d b.0 in
    let r = tasks_count structs law ts ds b.1 in
    let e : sum_of (map task_size (d ∷ ds)) ≡ (1 + length d.command) + sum_of (map task_size ds) = refl in
    let u : task_tokens (t ∷ ts) ≡ length (task_words t.task) + task_tokens ts = refl in
    omega (arith, one, r, e, u)

-- ---- the main workflow

made_some : {A B : Type 0} (R : A → B → Type 0) (a : A) (as_ : List A) (bs : List B) → Both R (a ∷ as_) bs → (b : B) × (more : List B) × (bs ≡ b ∷ more)
made_some R a as_ [] h = absurd h
made_some R a as_ (b ∷ bs) h = (b, bs, refl)

main_first : (structs : Structs) (T : Headed → FlowRest → Type 0) (fs : List Workflow) (p : Part) (more : List FlowPart) (hs : List Headed) (rs : List FlowRest)
    → Both (λ (f : FlowPart) (h : Headed). (head_in structs f).typed ≡ Some h) (map (flow_part p) fs ++ more) hs → Both T hs rs
    → main_is_there (flow_defs hs rs) (first_among fs) ≡ true
main_first structs T [] p more hs rs a b = refl
main_first structs T (f ∷ fs) p more [] rs a b = absurd a
main_first structs T (f ∷ fs) p more (h ∷ hs) [] a b = absurd b
main_first structs T (f ∷ fs) p more (h ∷ hs) (r ∷ rs) a b = lt-ltb 0 (length (flow_defs (h ∷ hs) (r ∷ rs))) (omega arith)

main_there : (structs : Structs) (T : Headed → FlowRest → Type 0) (ps : List Part) (hs : List Headed) (rs : List FlowRest)
    → Both (λ (f : FlowPart) (h : Headed). (head_in structs f).typed ≡ Some h) (flows_of ps) hs → Both T hs rs → main_is_there (flow_defs hs rs) (main_of ps) ≡ true
main_there structs T [] hs rs a b = refl
main_there structs T (p ∷ ps) hs rs a b = main_first structs T (workflows_in p.sections) p (flows_of ps) hs rs a b

-- ---- the whole

countable : (n m : ℕ) → is_countable n ≡ true → m ≤ n → nat_lt m (2 ^ 32) ≡ true
unfolding is_countable
countable n m h le = search (arith)

module _ (written_types : WrittenTypes) (task_types : TaskTypes) (tasks_counted : TaskCounts) (flow_types : FlowsTyped) (heads_fit : HeadsFit) (named : FlowsNamed) (counted : FlowsCounted) where
  module _ (docs : List Doc) (structs : Structs) (linked : is_linked docs ≡ true) (has : HasStructs docs structs) where
    circle : has_no_circle docs ≡ true
    circle = (and_parts (nat_lt 0 (length docs) && is_countable (tokens_in docs) && list_all (has_links docs) docs) (has_no_circle docs) linked).1

    counted_tokens : (nat_lt 0 (length docs) && is_countable (tokens_in docs)) ≡ true
    counted_tokens =
        (and_parts (nat_lt 0 (length docs) && is_countable (tokens_in docs)) (list_all (has_links docs) docs)
        (and_parts (nat_lt 0 (length docs) && is_countable (tokens_in docs) && list_all (has_links docs) docs) (has_no_circle docs) linked).0).0

    abbrev ps : List Part
    ps = parts_from 0 docs

    known : Have (KnownPart structs) ps
    known = have_parts (KnownPart structs) 0 docs (λ i d e. names_known docs structs circle has.named has.agreeing has.sections i d e)

    structs_are : (structs_typed structs ps).typed ≡ Some tt → are_structs structs ≡ true
    structs_are h = by_docs docs refl
      where
        by_docs : (ds : List Doc) → docs ≡ ds → are_structs structs ≡ true
        by_docs [] e = absurd (false≢true (subst (λ (ds : List Doc). nat_lt 0 (length ds) ≡ true) e (and_parts (nat_lt 0 (length docs)) (is_countable (tokens_in docs)) counted_tokens).0))
        by_docs (d ∷ ds) e =
            structs_kept docs structs circle has.named has.agreeing has.sections d ds e has.names has.alike (sections_fine written_types docs structs has circle h)

    parts_are : (tasks : List TaskDef) (hs : List Headed) (rs : List FlowRest) → (structs_typed structs ps).typed ≡ Some tt
        → (each (task_in structs) [] (tasks_of ps)).typed ≡ Some tasks → (each (head_in structs) [] (flows_of ps)).typed ≡ Some hs
        → (rests_typed structs ps tasks hs).typed ≡ Some rs → (flows_nest (flow_defs hs rs)).typed ≡ Some tt
        → is_checked (library structs tasks (flow_defs hs rs)) (main_of ps) ≡ true
    parts_are tasks hs rs a b c d e =
        let flows = flow_defs hs rs in
        let tb = each_both (task_in structs) (tasks_of ps) tasks b in
        let hb = each_both (head_in structs) (flows_of ps) hs c in
        let rb = each_both (rest_in structs (tables ps (task_offers 0 tasks) (flow_offers 0 hs))) hs rs d in
        let hk = each_have (KnownFlow structs) (HeadOf structs) (head_in structs) [] (flows_of ps) hs (λ f h k g. head_has structs f h k g) tt (known_flows structs ps known) c in
        let fit = fit_all structs flow_types heads_fit named counted ps tasks hs hs rs hk rb in
        let deep = bodies_nest flows flows (all_have (flow_nests flows) flows e) in
        let tc = tasks_count structs tasks_counted (tasks_of ps) tasks tb in
        let fc = flows_count structs flow_types heads_fit named counted ps tasks hs (flows_of ps) hs rs hb rb in
        let below : count (library structs tasks flows) ≤ tokens_in docs = omega (arith, tc, fc, sizes tasks, flow_sizes flows, part_tokens 0 docs) in
        and_from _ _ (and_from _ _ (and_from _ _ (and_from _ _ (structs_are a) (tasks_are structs task_types (tasks_of ps) tasks (known_tasks structs ps known) tb))
        (flows_are structs flow_types heads_fit named counted ps tasks hs rs fit hs rs hk rb deep))
        (main_there structs _ ps hs rs hb rb))
        (countable (tokens_in docs) _ (and_parts (nat_lt 0 (length docs)) (is_countable (tokens_in docs)) counted_tokens).1 below)

  pub checked_is : LibrariesChecked
  unfolding typed
  checked_is docs structs c linked has h =
      let ps = parts_from 0 docs in
      let s1 = then_parts (λ (u : Unit {0}). (then_ (all names_typed ps) (λ v. runnables_typed structs ps)).typed) (structs_typed structs ps).typed c h in
      let s2 = then_parts (λ (v : Unit {0}). (runnables_typed structs ps).typed) (all names_typed ps).typed c s1.2 in
      let s3 = then_parts (λ (ts : List TaskDef). (then_ (flows_typed structs ps ts) (λ fs. then_ (flows_nest fs) (λ u. done (checked_parts structs ts fs (main_of ps))))).typed)
      (each (task_in structs) [] (tasks_of ps)).typed c s2.2 in
      let s4 = then_parts (λ (fs : List FlowDef). (then_ (flows_nest fs) (λ u. done (checked_parts structs s3.0 fs (main_of ps)))).typed) (flows_typed structs ps s3.0).typed c s3.2 in
      let s5 = then_parts (λ (u : Unit {0}). Some (checked_parts structs s3.0 s4.0 (main_of ps))) (flows_nest s4.0).typed c s4.2 in
      let s6 = then_parts (λ (hs : List Headed). (then_ (rests_typed structs ps s3.0 hs) (λ rs. done (flow_defs hs rs))).typed) (each (head_in structs) [] (flows_of ps)).typed s4.0 s4.1 in
      let s7 = then_parts (λ (rs : List FlowRest). Some (flow_defs s6.0 rs)) (rests_typed structs ps s3.0 s6.0).typed s4.0 s6.2 in
      let same : flow_defs s6.0 s7.0 ≡ s4.0 = same_Some (flow_defs s6.0 s7.0) s4.0 s7.2 in
      let deep = subst (λ (fs : List FlowDef). (flows_nest fs).typed ≡ Some tt) (sym same) s5.1 in
      subst (λ (x : CheckedParts). is_checked (library x.structs x.tasks x.flows) x.main ≡ true) (same_Some (checked_parts structs s3.0 s4.0 (main_of ps)) c s5.2)
      (subst (λ (fs : List FlowDef). is_checked (library structs s3.0 fs) (main_of ps) ≡ true) same
      (parts_are docs structs linked has s3.0 s6.0 s7.0 s1.1 s3.1 s6.1 s7.1 deep))
