-- Faults of a library stand in its documents.
use Rattle.std.proofs.Common.{◌≡◌, ℕ, ◌+◌, ◌<◌, List, [], ◌∷◌, ◌++◌, Option, Some, None, Err, length, map, refl, sym, subst, inl, inr, arith}
use Rattle.std.proofs.lemmas.Option.{same_Some}
use Rattle.wdl_value.specs.Fits.{Structs}
use Rattle.wdl_ast.specs.declared.task.TaskSection.{TaskSection}
use Rattle.wdl_ast.specs.declared.workflow.Workflow.{Workflow}
use Rattle.wdl_typed.specs.declared.flow.FlowDef.{FlowDef}
use Rattle.wdl_typed.specs.declared.task.TaskDef.{TaskDef}
use Rattle.wdl_library.specs.declared.doc.Doc.{Doc}
use Rattle.wdl_check_rules.specs.declared.fault.CheckFault.{CheckFault}
use Rattle.wdl_check_rules.specs.declared.fault.CheckFault.TheVariants.{Bad, NoMemory}
use Rattle.wdl_check_rules.specs.Conditions.{Conditions, given_that, is_among}
use Rattle.wdl_check_types.specs.Outcome.{Answers, Outcome, done, then_}
use Rattle.wdl_check_flow.specs.declared.flow.FlowHead.{FlowHead}
use Rattle.wdl_check_flow.specs.declared.flow.FlowRest.{FlowRest}
use Rattle.wdl_check_doc.specs.Checked.{IsPlaced, checked_parts, main_of, parts_typed, runnables_typed, typed}
use Rattle.wdl_check_doc.specs.Flows.{flow_defs, flow_nests, flows_nest, flows_typed, rest_in, rests_typed}
use Rattle.wdl_check_doc.specs.Offers.{flow_offers, tables, task_offers}
use Rattle.wdl_check_doc.specs.Outcomes.{all, each, placed_fault}
use Rattle.wdl_check_doc.specs.Parts.{Part, parts_from}
use Rattle.wdl_check_doc.specs.Runnables.{FlowPart, Headed, TaskPart, flow_part, flows_at, flows_of, head_in, head_of, headed, names_typed, task_in, task_part, tasks_at, tasks_of, tasks_in, workflows_in}
use Rattle.wdl_check_doc.specs.Structs.{sections_nest, sections_typed, structs_typed}
use Rattle.wdl_check_doc.proofs.Typed.{Have, each_have}
use Rattle.wdl_base.proofs.Options.{then_parts}

module _ (n : ℕ) where
  abbrev pub FaultIn : CheckFault → Type 0
  FaultIn (Bad code s) = s.doc < n
  FaultIn NoMemory = Unit {0}

  -- each condition stands in a document
  abbrev pub Within : Conditions → Type 0
  Within fs = (f : CheckFault) → is_among f fs → FaultIn f

  in_both : (xs ys : Conditions) → Within xs → Within ys → Within (xs ++ ys)
  in_both [] ys a b f h = b f h
  in_both (x ∷ xs) ys a b f (inl e) = a f (inl e)
  in_both (x ∷ xs) ys a b f (inr h) = in_both xs ys (λ g k. a g (inr k)) b f h

  in_given : {A : Type 0} (t : Option A) (f : A → Conditions) → ((a : A) → t ≡ Some a → Within (f a)) → Within (given_that t f)
  in_given None f h g k = absurd k
  in_given (Some a) f h g k = h a refl g k

  in_then : {A B : Type 0} (o : Outcome A) (f : A → Outcome B) → Within o.conditions → ((a : A) → o.typed ≡ Some a → Within (f a).conditions) → Within (then_ o f).conditions
  in_then {A} o f a b = in_both o.conditions (given_that o.typed (λ (x : A). (f x).conditions)) a (in_given o.typed (λ (x : A). (f x).conditions) b)

  in_done : Within []
  in_done f h = absurd h

  placed_in : (k : ℕ) → k < n → (g : CheckFault) → FaultIn (placed_fault k g)
  placed_in k h (Bad code s) = h
  placed_in k h NoMemory = tt

  in_placed : (k : ℕ) → k < n → (gs : Conditions) → Within (map (placed_fault k) gs)
  in_placed k h [] f a = absurd a
  in_placed k h (g ∷ gs) f (inl e) = subst FaultIn (sym e) (placed_in k h g)
  in_placed k h (g ∷ gs) f (inr a) = in_placed k h gs f a

  in_all : {A : Type 0} (P : A → Type 0) (f : A → Outcome (Unit {0})) (as_ : List A) → Have P as_ → ((a : A) → P a → Within (f a).conditions) → Within (all f as_).conditions
  in_all P f [] k h = in_done
  in_all P f (a ∷ as_) k h = in_then (f a) (λ u. all f as_) (h a k.0) (λ u e. in_all P f as_ k.1 h)

  in_each : {A B : Type 0} (P : A → Type 0) (f : A → Outcome B) (before : List B) (as_ : List A) → Have P as_ → ((a : A) → P a → Within (f a).conditions) → Within (each f before as_).conditions
  in_each P f before [] k h = in_done
  in_each P f before (a ∷ as_) k h = in_then (f a) (λ b. each f (before ++ b ∷ []) as_) (h a k.0) (λ b e. in_each P f (before ++ b ∷ []) as_ k.1 h)

  -- ---- the parts of a library

  abbrev PartIn : Part → Type 0
  PartIn p = p.number < n

  abbrev TaskIn : TaskPart → Type 0
  TaskIn t = t.part.number < n

  abbrev FlowIn : FlowPart → Type 0
  FlowIn f = f.part.number < n

  abbrev HeadIn : Headed → Type 0
  HeadIn h = h.flow.part.number < n

  abbrev DefIn : FlowDef → Type 0
  DefIn f = f.span.doc < n

  parts_in : (k : ℕ) (ds : List Doc) → k + length ds ≡ n → Have PartIn (parts_from k ds)
  parts_in k [] e = tt
  parts_in k (d ∷ ds) e = (omega arith, parts_in (k + 1) ds (omega arith))

  have_both : {A : Type 0} (P : A → Type 0) (xs ys : List A) → Have P xs → Have P ys → Have P (xs ++ ys)
  have_both P [] ys a b = b
  have_both P (x ∷ xs) ys a b = (a.0, have_both P xs ys a.1 b)

  tasks_here : (p : Part) → PartIn p → (ts : List TaskSection) → Have TaskIn (map (task_part p) ts)
  tasks_here p h [] = tt
  tasks_here p h (t ∷ ts) = (h, tasks_here p h ts)

  flows_here : (p : Part) → PartIn p → (fs : List Workflow) → Have FlowIn (map (flow_part p) fs)
  flows_here p h [] = tt
  flows_here p h (f ∷ fs) = (h, flows_here p h fs)

  tasks_have : (ps : List Part) → Have PartIn ps → Have TaskIn (tasks_of ps)
  tasks_have [] h = tt
  tasks_have (p ∷ ps) h = have_both TaskIn (tasks_at p) (tasks_of ps) (tasks_here p h.0 (tasks_in p.sections)) (tasks_have ps h.1)

  flows_have : (ps : List Part) → Have PartIn ps → Have FlowIn (flows_of ps)
  flows_have [] h = tt
  flows_have (p ∷ ps) h = have_both FlowIn (flows_at p) (flows_of ps) (flows_here p h.0 (workflows_in p.sections)) (flows_have ps h.1)

  defs_have : (hs : List Headed) (rs : List FlowRest) → Have HeadIn hs → Have DefIn (flow_defs hs rs)
  defs_have [] rs k = tt
  defs_have (h ∷ hs) [] k = tt
  defs_have (h ∷ hs) (r ∷ rs) k = (k.0, defs_have hs rs k.1)

  head_has : (structs : Structs) (f : FlowPart) (h : Headed) → FlowIn f → (head_in structs f).typed ≡ Some h → HeadIn h
  head_has structs f h k e =
      let s = then_parts (λ (g : FlowHead). Some (headed f g)) (head_of structs f).typed h e in
      subst HeadIn (same_Some (headed f s.0) h s.2) k

  module _ (structs : Structs) (ps : List Part) (at : Have PartIn ps) where
    heads_have : (hs : List Headed) → (each (head_in structs) [] (flows_of ps)).typed ≡ Some hs → Have HeadIn hs
    heads_have hs e = each_have FlowIn HeadIn (head_in structs) [] (flows_of ps) hs (λ f h k. head_has structs f h k) tt (flows_have ps at) e

    structs_within : Within (structs_typed structs ps).conditions
    structs_within =
        in_then (all sections_typed ps) (λ u. all (sections_nest structs) ps)
        (in_all PartIn sections_typed ps at (λ p h. in_placed p.number h _))
        (λ u e. in_all PartIn (sections_nest structs) ps at (λ p h. in_placed p.number h _))

    names_within : Within (all names_typed ps).conditions
    names_within = in_all PartIn names_typed ps at (λ p h. in_placed p.number h _)

    tasks_within : Within (each (task_in structs) [] (tasks_of ps)).conditions
    tasks_within = in_each TaskIn (task_in structs) [] (tasks_of ps) (tasks_have ps at) (λ t h. in_placed t.part.number h _)

    heads_within : Within (each (head_in structs) [] (flows_of ps)).conditions
    heads_within =
        in_each FlowIn (head_in structs) [] (flows_of ps) (flows_have ps at)
        (λ f h. in_then {B = Headed} (head_of structs f) (λ (g : FlowHead). done (headed f g)) (in_placed f.part.number h _) (λ g e. in_done))

    rests_within : (tasks : List TaskDef) (hs : List Headed) → Have HeadIn hs → Within (rests_typed structs ps tasks hs).conditions
    rests_within tasks hs k = in_each HeadIn (rest_in structs (tables ps (task_offers 0 tasks) (flow_offers 0 hs))) [] hs k (λ h m. in_placed h.flow.part.number m _)

    flows_within : (tasks : List TaskDef) → Within (flows_typed structs ps tasks).conditions
    flows_within tasks =
        in_then (each (head_in structs) [] (flows_of ps)) (λ hs. then_ (rests_typed structs ps tasks hs) (λ rs. done (flow_defs hs rs))) heads_within
        (λ hs e. in_then (rests_typed structs ps tasks hs) (λ rs. done (flow_defs hs rs)) (rests_within tasks hs (heads_have hs e)) (λ rs f. in_done))

    nests_within : (flows : List FlowDef) → Have DefIn flows → Within (flows_nest flows).conditions
    nests_within flows k = in_all DefIn (flow_nests flows) flows k (λ f h. in_placed f.span.doc h _)

    flows_here_in : (tasks : List TaskDef) (flows : List FlowDef) → (flows_typed structs ps tasks).typed ≡ Some flows → Have DefIn flows
    flows_here_in tasks flows e =
        let s = then_parts (λ (hs : List Headed). (then_ (rests_typed structs ps tasks hs) (λ rs. done (flow_defs hs rs))).typed) (each (head_in structs) [] (flows_of ps)).typed flows e in
        let t = then_parts (λ (rs : List FlowRest). Some (flow_defs s.0 rs)) (rests_typed structs ps tasks s.0).typed flows s.2 in
        subst (Have DefIn) (same_Some _ flows t.2) (defs_have s.0 t.0 (heads_have s.0 s.1))

    runnables_within : Within (runnables_typed structs ps).conditions
    runnables_within =
        in_then (each (task_in structs) [] (tasks_of ps))
        (λ ts. then_ (flows_typed structs ps ts) (λ fs. then_ (flows_nest fs) (λ u. done (checked_parts structs ts fs (main_of ps))))) tasks_within
        (λ tasks e. in_then (flows_typed structs ps tasks) (λ fs. then_ (flows_nest fs) (λ u. done (checked_parts structs tasks fs (main_of ps)))) (flows_within tasks)
        (λ flows f. in_then (flows_nest flows) (λ u. done (checked_parts structs tasks flows (main_of ps))) (nests_within flows (flows_here_in tasks flows f)) (λ u g. in_done)))

    parts_within : Within (parts_typed structs ps).conditions
    parts_within =
        in_then (structs_typed structs ps) (λ u. then_ (all names_typed ps) (λ v. runnables_typed structs ps)) structs_within
        (λ u e. in_then (all names_typed ps) (λ v. runnables_typed structs ps) names_within (λ v f. runnables_within))

pub typed_within : (docs : List Doc) (structs : Structs) → Within (length docs) (typed docs structs).conditions
unfolding typed
typed_within docs structs = parts_within (length docs) structs (parts_from 0 docs) (parts_in (length docs) 0 docs (omega arith))

pub answer_placed : (docs : List Doc) (structs : Structs) (e : CheckFault) → Answers (typed docs structs) (Err e) → IsPlaced (length docs) (Err e)
answer_placed docs structs (Bad code s) h = typed_within docs structs (Bad code s) h.1
answer_placed docs structs NoMemory h = tt
