-- The items of scatters that are typed differ from the names of the workflow, and from the items round them.
use Rattle.std.proofs.Common.{◌≡◌, ℕ, zero, suc, Bool, true, false, not, List, [], ◌∷◌, ◌++◌, Option, Some, None, map, slice_get, refl, ap, sym, ◌∙◌, subst}
use Rattle.std.specs.Prelude.{if◌then◌else◌}
use Rattle.std.specs.List.{AllByRecursion}
use Rattle.std.specs.Str.{bytes_eq}
use Rattle.std.proofs.lemmas.Bool.{and_from, not_from_false, or_from, or_parts}
use Rattle.std.proofs.lemmas.Option.{same_Some}
use Rattle.wdl_base.specs.declared.span.Span.{Span}
use Rattle.wdl_ast.specs.declared.leaf.Ident.{Ident}
use Rattle.wdl_ast.specs.declared.workflow.Statement.{Statement as Written, Statement-F, fold-roll-Statement, map-Statement, roll-Statement}
use Rattle.wdl_ast.specs.declared.workflow.Statement.TheOpen as layer
use Rattle.wdl_ast.specs.declared.workflow.Workflow.{Workflow}
use Rattle.wdl_typed.specs.declared.flow.Statement.{Statement, Statement-F as Typed-F, fold-Statement as fold, fold-roll-Statement as fold-roll, map-Statement as map-typed, roll-Statement as roll}
use Rattle.wdl_typed.specs.declared.flow.Statement.TheOpen as typed
use Rattle.wdl_typed.specs.declared.flow.Statement.TheVariants as form
use Rattle.wdl_typed.specs.Bodies.{Differing, all_differ, items_differ, items_step}
use Rattle.wdl_typed.specs.Kept.{flow_names}
use Rattle.wdl_typed.specs.Lists.{has_name}
use Rattle.wdl_typed.specs.Order.{picked}
use Rattle.wdl_check_decls.proofs.ListLaws.{picked_none, picked_some}
use Rattle.wdl_check_flow.specs.declared.flow.FlowHead.{FlowHead}
use Rattle.wdl_check_flow.specs.declared.flow.FlowRest.{FlowRest}
use Rattle.wdl_check_flow.specs.Bodies.{condition, scatter}
use Rattle.wdl_check_flow.specs.Flows.{head_typed, inputs_seen, rest_typed}
use Rattle.wdl_check_flow.specs.Laws.{flow_of}
use Rattle.wdl_check_flow.specs.Numbers.{numbers_of}
use Rattle.wdl_check_flow.specs.Sections.{Taken, first_taken, idents_in, inputs_of, outputs_of, statements_of, taken, taken_in, taken_step, words_of}
use Rattle.wdl_check_flow.specs.Targets.{Place}
use Rattle.wdl_check_flow.proofs.FlowGives.{rested}
use Rattle.wdl_check_flow.proofs.FlowNames.{flow_fewer, next_none, unrepeated}
use Rattle.wdl_check_flow.proofs.FlowShape.{BodyOf, Fits, Forms, Pairs, labelled, statements_fit}
use Rattle.wdl_check_flow.proofs.Occurrences.{fewer_none}

-- ---- names

-- what is no name of the one is none of the other
abbrev Within : List (List ℕ) → List (List ℕ) → Type 0
Within names words = (n : List ℕ) → has_name n words ≡ false → has_name n names ≡ false

none_parts : (n : List ℕ) (ns ms : List (List ℕ)) → has_name n (ns ++ ms) ≡ false → (has_name n ns ≡ false) × (has_name n ms ≡ false)
none_parts n [] ms h = (refl, h)
none_parts n (m ∷ ns) ms h =
    let q = or_parts (bytes_eq m n) (has_name n (ns ++ ms)) h in
    let r = none_parts n ns ms q.1 in (or_from (bytes_eq m n) (has_name n ns) q.0 r.0, r.1)

within_more : (item : List ℕ) (names words : List (List ℕ)) → Within names words → Within (item ∷ names) (words ++ item ∷ [])
within_more item names words within n h =
    let q = none_parts n words (item ∷ []) h in or_from (bytes_eq item n) (has_name n names) (or_parts (bytes_eq item n) false q.1).0 (within n q.0)

-- ---- written statements

free_item : (item : Ident) (body : List Taken) (words : List (List ℕ)) → taken_in item body words ≡ None
    → (has_name item.name words ≡ false) × (first_taken body (words ++ item.name ∷ []) ≡ None)
free_item item body words h = by_test (has_name item.name words) refl h
  where
    by_test : (b : Bool) → has_name item.name words ≡ b → (if b then Some item.span else first_taken body (words ++ item.name ∷ [])) ≡ None
        → (has_name item.name words ≡ false) × (first_taken body (words ++ item.name ∷ []) ≡ None)
    by_test true e h = cc
    by_test false e h = (e, h)

-- no item in it is among the words
abbrev IsFree : List (List ℕ) → ℕ × Written → Type 0
IsFree words l = taken l.1 words ≡ None

all_free : (ns : List ℕ) (ws : List Written) (words : List (List ℕ)) → first_taken (map taken ws) words ≡ None → AllByRecursion (IsFree words) (labelled ns ws)
all_free [] ws words h = tt
all_free (n ∷ ns) [] words h = tt
all_free (n ∷ ns) (w ∷ ws) words h =
    let q = next_none (taken w words) (first_taken (map taken ws) words) h in (q.0, all_free ns ws words q.1)

each_at : {A : Type 0} (P : A → Type 0) (xs : List A) (i : ℕ) (x : A) → AllByRecursion P xs → slice_get xs i ≡ Some x → P x
each_at P [] i x all e = cc
each_at P (y ∷ xs) zero x all e = subst P (same_Some y x e) all.0
each_at P (y ∷ xs) (suc i) x all e = each_at P xs i x all.1 e

all_picked : {A : Type 0} (P : A → Type 0) (xs : List A) (ps : List ℕ) → AllByRecursion P xs → AllByRecursion P (picked xs ps)
all_picked P xs [] all = tt
all_picked {A} P xs (p ∷ ps) all = by_got (all_picked P xs ps all) (slice_get xs p) refl
  where
    by_got : AllByRecursion P (picked xs ps) → (o : Option A) → slice_get xs p ≡ o → AllByRecursion P (picked xs (p ∷ ps))
    by_got more None e = subst (AllByRecursion P) (sym (picked_none xs p ps e)) more
    by_got more (Some x) e = subst (AllByRecursion P) (sym (picked_some xs p ps x e)) (each_at P xs p x all e, more)

-- ---- statements

abbrev differs : Statement → Differing
differs = fold Differing items_step

-- items that are not among the words are not among the names either
abbrev Differs : Written → ℕ → Statement → Type 0
Differs s number x = (names words : List (List ℕ)) → Within names words → taken s words ≡ None → differs x names ≡ true

differs_at : (x : Statement) (z : Typed-F Statement) (names : List (List ℕ)) → roll z ≡ x → differs x names ≡ items_step (map-typed Statement Differing differs z) names
differs_at x z names is = ap (λ (y : Statement). differs y names) (sym is) ∙ ap (λ (f : Differing). f names) (fold-roll Differing items_step z)

taken_at : (y : Statement-F Written) (words : List (List ℕ)) → taken (roll-Statement y) words ≡ taken_step (map-Statement Written Taken taken y) words
taken_at y words = ap (λ (f : Taken). f words) (fold-roll-Statement Taken taken_step y)

pairs_differ : (names words : List (List ℕ)) → Within names words → (ls : List (ℕ × Written)) (ss : List Statement) → Pairs (Fits Differs) ls ss
    → AllByRecursion (IsFree words) ls → all_differ (map differs ss) names ≡ true
pairs_differ names words within [] [] ps free = refl
pairs_differ names words within [] (s ∷ ss) ps free = absurd ps
pairs_differ names words within (l ∷ ls) [] ps free = absurd ps
pairs_differ names words within (l ∷ ls) (s ∷ ss) ps free =
    and_from (differs s names) (all_differ (map differs ss) names) (ps.0 names words within free.0) (pairs_differ names words within ls ss ps.1 free.1)

body_differs : (ws : List Written) (ss : List Statement) (names words : List (List ℕ)) → BodyOf Differs ws ss → Within names words
    → first_taken (map taken ws) words ≡ None → items_differ ss names ≡ true
body_differs ws ss names words b within free =
    let ls : List (ℕ × Written) = labelled (numbers_of ws) ws in
    pairs_differ names words within (picked ls b.positions) ss b.pairs (all_picked (IsFree words) ls b.positions (all_free (numbers_of ws) ws words free))

forms : Forms Differs
forms = record {
  declaration = λ d number t e names words within free. differs_at (form.Decl t) (typed.Decl t) names (form.rolls-Decl t);
  call = λ c number t e names words within free. differs_at (form.Call t) (typed.Call t) names (form.rolls-Call t);
  scatter = λ s number span over body b names words within free.
      let q = free_item s.item (map taken s.body) words (sym (taken_at (layer.Scatter s) words) ∙ free) in
      differs_at (scatter number s.item.name span over body) _ names (form.rolls-Scatter _)
      ∙ and_from (not (has_name s.item.name names)) (items_differ body (s.item.name ∷ names))
      (not_from_false (has_name s.item.name names) (within s.item.name q.0))
      (body_differs s.body body (s.item.name ∷ names) (words ++ s.item.name ∷ []) b (within_more s.item.name names words within) q.1);
  conditional = λ i number span test body b names words within free.
      differs_at (condition number span test body) _ names (form.rolls-If _)
      ∙ body_differs i.body body names words b within (sym (taken_at (layer.Conditional i) words) ∙ free);
}

pub items_different : (p : Place) (f : Workflow) (h : FlowHead) (r : FlowRest) (name : List ℕ) (span : Span)
    → (head_typed p.world f).typed ≡ Some h → (rest_typed p h.inputs f).typed ≡ Some r → items_differ r.body (flow_names (flow_of name span h r)) ≡ true
items_different p f h r name span e g =
    let s = rested p h.inputs f r g in
    let ws = statements_of f.elements in
    let words = words_of (idents_in (inputs_of f.elements) ws (outputs_of f.elements)) in
    body_differs ws r.body (flow_names (flow_of name span h r)) words
    (statements_fit p Differs forms ws (inputs_seen h.inputs) (record { statements = r.body; given = s.given }) s.body)
    (fewer_none (flow_names (flow_of name span h r)) words (flow_fewer p f h r name span e g))
    (next_none _ (first_taken (map taken ws) words) (unrepeated p.world f h e)).1
