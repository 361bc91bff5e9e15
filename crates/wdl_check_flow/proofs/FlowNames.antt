-- The names of a workflow that is typed are those of its text, in another order: they differ.
use Rattle.std.proofs.Common.{◌≡◌, ℕ, Bool, true, false, not, ◌+◌, List, [], ◌∷◌, ◌++◌, Option, Some, None, map, arith, refl, ap, sym, ◌∙◌}
use Rattle.std.specs.Prelude.{if◌then◌else◌}
use Rattle.std.proofs.lemmas.Bool.{and_from, not_from_false}
use Rattle.std.proofs.lemmas.List.{length-map, map-append}
use Rattle.std.proofs.lemmas.Option.{same_Some}
use Rattle.wdl_base.specs.declared.span.Span.{Span}
use Rattle.wdl_ast.specs.declared.leaf.Ident.{Ident}
use Rattle.wdl_ast.specs.declared.section.Declaration.{Declaration}
use Rattle.wdl_ast.specs.declared.section.InputDeclaration.{InputDeclaration}
use Rattle.wdl_ast.specs.declared.workflow.Statement.{Statement as Written, Statement-F, fold-roll-Statement, map-Statement, roll-Statement}
use Rattle.wdl_ast.specs.declared.workflow.Statement.TheOpen as layer
use Rattle.wdl_ast.specs.declared.workflow.Workflow.{Workflow}
use Rattle.wdl_names.specs.Fresh.{fresh}
use Rattle.wdl_names.proofs.FreshLemmas.{fresh-distinct}
use Rattle.wdl_typed.specs.declared.flow.Statement.{Statement, Statement-F as Typed-F, fold-roll-Statement as fold-roll, map-Statement as map-typed, roll-Statement as roll}
use Rattle.wdl_typed.specs.declared.flow.Statement.TheOpen as typed
use Rattle.wdl_typed.specs.declared.flow.Statement.TheVariants as form
use Rattle.wdl_typed.specs.declared.scope.Bound.{Bound}
use Rattle.wdl_typed.specs.declared.task.TDecl.{TDecl}
use Rattle.wdl_typed.specs.declared.task.TInput.{TInput}
use Rattle.wdl_typed.specs.Bodies.{all_declared as names_of, declared as said, names_step}
use Rattle.wdl_typed.specs.Declarations.{decl_names, decls_bound, input_names, inputs_bound}
use Rattle.wdl_typed.specs.Kept.{flow_names, sum_of}
use Rattle.wdl_typed.specs.Lists.{are_distinct, has_name}
use Rattle.wdl_typed.specs.Order.{Needing, picked}
use Rattle.wdl_check_types.specs.Outcome.{Outcome, done, then_}
use Rattle.wdl_check_types.specs.Places.{declaration_span, input_span}
use Rattle.wdl_check_types.specs.Written.{written}
use Rattle.wdl_check_order.specs.Needs.{declaration_needing, input_needing}
use Rattle.wdl_check_order.specs.Ordered.{ordered}
use Rattle.wdl_check_decls.specs.declared.standing.Standing.TheVariants.{Body}
use Rattle.wdl_check_decls.specs.Declarations.{decl_typed, decls_behind, decls_typed, input, input_as, input_typed, inputs_behind, inputs_typed, preset_typed}
use Rattle.wdl_check_decls.specs.Expressions.{World}
use Rattle.wdl_check_decls.specs.Names.{first_repeated}
use Rattle.wdl_check_flow.specs.declared.flow.FlowHead.{FlowHead}
use Rattle.wdl_check_flow.specs.declared.flow.FlowRest.{FlowRest}
use Rattle.wdl_check_flow.specs.Bodies.{condition, scatter}
use Rattle.wdl_check_flow.specs.Flows.{head_typed, inputs_seen, rest_typed, unless_at}
use Rattle.wdl_check_flow.specs.Laws.{flow_of}
use Rattle.wdl_check_flow.specs.Nesting.{first_deep, or_next, too_deep}
use Rattle.wdl_check_flow.specs.Sections.{all_declared, declared, declared_step, first_taken, idents_in, inputs_of, outputs_of, repeated, statements_of, taken, words_of}
use Rattle.wdl_check_flow.specs.Targets.{Place, world_at}
use Rattle.wdl_check_flow.proofs.FlowGives.{headed, rested}
use Rattle.wdl_check_flow.proofs.FlowShape.{Forms, decl_name, statements_fit}
use Rattle.wdl_check_flow.proofs.ListLaws.{map-map}
use Rattle.wdl_check_flow.proofs.Occurrences.{Fewer, fewer_distinct, occurs, occurs-append, once}
use Rattle.wdl_check_flow.proofs.Orders.{order_sum, sum-append}
use Rattle.wdl_check_flow.proofs.Weights.{Weighs, body_weighs}
use Rattle.wdl_check_decls.proofs.WellTyped.{then_some}

-- ---- written names

abbrev word_of : Ident → List ℕ
word_of n = n.name

occurs_names : {A : Type 0} (name : List ℕ) (f : A → List ℕ) (xs : List A) → occurs name (map f xs) ≡ sum_of (map (λ (x : A). once name (f x)) xs)
occurs_names name f xs = ap sum_of (map-map f (once name) xs)

occurs_words : {A : Type 0} (name : List ℕ) (f : A → Ident) (xs : List A) → occurs name (words_of (map f xs)) ≡ sum_of (map (λ (x : A). once name (f x).name) xs)
occurs_words {A} name f xs = ap (occurs name) (map-map f word_of xs) ∙ occurs_names name (λ (x : A). (f x).name) xs

words-append : (name : List ℕ) (ms ns : List Ident) → occurs name (words_of (ms ++ ns)) ≡ occurs name (words_of ms) + occurs name (words_of ns)
words-append name ms ns = ap (occurs name) (map-append word_of ms ns) ∙ occurs-append name (words_of ms) (words_of ns)

-- ---- statements

module _ (name : List ℕ) where
  abbrev saying : Statement → ℕ
  saying x = occurs name (said x)

  abbrev stating : Written → ℕ
  stating s = occurs name (words_of (declared s))

  names_sum : (ss : List Statement) → occurs name (names_of ss) ≡ sum_of (map saying ss)
  names_sum [] = refl
  names_sum (s ∷ ss) = omega (arith, occurs-append name (said s) (names_of ss), names_sum ss)

  words_sum : (ws : List Written) → occurs name (words_of (all_declared ws)) ≡ sum_of (map stating ws)
  words_sum [] = refl
  words_sum (w ∷ ws) = omega (arith, words-append name (declared w) (all_declared ws), words_sum ws)

  saying_at : (x : Statement) (z : Typed-F Statement) → roll z ≡ x → saying x ≡ occurs name (names_step (map-typed Statement (List (List ℕ)) said z))
  saying_at x z is = ap saying (sym is) ∙ ap (occurs name) (fold-roll (List (List ℕ)) names_step z)

  stating_at : (y : Statement-F Written) → stating (roll-Statement y) ≡ occurs name (words_of (declared_step (map-Statement Written (List Ident) declared y)))
  stating_at y = ap (λ (ns : List Ident). occurs name (words_of ns)) (fold-roll-Statement (List Ident) declared_step y)

  forms : Forms (Weighs saying stating)
  forms = record {
    declaration = λ d number t e.
        omega (arith, ap (once name) e, saying_at (form.Decl t) (typed.Decl t) (form.rolls-Decl t), stating_at (layer.Declaration d));
    call = λ c number t e.
        omega (arith, ap (once name) e, saying_at (form.Call t) (typed.Call t) (form.rolls-Call t), stating_at (layer.Call c));
    scatter = λ s number span over body b.
        omega (
          arith,
          saying_at (scatter number s.item.name span over body) _ (form.rolls-Scatter _),
          stating_at (layer.Scatter s),
          names_sum body,
          words_sum s.body,
          body_weighs saying stating s.body body b,
        );
    conditional = λ i number span test body b.
        omega (
          arith,
          saying_at (condition number span test body) _ (form.rolls-If _),
          stating_at (layer.Conditional i),
          names_sum body,
          words_sum i.body,
          body_weighs saying stating i.body body b,
        );
  }

-- ---- lists that are checked in an order

module _ {D T : Type 0} (step : List T → D → Outcome T) (behind : List T → List D → Outcome (List T))
    (more : (before : List T) (d : D) (ds : List D) → behind before (d ∷ ds) ≡ then_ (step before d) (λ t. behind (before ++ t ∷ []) ds))
    (nothing : (before : List T) → behind before [] ≡ done before)
    (f : D → ℕ) (g : T → ℕ) (same : (before : List T) (d : D) (t : T) → (step before d).typed ≡ Some t → f d ≡ g t) where
  behind_sum : (ds : List D) (before ts : List T) → (behind before ds).typed ≡ Some ts → sum_of (map g ts) ≡ sum_of (map g before) + sum_of (map f ds)
  behind_sum [] before ts h =
      let e : before ≡ ts = same_Some before ts (ap (λ (o : Outcome (List T)). o.typed) (sym (nothing before)) ∙ h) in
      omega (arith, ap (λ (xs : List T). sum_of (map g xs)) e)
  behind_sum (d ∷ ds) before ts h =
      let q = then_some (step before d) (λ t. behind (before ++ t ∷ []) ds) ts (ap (λ (o : Outcome (List T)). o.typed) (sym (more before d ds)) ∙ h) in
      omega (arith, behind_sum ds (before ++ q.0 ∷ []) ts q.2, sum-append g before (q.0 ∷ []), same before d q.0 q.1)

  listed_sum : (needing : D → Needing) (spans : List Span) (ds : List D) (ts : List T)
      → (then_ (ordered (map needing ds) spans) (λ ps. behind [] (picked ds ps))).typed ≡ Some ts → sum_of (map g ts) ≡ sum_of (map f ds)
  listed_sum needing spans ds ts h =
      let q = then_some (ordered (map needing ds) spans) (λ ps. behind [] (picked ds ps)) ts h in
      omega (arith, behind_sum (picked ds q.0) [] ts q.2, order_sum f ds (map needing ds) q.0 (length-map ds needing) q.1)

input_name : (w : World) (names : List Bound) (i : InputDeclaration) (t : TInput) → (input_typed w names i).typed ≡ Some t → i.name.name ≡ t.name
input_name w names i t h =
    let q = then_some (written w.locals i.ty) (input_as w names i) t h in
    let r = then_some (preset_typed w names q.0 i.preset) (λ v. done (input i q.0 v)) t q.2 in
    ap (λ (z : TInput). z.name) (same_Some (input i q.0 r.0) t r.2)

inputs_same : (name : List ℕ) (w : World) (is : List InputDeclaration) (ts : List TInput) → (inputs_typed w is).typed ≡ Some ts
    → occurs name (input_names ts) ≡ occurs name (words_of (map (λ (i : InputDeclaration). i.name) is))
inputs_same name w is ts h =
    occurs_names name (λ (t : TInput). t.name) ts
    ∙ listed_sum (λ before i. input_typed w (inputs_bound before) i) (inputs_behind w) (λ _ _ _. refl) (λ _. refl)
    (λ (i : InputDeclaration). once name i.name.name) (λ (t : TInput). once name t.name) (λ before i t e. ap (once name) (input_name w (inputs_bound before) i t e))
    input_needing (map input_span is) is ts h
    ∙ sym (occurs_words name (λ (i : InputDeclaration). i.name) is)

outputs_same : (name : List ℕ) (w : World) (names : List Bound) (ds : List Declaration) (ts : List TDecl) → (decls_typed Body w names ds).typed ≡ Some ts
    → occurs name (decl_names ts) ≡ occurs name (words_of (map (λ (d : Declaration). d.name) ds))
outputs_same name w names ds ts h =
    occurs_names name (λ (t : TDecl). t.name) ts
    ∙ listed_sum (λ before d. decl_typed Body w (names ++ decls_bound before) d) (decls_behind Body w names) (λ _ _ _. refl) (λ _. refl)
    (λ (d : Declaration). once name d.name.name) (λ (t : TDecl). once name t.name) (λ before d t e. ap (once name) (decl_name w (names ++ decls_bound before) d t e))
    declaration_needing (map declaration_span ds) ds ts h
    ∙ sym (occurs_words name (λ (d : Declaration). d.name) ds)

-- ---- names that stand twice

pub next_none : (o rest : Option Span) → or_next o rest ≡ None → (o ≡ None) × (rest ≡ None)
next_none None rest h = (refl, h)
next_none (Some s) rest h = cc

unless_none : (code : ℕ) (o : Option Span) → (unless_at code o).typed ≡ Some tt → o ≡ None
unless_none code None h = refl
unless_none code (Some s) h = cc

pub unrepeated : (w : World) (f : Workflow) (h : FlowHead) → (head_typed w f).typed ≡ Some h → repeated (inputs_of f.elements) (statements_of f.elements) (outputs_of f.elements) ≡ None
unrepeated w f h e =
    let again = repeated (inputs_of f.elements) (statements_of f.elements) (outputs_of f.elements) in
    unless_none 321 again (then_some (unless_at 328 (first_deep (map too_deep (statements_of f.elements)) 24)) (λ _. unless_at 321 again) tt (headed w f h e).shape).2

unrepeated_fresh : (before : List (List ℕ)) (ns : List Ident) → first_repeated before ns ≡ None → fresh before (words_of ns) ≡ true
unrepeated_fresh before [] h = refl
unrepeated_fresh before (n ∷ ns) h = by_test (unrepeated_fresh (before ++ n.name ∷ []) ns) (has_name n.name before) refl h
  where
    by_test : (first_repeated (before ++ n.name ∷ []) ns ≡ None → fresh (before ++ n.name ∷ []) (words_of ns) ≡ true)
        → (b : Bool) → has_name n.name before ≡ b → (if b then Some n.span else first_repeated (before ++ n.name ∷ []) ns) ≡ None
        → fresh before (words_of (n ∷ ns)) ≡ true
    by_test more true e h = cc
    by_test more false e h =
        and_from (not (has_name n.name before)) (fresh (before ++ n.name ∷ []) (words_of ns)) (not_from_false (has_name n.name before) e) (more h)

-- ---- workflows

abbrev idents : Workflow → List Ident
idents f = idents_in (inputs_of f.elements) (statements_of f.elements) (outputs_of f.elements)

pub flow_fewer : (p : Place) (f : Workflow) (h : FlowHead) (r : FlowRest) (name : List ℕ) (span : Span)
    → (head_typed p.world f).typed ≡ Some h → (rest_typed p h.inputs f).typed ≡ Some r
    → Fewer (flow_names (flow_of name span h r)) (words_of (idents_in (inputs_of f.elements) (statements_of f.elements) (outputs_of f.elements)))
flow_fewer p f h r name span e g word =
    let q = headed p.world f h e in
    let s = rested p h.inputs f r g in
    let is = map (λ (i : InputDeclaration). i.name) (inputs_of f.elements) in
    let ws = statements_of f.elements in
    let ds = map (λ (d : Declaration). d.name) (outputs_of f.elements) in
    omega (
      arith,
      occurs-append word (input_names h.inputs ++ names_of r.body) (decl_names r.outputs),
      occurs-append word (input_names h.inputs) (names_of r.body),
      words-append word is (all_declared ws ++ ds),
      words-append word (all_declared ws) ds,
      inputs_same word p.world (inputs_of f.elements) h.inputs q.inputs,
      outputs_same word (world_at p s.given) (inputs_bound h.inputs ++ s.given.names) (outputs_of f.elements) r.outputs s.outputs,
      names_sum word r.body,
      words_sum word ws,
      body_weighs (saying word) (stating word) ws r.body
          (statements_fit p (Weighs (saying word) (stating word)) (forms word) ws (inputs_seen h.inputs) (record { statements = r.body; given = s.given }) s.body),
    )

pub names_distinct : (p : Place) (f : Workflow) (h : FlowHead) (r : FlowRest) (name : List ℕ) (span : Span)
    → (head_typed p.world f).typed ≡ Some h → (rest_typed p h.inputs f).typed ≡ Some r → are_distinct (flow_names (flow_of name span h r)) ≡ true
names_distinct p f h r name span e g =
    let words = words_of (idents f) in
    let new = next_none (first_repeated [] (idents f)) (first_taken (map taken (statements_of f.elements)) words) (unrepeated p.world f h e) in
    fewer_distinct (flow_names (flow_of name span h r)) words (flow_fewer p f h r name span e g)
    (sym (fresh-distinct words) ∙ unrepeated_fresh [] (idents f) new.0)
