-- Statements, workflows and whole forms that are the same but for the names of tasks give the same.
use Rattle.std.proofs.Common.{◌≡◌, ℕ, zero, suc, Bool, true, ◌&&◌, ◌==◌, ◌≤◌, List, [], ◌∷◌, map, Option, Some, None, slice_get, if◌then◌else◌, sym, ap, ◌∙◌, subst, refl, arith}
use Rattle.std.specs.List.{list_all}
use Rattle.std.specs.Str.{bytes_eq}
use Rattle.std.proofs.lemmas.Bool.{eqb-true, false≢true, and_parts}
use Rattle.std.proofs.lemmas.Slice.Eq.{bytes_eq-Decides}
use Rattle.wdl_base.specs.declared.place.Segment.{Segment}
use Rattle.wdl_value.specs.declared.env.Bind.{Bind}
use Rattle.wdl_value.specs.declared.value.Value.{Value}
use Rattle.wdl_value.specs.Fits.{Structs}
use Rattle.wdl_value.specs.Tables.{Row}
use Rattle.wdl_typed.specs.declared.expr.TExpr.{TExpr}
use Rattle.wdl_typed.specs.declared.flow.FlowDef.{FlowDef}
use Rattle.wdl_typed.specs.declared.flow.Statement.{Statement, Statement-F, fold-Statement, fold-roll-Statement, fold_out-Statement, ind-Statement, map-Statement, out-Statement, roll-Statement}
use Rattle.wdl_typed.specs.declared.flow.Statement.TheOpen as layer
use Rattle.wdl_typed.specs.declared.task.TDecl.{TDecl}
use Rattle.wdl_typed.specs.declared.task.TInput.{TInput}
use Rattle.wdl_typed.specs.declared.task.TaskDef.{TaskDef}
use Rattle.wdl_typed.specs.Bodies.{Library}
use Rattle.wdl_typed.specs.Declarations.{plain_key}
use Rattle.wdl_typed.specs.Flow.{Callee, Flowing, Part, Run, Runner, Sight, beginning, body_names, body_run, declaration, env_of, flow, flow_at, flow_run, if_run, in_turn, input_of, inputs, known, outputs, part, scatter_run, statement_step, statements, value_in, Known as KnownName}
use Rattle.wdl_typed.specs.Journal.{bind_fits, inputs_fit, is_given, keys, keys_distinct, value_fits}
use Rattle.wdl_typed.specs.Scope.{lookup, same_key}
use Rattle.flow_laws.specs.Laws.{run_with}
use Rattle.wdl_same.specs.Exprs.{same_expr}
use Rattle.wdl_same.specs.Forms.{StatementTest, main_of, same_at, same_body, same_but_names, same_flow, same_mains, same_statement}
use Rattle.wdl_same.specs.Tasks.{same_decls, same_inputs, same_structs}
use Rattle.wdl_same.specs.Partners.{all_called, partners_of, same_partners}
use Rattle.wdl_same.specs.Laws.{Agree, FormsAgree}
use Rattle.wdl_same.proofs.Equal.{expr_equal}
use Rattle.wdl_same.proofs.Plain.{decl_plain, decls_plain, inputs_plain, inputs_taken, plain_decl, plain_input, structs_equal}
use Rattle.wdl_same.proofs.SameCalls.{call_same}

-- ---- inputs and outputs

input_unseen : (s : Sight) (i : TInput) (o : Option Value) → input_of s (plain_input i) o ≡ input_of s i o
input_unseen s i None = refl
input_unseen s i (Some x) = refl

abbrev input_runner : List Bind → TInput → Runner
input_runner given i s = input_of s i (lookup given (plain_key i.name))

abbrev output_runner : TDecl → Runner
output_runner d s = declaration s d.name d.value

input_runners : (given : List Bind) (is : List TInput) → map (input_runner given) (map plain_input is) ≡ map (input_runner given) is
input_runners given [] = refl
input_runners given (i ∷ is) =
    ap (λ (f : Runner). f ∷ map (input_runner given) (map plain_input is)) (λ k s. input_unseen s i (lookup given (plain_key i.name)) k)
    ∙ ap (λ (fs : List Runner). input_runner given i ∷ fs) (input_runners given is)

output_runners : (ds : List TDecl) → map output_runner (map plain_decl ds) ≡ map output_runner ds
output_runners [] = refl
output_runners (d ∷ ds) = ap (λ (fs : List Runner). output_runner d ∷ fs) (output_runners ds)

inputs_same : (given : List Bind) (is js : List TInput) → same_inputs is js ≡ true → inputs given is ≡ inputs given js
inputs_same given is js h =
    ap in_turn (sym (input_runners given is) ∙ ap (map (input_runner given)) (inputs_plain is js h) ∙ input_runners given js)

outputs_same : (ds es : List TDecl) → same_decls ds es ≡ true → outputs ds ≡ outputs es
outputs_same ds es h = ap in_turn (sym (output_runners ds) ∙ ap (map output_runner) (decls_plain ds es h) ∙ output_runners es)

-- the outputs of a flow
abbrev output_known : Flowing → TDecl → KnownName
output_known f d = known d.name (value_in (plain_key d.name) f)

outputs_known : (f : Flowing) (ds : List TDecl) → map (output_known f) (map plain_decl ds) ≡ map (output_known f) ds
outputs_known f [] = refl
outputs_known f (d ∷ ds) = ap (λ (ks : List KnownName). output_known f d ∷ ks) (outputs_known f ds)

outputs_agree : (f : Flowing) (ds es : List TDecl) → same_decls ds es ≡ true → env_of (map (output_known f) ds) ≡ env_of (map (output_known f) es)
outputs_agree f ds es h = ap env_of (sym (outputs_known f ds) ∙ ap (map (output_known f)) (decls_plain ds es h) ∙ outputs_known f es)

-- ---- inputs that fit

fits_unseen : (structs : Structs) (is : List TInput) (b : Bind) → bind_fits structs (map plain_input is) b ≡ bind_fits structs is b
fits_unseen structs [] b = refl
fits_unseen structs (i ∷ is) b =
    ap (λ (x : Bool). if same_key b.key (plain_key i.name) then value_fits structs i.ty b.value else x) (fits_unseen structs is b)

given_unseen : (given : List Bind) (is : List TInput) → list_all (is_given given) (map plain_input is) ≡ list_all (is_given given) is
given_unseen given [] = refl
given_unseen given (i ∷ is) = ap (λ (x : Bool). is_given given i && x) (given_unseen given is)

fit_unseen : (structs : Structs) (is : List TInput) (given : List Bind) → inputs_fit structs (map plain_input is) given ≡ inputs_fit structs is given
fit_unseen structs is given =
    let each : bind_fits structs (map plain_input is) ≡ bind_fits structs is = λ k b. fits_unseen structs is b k in
    ap (λ (p : Bind → Bool). keys_distinct (keys given) && list_all p given && list_all (is_given given) (map plain_input is)) each
    ∙ ap (λ (x : Bool). keys_distinct (keys given) && list_all (bind_fits structs is) given && x) (given_unseen given is)

fit_same : (structs others : Structs) → structs ≡ others → (is js : List TInput) → same_inputs is js ≡ true → (given : List Bind)
    → inputs_fit structs is given ≡ inputs_fit others js given
fit_same structs others e is js h given =
    sym (fit_unseen structs is given)
    ∙ ap (λ (xs : List TInput). inputs_fit structs xs given) (inputs_plain is js h)
    ∙ fit_unseen structs js given
    ∙ ap (λ (s : Structs). inputs_fit s js given) e

-- ---- parts of workflows

record FlowParts (tasks others : List TaskDef) (f g : FlowDef) : Type 0 where
  name : f.name ≡ g.name
  inputs : same_inputs f.inputs g.inputs ≡ true
  body : same_body (partners_of tasks (all_called f.body) (all_called g.body)) (partners_of others (all_called g.body) (all_called f.body)) f.body g.body ≡ true
  outputs : same_decls f.outputs g.outputs ≡ true
  sound : same_partners others tasks (partners_of tasks (all_called f.body) (all_called g.body)) ≡ true

flow_parts : (tasks others : List TaskDef) (f g : FlowDef) → same_flow tasks others f g ≡ true → FlowParts tasks others f g
flow_parts tasks others f g h =
    let partners = partners_of tasks (all_called f.body) (all_called g.body) in
    let owners = partners_of others (all_called g.body) (all_called f.body) in
    let names = bytes_eq f.name g.name in
    let takes = same_inputs f.inputs g.inputs in
    let bodies = same_body partners owners f.body g.body in
    let w = and_parts (names && takes && bodies && same_decls f.outputs g.outputs) (same_partners others tasks partners) h in
    let x = and_parts (names && takes && bodies) (same_decls f.outputs g.outputs) w.0 in
    let y = and_parts (names && takes) bodies x.0 in
    let z = and_parts names takes y.0 in
    record { name = (bytes_eq-Decides f.name g.name).0 z.0; inputs = z.1; body = y.1; outputs = x.1; sound = w.1 }

-- ---- statements

module _ (a b : Library) (same : a.structs ≡ b.structs) (site : List ℕ) (table : List Row) where
  abbrev left : Run
  left = run_with a site table

  abbrev right : Run
  right = run_with b site table

  module _ (partners owners : List (Option ℕ)) (sound : same_partners b.tasks a.tasks partners ≡ true) (f g : Callee) where
    abbrev lefts : Statement → Part
    lefts = fold-Statement Part (statement_step left f)

    abbrev rights : Statement → Part
    rights = fold-Statement Part (statement_step right g)

    abbrev test : Statement → StatementTest
    test = same_statement partners owners

    abbrev Holds : Statement → Type 0
    Holds s = (t : Statement) → test s t ≡ true → lefts s ≡ rights t

    abbrev Known : Type 0
    Known = (s : Statement) × Holds s

    abbrev plain : Statement-F Known → Statement-F Statement
    plain = map-Statement Known Statement (λ (k : Known). k.0)

    abbrev firsts : List Known → List Statement
    firsts = map (λ (k : Known). k.0)

    lists_same : (ks : List Known) (ts : List Statement) → same_body partners owners (firsts ks) ts ≡ true → map lefts (firsts ks) ≡ map rights ts
    lists_same [] [] h = refl
    lists_same [] (t ∷ ts) h = absurd (false≢true h)
    lists_same (k ∷ ks) [] h = absurd (false≢true h)
    lists_same (k ∷ ks) (t ∷ ts) h =
        let p = and_parts (test k.0 t) (same_body partners owners (firsts ks) ts) h in
        ap (λ (x : Part). x ∷ map lefts (firsts ks)) (k.1 t p.0) ∙ ap (λ (xs : List Part). rights t ∷ xs) (lists_same ks ts p.1)

    abbrev scatter : ℕ → List ℕ → TExpr → List Part → Part
    scatter k item over ps = part (body_names ps) (scatter_run (body_names ps) (body_run ps) k item over)

    abbrev condition : ℕ → TExpr → List Part → Part
    condition k cond ps = part (body_names ps) (if_run (body_names ps) (body_run ps) k cond)

    layer_same : (y : Statement-F Known) (z : Statement-F Statement) → same_at partners owners (map-Statement Statement StatementTest test (plain y)) z ≡ true
        → statement_step left f (map-Statement Statement Part lefts (plain y)) ≡ statement_step right g (map-Statement Statement Part rights z)
    layer_same (layer.Decl d) (layer.Decl e) h =
        ap (λ (x : TDecl). part (record { keys = plain_key x.name ∷ []; calls = [] }) (λ s. declaration s x.name x.value)) (decl_plain d e h)
    layer_same (layer.Call c) (layer.Call d) h = call_same a b same site table f g partners owners sound c d h
    layer_same (layer.Scatter s) (layer.Scatter t) h =
        let body = same_body partners owners (firsts s.body) t.body in
        let x = and_parts (s.number == t.number && bytes_eq s.item t.item && same_expr s.over t.over) body h in
        let y = and_parts (s.number == t.number && bytes_eq s.item t.item) (same_expr s.over t.over) x.0 in
        let z = and_parts (s.number == t.number) (bytes_eq s.item t.item) y.0 in
        ap (scatter s.number s.item s.over) (lists_same s.body t.body x.1)
        ∙ ap (λ (k : ℕ). scatter k s.item s.over (map rights t.body)) (eqb-true s.number t.number z.0)
        ∙ ap (λ (n : List ℕ). scatter t.number n s.over (map rights t.body)) ((bytes_eq-Decides s.item t.item).0 z.1)
        ∙ ap (λ (e : TExpr). scatter t.number t.item e (map rights t.body)) (expr_equal s.over t.over y.1)
    layer_same (layer.If i) (layer.If j) h =
        let body = same_body partners owners (firsts i.body) j.body in
        let x = and_parts (i.number == j.number && same_expr i.cond j.cond) body h in
        let y = and_parts (i.number == j.number) (same_expr i.cond j.cond) x.0 in
        ap (condition i.number i.cond) (lists_same i.body j.body x.1)
        ∙ ap (λ (k : ℕ). condition k i.cond (map rights j.body)) (eqb-true i.number j.number y.0)
        ∙ ap (λ (e : TExpr). condition j.number e (map rights j.body)) (expr_equal i.cond j.cond y.1)
    layer_same y z h = absurd (false≢true h)

    statement_same : (s : Statement) → Holds s
    statement_same = ind-Statement Holds (λ x y is. subst (λ (z : Statement-F Statement). Holds (roll-Statement z)) is (λ t h.
        let e = ap (λ (w : StatementTest). w t) (fold-roll-Statement StatementTest (λ l w. same_at partners owners l (out-Statement w)) (plain y)) in
        fold-roll-Statement Part (statement_step left f) (plain y)
        ∙ layer_same y (out-Statement t) (sym e ∙ h)
        ∙ sym (fold_out-Statement Part (statement_step right g) t)))

    body_same : (ss ts : List Statement) → same_body partners owners ss ts ≡ true → map lefts ss ≡ map rights ts
    body_same [] [] h = refl
    body_same [] (t ∷ ts) h = absurd (false≢true h)
    body_same (s ∷ ss) [] h = absurd (false≢true h)
    body_same (s ∷ ss) (t ∷ ts) h =
        let p = and_parts (test s t) (same_body partners owners ss ts) h in
        ap (λ (x : Part). x ∷ map lefts ss) (statement_same s t p.0) ∙ ap (λ (xs : List Part). rights t ∷ xs) (body_same ss ts p.1)

  -- ---- workflows

  module _ (f g : Callee) where
    run_same : (v w : FlowDef) → same_flow a.tasks b.tasks v w ≡ true → (given : List Bind) (place : List Segment)
        → flow_run left f v given (beginning place) ≡ flow_run right g w given (beginning place)
    run_same v w h given place =
        let p = flow_parts a.tasks b.tasks v w h in
        let partners = partners_of a.tasks (all_called v.body) (all_called w.body) in
        let owners = partners_of b.tasks (all_called w.body) (all_called v.body) in
        let turns : Runner → Runner → Runner → Flowing = λ i s o. in_turn (i ∷ s ∷ o ∷ []) (beginning place) in
        ap (λ (i : Runner). turns i (statements left f v.body) (outputs v.outputs)) (inputs_same given v.inputs w.inputs p.inputs)
        ∙ ap (λ (ps : List Part). turns (inputs given w.inputs) (body_run ps) (outputs v.outputs)) (body_same partners owners p.sound f g v.body w.body p.body)
        ∙ ap (λ (o : Runner). turns (inputs given w.inputs) (statements right g w.body) o) (outputs_same v.outputs w.outputs p.outputs)

    pub at_same : (o p : Option FlowDef) → same_mains a.tasks b.tasks o p ≡ true → (given : List Bind) (place : List Segment)
        → flow_at left f o given place ≡ flow_at right g p given place
    at_same None None h given place = refl
    at_same None (Some w) h given place = absurd (false≢true h)
    at_same (Some v) None h given place = absurd (false≢true h)
    at_same (Some v) (Some w) h given place = run_same v w h given place

  -- ---- to a depth

  pub flow_same : (d e m n : ℕ) → 1 ≤ d → 1 ≤ e → same_mains a.tasks b.tasks (slice_get a.flows m) (slice_get b.flows n) ≡ true → (given : List Bind) (place : List Segment)
      → flow left d m given place ≡ flow right e n given place
  flow_same zero e m n below under h given place = absurd (omega (arith, below))
  flow_same (suc d) zero m n below under h given place = absurd (omega (arith, under))
  flow_same (suc d) (suc e) m n below under h given place = at_same (flow left d) (flow right e) (slice_get a.flows m) (slice_get b.flows n) h given place

-- ---- whole forms

-- two main workflows that are the same
agree : (a : Library) (m : ℕ) (f : FlowDef) (b : Library) (n : ℕ) (g : FlowDef) → slice_get a.flows m ≡ Some f → slice_get b.flows n ≡ Some g
    → same_structs a.structs b.structs ≡ true → same_flow a.tasks b.tasks f g ≡ true → Agree a m f b n g
agree a m f b n g here there s h =
    let p = flow_parts a.tasks b.tasks f g h in
    let structs = structs_equal a.structs b.structs s in
    let mains : same_mains a.tasks b.tasks (slice_get a.flows m) (slice_get b.flows n) ≡ true =
    ap (λ (o : Option FlowDef). same_mains a.tasks b.tasks o (slice_get b.flows n)) here
    ∙ ap (λ (o : Option FlowDef). same_mains a.tasks b.tasks (Some f) o) there
    ∙ h in
    record {
      name = p.name;
      inputs = inputs_taken f.inputs g.inputs p.inputs;
      fit = fit_same a.structs b.structs structs f.inputs g.inputs p.inputs;
      flow = λ given site table. flow_same a b structs site table 25 25 m n (omega arith) (omega arith) mains given [];
      outputs = λ whole_flow. outputs_agree whole_flow f.outputs g.outputs p.outputs;
    }

-- what a form has for its main workflow that is the same as one that is there
found : (a : Library) (m : ℕ) (f : FlowDef) (b : Library) (last : Option ℕ) → slice_get a.flows m ≡ Some f → same_structs a.structs b.structs ≡ true
    → same_mains a.tasks b.tasks (Some f) (main_of b.flows last) ≡ true
    → (other : ℕ) × (g : FlowDef) × (last ≡ Some other) × (slice_get b.flows other ≡ Some g) × Agree a m f b other g
found a m f b None here s h = absurd (false≢true h)
found a m f b (Some n) here s h = picked (slice_get b.flows n) refl h
  where
    picked : (o : Option FlowDef) → slice_get b.flows n ≡ o → same_mains a.tasks b.tasks (Some f) o ≡ true
        → (other : ℕ) × (g : FlowDef) × (Some n ≡ Some other) × (slice_get b.flows other ≡ Some g) × Agree a m f b other g
    picked None there i = absurd (false≢true i)
    picked (Some g) there i = (n, g, refl, there, agree a m f b n g here there s i)

pub forms_agree : FormsAgree
unfolding same_but_names
forms_agree a main f b last here h =
    let p = and_parts (same_structs a.structs b.structs) (same_mains a.tasks b.tasks (main_of a.flows (Some main)) (main_of b.flows last)) h in
    found a main f b last here p.0
    (ap (λ (o : Option FlowDef). same_mains a.tasks b.tasks o (main_of b.flows last)) (sym here) ∙ p.1)
