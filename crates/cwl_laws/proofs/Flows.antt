-- A workflow of the subset, whose calls agree with their steps.
use Rattle.std.proofs.Common.{◌≡◌, ℕ, ◌<◌, ◌≤◌, ◌^◌, Bool, true, false, cond, ◌&&◌, List, [], ◌∷◌, ◌++◌, map, Option, Some, None, Contains, append-nil, append_assoc, sym, ap, ◌∙◌, subst, refl}
use Rattle.std.specs.Str.{bytes_eq}
use Rattle.std.proofs.lemmas.Bool.{false≢true, and_parts}
use Rattle.std.proofs.lemmas.Option.{none-some, same_Some}
use Rattle.wdl_base.specs.declared.name.Key.{Key}
use Rattle.wdl_base.specs.Names.{is_name}
use Rattle.wdl_value.specs.declared.value.Value.{Value}
use Rattle.wdl_value.specs.Fits.{Structs}
use Rattle.wdl_typed.specs.declared.flow.FlowDef.{FlowDef}
use Rattle.wdl_typed.specs.declared.flow.Statement.{Statement}
use Rattle.wdl_typed.specs.declared.flow.Target.{Target}
use Rattle.wdl_typed.specs.declared.scope.Bound.{Bound}
use Rattle.wdl_typed.specs.declared.task.TDecl.{TDecl}
use Rattle.wdl_typed.specs.declared.task.TInput.{TInput}
use Rattle.wdl_typed.specs.Bodies.{Library, all_declared, body_nests}
use Rattle.wdl_typed.specs.Declarations.{bound, decl_names, decls_bound, decls_typed, in_body, input_names, inputs_bound, plain_key}
use Rattle.wdl_typed.specs.Flow.{Callee, Run, env_of}
use Rattle.wdl_typed.specs.Kept.{count_statements, flow_names, inputs_seen}
use Rattle.wdl_typed.specs.KnownTypes.{is_some, is_written}
use Rattle.wdl_typed.specs.Lists.{has_name}
use Rattle.wdl_typed.specs.Scope.{is_among, lookup, same_key, same_second, type_in}
use Rattle.wdl_typed.specs.Typing.{is_type}
use Rattle.wdl_names.proofs.FreshLemmas.{fresh-distinct}
use Rattle.flow_soundness.proofs.FlowSound.{Typed, body_is_new}
use Rattle.flow_soundness.proofs.NewNames.{name_left}
use Rattle.flow_laws.proofs.Checked.{IsFlow, OutputsDiffer, names_right}
use Rattle.flow_laws.proofs.Owned.{shared_by_none}
use Rattle.cwl_model.specs.declared.process.Process.{Process}
use Rattle.cwl_model.proofs.Rounds.{or_else}
use Rattle.cwl_image.specs.declared.broken.Broken.{Broken}
use Rattle.cwl_image.specs.Expressions.{are_allowed, default_allowed, is_call_output, is_simple, refers_to_output}
use Rattle.cwl_image.specs.Image.{Draft, Scope, body_links, input_linkage, keys_of, linkage_at, reference, target_by}
use Rattle.cwl_image.specs.Named.{are_names, body_named, flow_named}
use Rattle.cwl_image.specs.Subset.{called_broken, declared_by, each_broken, flow_broken, flow_output_broken, input_broken, is_default, output_scope, unless, walk_flow}
use Rattle.cwl_laws.specs.Parts.{LinksTyped}
use Rattle.cwl_laws.specs.Premises.{AreOutputs, IsOutput, IsWorkflow, input_names_with}
use Rattle.cwl_laws.specs.Tools.{drafts_of, ground_of, runners_of}
use Rattle.cwl_laws.proofs.Agreeing.{CallsDone, statements_done}
use Rattle.cwl_laws.proofs.Differ.{all_new, body_differs, body_fresh}
use Rattle.cwl_laws.proofs.Elements.{among_has, link_seen, link_typed, not_linked}
use Rattle.cwl_laws.proofs.Statements.{AllDone, BodyHere, IsSound, all_wires, new_differ}
use Rattle.cwl_laws.proofs.Given.{links_append}
use Rattle.cwl_laws.proofs.Keys.{IsOutputKey, links_are}
use Rattle.cwl_laws.proofs.References.{reads_among}
use Rattle.cwl_laws.proofs.Splits.{body_linked}
use Rattle.cwl_laws.proofs.Stands.{AreSimple, AreWords, simple_then}
use Rattle.cwl_laws.proofs.Steps.{AreNumbered, are_numbered, steps_apart}
use Rattle.cwl_laws.proofs.Tools.{both_empty, inputs_are, rule_holds}
use Rattle.cwl_laws.proofs.Uses.{key_typed, type_append}
use Rattle.cwl_laws.proofs.Workflows.{named_among}
use Rattle.wdl_flow.proofs.MarkLemmas.{same_key-true as key_same}
use Rattle.flow_soundness.proofs.Fitting.{is_type-some}

-- ---- rules

-- the rules that a workflow keeps
pub record FlowRules (lib : Library) (f : FlowDef) : Type 0 where
  pub inputs : each_broken (input_broken lib.structs (inputs_bound f.inputs)) f.inputs ≡ []
  pub body : (walk_flow lib f).broken ≡ []
  pub outputs : each_broken (flow_output_broken lib.structs (output_scope lib f)) f.outputs ≡ []

pub flow_rules : (lib : Library) (f : FlowDef) → flow_broken lib f ≡ [] → FlowRules lib f
flow_rules lib f h =
    let a = both_empty (each_broken (input_broken lib.structs (inputs_bound f.inputs)) f.inputs ++ (walk_flow lib f).broken) (each_broken (flow_output_broken lib.structs (output_scope lib f)) f.outputs) h in
    let b = both_empty (each_broken (input_broken lib.structs (inputs_bound f.inputs)) f.inputs) (walk_flow lib f).broken a.0 in
    record { inputs = b.0; body = b.1; outputs = a.1 }

-- ---- inputs

inputs_linked : (is : List TInput) → LinksTyped (map input_linkage is) (inputs_bound is)
inputs_linked [] = tt
inputs_linked (i ∷ is) = (refl, refl, inputs_linked is)

inputs_simple : (structs : Structs) (names : List Bound) (is : List TInput) → each_broken (input_broken structs names) is ≡ [] → AreSimple (inputs_bound is)
inputs_simple structs names [] h k t e = absurd (none-some _ e)
inputs_simple structs names (i ∷ is) h k t e =
    let p = both_empty (input_broken structs names i) (each_broken (input_broken structs names) is) h in
    let q = both_empty (unless (is_simple i.ty) 605 i.span ++ unless (default_allowed structs names i.value) 606 i.span) (unless (is_default i.ty i.value) 607 i.span) p.0 in
    let s = both_empty (unless (is_simple i.ty) 605 i.span) (unless (default_allowed structs names i.value) 606 i.span) q.0 in
    by_test (same_key (plain_key i.name) k) e (rule_holds (is_simple i.ty) 605 i.span s.0) (λ z. inputs_simple structs names is p.1 k t z)
  where
    by_test : (b : Bool) → cond b (Some i.ty) (type_in (inputs_bound is) k) ≡ Some t → is_simple i.ty ≡ true → (type_in (inputs_bound is) k ≡ Some t → is_simple t ≡ true) → is_simple t ≡ true
    by_test true z own rest = ap is_simple (sym (same_Some _ _ z)) ∙ own
    by_test false z own rest = rest z

inputs_words : (is : List TInput) → are_names (input_names is) ≡ true → AreWords (inputs_bound is)
inputs_words [] h k t e = absurd (none-some _ e)
inputs_words (i ∷ is) h k t e =
    let p = and_parts (is_name i.name) (are_names (input_names is)) h in
    by_test (same_key (plain_key i.name) k) refl e p.0 (λ z. inputs_words is p.1 k t z)
  where
    by_test : (b : Bool) → same_key (plain_key i.name) k ≡ b → cond b (Some i.ty) (type_in (inputs_bound is) k) ≡ Some t → is_name i.name ≡ true → (type_in (inputs_bound is) k ≡ Some t → is_name k.first ≡ true) → is_name k.first ≡ true
    by_test true s z own rest = ap (λ (j : Key). is_name j.first) (sym (key_same (plain_key i.name) k s)) ∙ own
    by_test false s z own rest = rest z

inputs_unseen : (value : TInput → Value) (is : List TInput) (k : Key) → type_in (inputs_bound is) k ≡ None → lookup (env_of (input_names_with value is)) k ≡ None
inputs_unseen value [] k h = refl
inputs_unseen value (i ∷ is) k h = by_test (same_key (plain_key i.name) k) h (λ z. inputs_unseen value is k z)
  where
    by_test : (b : Bool) → cond b (Some i.ty) (type_in (inputs_bound is) k) ≡ None → (type_in (inputs_bound is) k ≡ None → lookup (env_of (input_names_with value is)) k ≡ None)
        → cond b (Some (value i)) (lookup (env_of (input_names_with value is)) k) ≡ None
    by_test true z rest = absurd (none-some _ (sym z))
    by_test false z rest = rest z

-- ---- outputs

-- a name of a call is no plain one
call_none : (ds : List TDecl) (k : Key) (s : List ℕ) → k.second ≡ Some s → type_in (decls_bound ds) k ≡ None
call_none [] k s h = refl
call_none (d ∷ ds) k s h = ap (λ o. cond (bytes_eq d.name k.first && same_second None o) (Some d.ty) (type_in (decls_bound ds) k)) h ∙ by_and (bytes_eq d.name k.first) ∙ call_none ds k s h
  where
    by_and : (b : Bool) → cond (b && false) (Some d.ty) (type_in (decls_bound ds) k) ≡ type_in (decls_bound ds) k
    by_and true = refl
    by_and false = refl

pub or_nothing : {A : Type 0} (o : Option A) → or_else o None ≡ o
or_nothing (Some x) = refl
or_nothing None = refl

behind : (names : List Bound) (ds : List TDecl) (k : Key) (s : List ℕ) → k.second ≡ Some s → type_in (names ++ decls_bound ds) k ≡ type_in names k
behind names ds k s h = type_append names (decls_bound ds) k ∙ ap (or_else (type_in names k)) (call_none ds k s h) ∙ or_nothing (type_in names k)

module _ (structs : Structs) (seen : List Bound) (scope : Scope) (all : List TDecl) (linked : LinksTyped scope seen) (simple : AreSimple seen) where
  output_is : (names : List Bound) (done : List TDecl) (d : TDecl) → names ≡ seen ++ decls_bound done → is_type (in_body structs names d.value) d.ty ≡ true → refers_to_output structs (seen ++ decls_bound all) d.value ≡ true
      → IsOutput structs seen scope d
  output_is names done d at typed kept =
      let p = and_parts (is_call_output (reference d.value)) (are_allowed structs (seen ++ decls_bound all) d.value false) kept in
      by_key (reference d.value) refl p.0 p.1
    where
      is : in_body structs names d.value ≡ Some d.ty
      is = is_type-some (in_body structs names d.value) d.ty typed

      made : (k : Key) (s : List ℕ) → k.second ≡ Some s → reference d.value ≡ Some k → are_allowed structs (seen ++ decls_bound all) d.value false ≡ true → IsOutput structs seen scope d
      made k s e r a =
          let same : type_in names k ≡ type_in seen k = ap (λ (bs : List Bound). type_in bs k) at ∙ behind seen done k s e in
          let t = key_typed structs names d.value k d.ty r is in
          let l = link_typed scope seen linked k t.0 (sym same ∙ t.1) in
          record {
            key = k;
            reads = reads_among structs seen names (seen ++ decls_bound all) d.value k d.ty r is a same (behind seen all k s e) (simple k);
            source = (l.0, l.1);
          }

      by_second : (k : Key) (o : Option (List ℕ)) → k.second ≡ o → is_some o ≡ true → reference d.value ≡ Some k → are_allowed structs (seen ++ decls_bound all) d.value false ≡ true → IsOutput structs seen scope d
      by_second k None e h r a = absurd (false≢true h)
      by_second k (Some s) e h r a = made k s e r a

      by_key : (o : Option Key) → reference d.value ≡ o → is_call_output o ≡ true → are_allowed structs (seen ++ decls_bound all) d.value false ≡ true → IsOutput structs seen scope d
      by_key None r h a = absurd (false≢true h)
      by_key (Some k) r h a = by_second k k.second refl h r a

  outputs_are : (names : List Bound) (done ds : List TDecl) → names ≡ seen ++ decls_bound done → decls_typed (in_body structs) structs names ds ≡ true
      → each_broken (flow_output_broken structs (seen ++ decls_bound all)) ds ≡ [] → AreOutputs structs seen scope ds
  outputs_are names done [] at typed kept = tt
  outputs_are names done (d ∷ ds) at typed kept =
      let p = and_parts (is_written structs d.ty && is_type (in_body structs names d.value) d.ty) (decls_typed (in_body structs) structs (names ++ bound d.name d.ty ∷ []) ds) typed in
      let q = and_parts (is_written structs d.ty) (is_type (in_body structs names d.value) d.ty) p.0 in
      let a = both_empty (flow_output_broken structs (seen ++ decls_bound all) d) (each_broken (flow_output_broken structs (seen ++ decls_bound all)) ds) kept in
      let b = both_empty (unless (is_simple d.ty) 605 d.span ++ unless (are_allowed structs (seen ++ decls_bound all) d.value false) 606 d.span) (unless (refers_to_output structs (seen ++ decls_bound all) d.value) 612 d.span) a.0 in (
        output_is names done d at q.1 (rule_holds (refers_to_output structs (seen ++ decls_bound all) d.value) 612 d.span b.1),
        outputs_are (names ++ bound d.name d.ty ∷ []) (done ++ d ∷ []) ds (ap (λ (bs : List Bound). bs ++ bound d.name d.ty ∷ []) at ∙ append_assoc seen (decls_bound done) (bound d.name d.ty ∷ []) ∙ ap (λ (bs : List Bound). seen ++ bs) (sym (one_more done d))) p.1 a.1,
      )
    where
      one_more : (xs : List TDecl) (d : TDecl) → decls_bound (xs ++ d ∷ []) ≡ decls_bound xs ++ bound d.name d.ty ∷ []
      one_more [] d = refl
      one_more (x ∷ xs) d = ap (λ (bs : List Bound). bound x.name x.ty ∷ bs) (one_more xs d)

-- ---- the whole

module _ (r : Run) (callee : Callee) (flows : ℕ → Process) (targets : Target → List Broken) (differ : OutputsDiffer r.library) (sound : (st : Statement) → IsSound r callee st) (depth : ℕ)
    (f : FlowDef) (calls : CallsDone r callee flows (declared_by f.body) targets depth) (t : Typed r.library f) (is : IsFlow f) (n : ℕ) (le : n ≤ depth) (nested : body_nests r.library.flows n f.body ≡ true)
    (kept : flow_broken r.library f ≡ []) (called : called_broken targets f.body ≡ []) (named : flow_named f ≡ true) (few : count_statements f.body < 2 ^ 32) where
  abbrev Ds : List Draft
  Ds = drafts_of r.library flows f.body

  abbrev Start : Scope
  Start = map input_linkage f.inputs

  abbrev Declared : List (List ℕ)
  Declared = declared_by f.body

  abbrev After : List Bound
  After = inputs_bound f.inputs ++ t.given.names

  rules : FlowRules r.library f
  rules = flow_rules r.library f kept

  words : (are_names (input_names f.inputs) ≡ true) × (body_named f.body ≡ true)
  words =
      let p = and_parts (are_names (input_names f.inputs) && body_named f.body) (are_names (decl_names f.outputs)) named in
      and_parts (are_names (input_names f.inputs)) (body_named f.body) p.0

  numbered : AreNumbered f.body
  numbered = are_numbered f.body is.numbered few

  body : BodyHere r callee flows Declared targets differ sound n (flow_names f) (input_names f.inputs) (inputs_seen f) t.given Start f.body
  body = record {
    typed = t.typed;
    kept = rules.body;
    called = called;
    nested = nested;
    new = body_is_new r.library f t;
    named = words.1;
    counted = numbered.counted;
    simple = inputs_simple r.library.structs (inputs_bound f.inputs) f.inputs rules.inputs;
    words = inputs_words f.inputs words.0;
    covers = λ k u c h. link_typed Start (inputs_bound f.inputs) (inputs_linked f.inputs) k u h;
    within = link_seen Start (inputs_bound f.inputs) (inputs_linked f.inputs);
  }

  done : AllDone r callee flows Declared targets differ sound (inputs_seen f) t.given Start f.body
  done = statements_done r callee flows Declared targets differ sound depth calls f.body n (flow_names f) (input_names f.inputs) (inputs_seen f) t.given Start le body

  linked : LinksTyped (body_links Ds) t.given.names × ((walk_flow r.library f).given ≡ t.given.names)
  linked = body_linked r.library (target_by r.library flows) Declared f.body (inputs_seen f) t.given t.typed rules.body

  plain_none : (name : List ℕ) → linkage_at (body_links Ds) (plain_key name) ≡ None
  plain_none name = not_linked (body_links Ds) (plain_key name) (by_test (is_among (plain_key name) (keys_of (body_links Ds))) refl)
    where
      clash : (k : Key) → IsOutputKey k → k ≡ plain_key name → ⊥
      clash k o e = absurd (none-some _ (sym (ap (λ (z : Key). z.second) e) ∙ o.second))

      by_test : (b : Bool) → is_among (plain_key name) (keys_of (body_links Ds)) ≡ b → b ≡ false
      by_test false e = refl
      by_test true e =
          let m = among_has (body_links Ds) (plain_key name) e in
          absurd (clash m.0.key (links_are r.library (target_by r.library flows) f.body words.1 m.0 m.1) m.2)

  outputs_apart : (d : TDecl) → Contains f.outputs d → has_name d.name (input_names f.inputs) ≡ false
  outputs_apart d c = by_test (has_name d.name (input_names f.inputs)) refl
    where
      by_test : (b : Bool) → has_name d.name (input_names f.inputs) ≡ b → b ≡ false
      by_test false e = refl
      by_test true e =
          absurd (false≢true (sym (shared_by_none (input_names f.inputs ++ all_declared f.body) (decl_names f.outputs) is.distinct d.name (name_left d.name (input_names f.inputs) (all_declared f.body) e)) ∙ named_among f.outputs d c))

  -- The workflow's statements agree with their steps.
  pub workflow_is : IsWorkflow (ground_of r) r.library.structs f.inputs (runners_of r callee f.body) (drafts_of r.library flows f.body) f.outputs
  workflow_is =
      record {
        after = After;
        all = done.agree;
        differ = body_differs r.library (target_by r.library flows) Declared f.body (inputs_seen f) t.given (flow_names f) (input_names f.inputs) t.typed rules.body body.new;
        wires = all_wires r callee flows Declared targets differ sound f.body;
        apart =
            steps_apart r.library (target_by r.library flows) Declared (ground_of r) f.body Start (inputs_seen f) t.given words.1 t.typed rules.body
            (new_differ (flow_names f) (input_names f.inputs) (inputs_seen f) f.body body.new) numbered;
        new = λ value.
            all_new (inputs_bound f.inputs) (input_names_with value f.inputs) (inputs_unseen value f.inputs) Ds
            (body_fresh r.library (target_by r.library flows) Declared f.body (inputs_seen f) t.given (flow_names f) (input_names f.inputs) t.typed rules.body body.new);
        inputs = inputs_are r.library.structs [] (inputs_bound f.inputs) f.inputs t.inputs_are rules.inputs;
        inputs_differ = sym (fresh-distinct (input_names f.inputs)) ∙ t.inputs_new;
        outputs =
            outputs_are r.library.structs After (Start ++ body_links Ds) f.outputs (links_append Start (body_links Ds) (inputs_bound f.inputs) t.given.names (inputs_linked f.inputs) linked.0)
            (simple_then (inputs_bound f.inputs) t.given.names body.simple done.simple) After [] f.outputs (sym (append-nil After)) t.outputs_are
            (subst (λ (bs : List Bound). each_broken (flow_output_broken r.library.structs (inputs_bound f.inputs ++ bs ++ decls_bound f.outputs)) f.outputs ≡ []) linked.1 rules.outputs);
        outputs_differ = names_right (input_names f.inputs ++ all_declared f.body) (decl_names f.outputs) is.distinct;
        outputs_new = outputs_apart;
        body_plain = plain_none;
      }
