-- Keys that are given out under names of their own: where the names differ, the keys do.
use Rattle.std.proofs.Common.{◌≡◌, ℕ, true, false, not, ◌||◌, ◌⊎◌, inl, inr, List, [], ◌∷◌, ◌++◌, map, Option, Some, None, append_assoc, append-nil, sym, ap, ◌∙◌, subst, refl}
use Rattle.std.specs.Str.{bytes_eq}
use Rattle.std.proofs.lemmas.Bool.{false≢true, and_from, and_parts, false_from_ne_true, not-true, not_from_false, or_cases, or_left, or_right}
use Rattle.std.proofs.lemmas.Slice.Eq.{bytes_eq-Decides}
use Rattle.std.proofs.Math.Bool.{or_assoc}
use Rattle.wdl_base.specs.declared.name.Key.{Key}
use Rattle.wdl_typed.specs.declared.flow.FlowDef.{FlowDef}
use Rattle.wdl_typed.specs.declared.flow.Statement.{Statement, Statement-F, fold-Statement, fold-roll-Statement, ind-Statement, map-Statement, roll-Statement}
use Rattle.wdl_typed.specs.declared.flow.Statement.TheOpen as layer
use Rattle.wdl_typed.specs.declared.task.TDecl.{TDecl}
use Rattle.wdl_typed.specs.declared.task.TInput.{TInput}
use Rattle.wdl_typed.specs.Bodies.{Signature, all_declared, append_all, declared, names_step, signature}
use Rattle.wdl_typed.specs.Declarations.{decl_names, input_names, plain_key}
use Rattle.wdl_typed.specs.Flow.{Callee, Part, Run, all_given, body_names, output_keys, signature_keys, statement_step}
use Rattle.wdl_typed.specs.Journal.{keys_distinct}
use Rattle.wdl_typed.specs.Kept.{flow_names}
use Rattle.wdl_typed.specs.Lists.{are_distinct, has_name}
use Rattle.wdl_typed.specs.Scope.{is_among, same_key}
use Rattle.flow_laws.proofs.Checked.{IsFlow, OutputsDiffer, has_name_append, names_left, names_right}
use Rattle.flow_laws.proofs.Guarded.{input_names_of, output_names_of}
use Rattle.flow_laws.proofs.Keys.{among_append, distinct_both, key_same}
use Rattle.flow_laws.proofs.Runners.{Fresh}

pub record Owned (ns : List (List ℕ)) (ks : List Key) : Type 0 where
  pub distinct : are_distinct ns ≡ true → keys_distinct ks ≡ true
  pub named : (key : Key) → is_among key ks ≡ true → has_name key.first ns ≡ true

-- ---- names that are shared by no two lists

pub has_either : (name : List ℕ) (ns ms : List (List ℕ)) → has_name name (ns ++ ms) ≡ (has_name name ns || has_name name ms)
has_either name [] ms = refl
has_either name (n ∷ ns) ms = ap (λ b. bytes_eq n name || b) (has_either name ns ms) ∙ sym (or_assoc (bytes_eq n name) (has_name name ns) (has_name name ms))

pub shared_by_none : (ns ms : List (List ℕ)) → are_distinct (ns ++ ms) ≡ true → (name : List ℕ) → has_name name ns ≡ true → has_name name ms ≡ false
shared_by_none [] ms h name i = absurd (false≢true i)
shared_by_none (n ∷ ns) ms h name i =
    let p = and_parts (not (has_name n (ns ++ ms))) (are_distinct (ns ++ ms)) h in
    by_case (shared_by_none ns ms p.1 name) (not-true (has_name n (ns ++ ms)) p.0) (or_cases (bytes_eq n name) (has_name name ns) i)
  where
    by_case : (has_name name ns ≡ true → has_name name ms ≡ false) → has_name n (ns ++ ms) ≡ false → (bytes_eq n name ≡ true) ⊎ (has_name name ns ≡ true) → has_name name ms ≡ false
    by_case rest apart (inl e) = ap (λ (x : List ℕ). has_name x ms) (sym ((bytes_eq-Decides n name).0 e)) ∙ (has_name_append n ns ms apart).1
    by_case rest apart (inr e) = rest e

-- ---- keys of lists of names

pub owned_nothing : Owned [] []
owned_nothing = record { distinct = λ h. refl; named = λ key i. absurd (false≢true i) }

pub owned_both : (ns ms : List (List ℕ)) (ks ls : List Key) → Owned ns ks → Owned ms ls → Owned (ns ++ ms) (ks ++ ls)
owned_both ns ms ks ls h j =
    record {
      distinct = λ d. distinct_both ks ls (h.distinct (names_left ns ms d)) (j.distinct (names_right ns ms d)) (λ k i. false_from_ne_true (is_among k ls) (λ m.
          false≢true (sym (shared_by_none ns ms d k.first (h.named k i)) ∙ j.named k m)));
      named = λ key i. has_either key.first ns ms ∙ by_case key (or_cases (is_among key ks) (is_among key ls) (sym (among_append key ks ls) ∙ i));
    }
  where
    by_case : (key : Key) → (is_among key ks ≡ true) ⊎ (is_among key ls ≡ true) → has_name key.first ns || has_name key.first ms ≡ true
    by_case key (inl i) = or_left (has_name key.first ns) (has_name key.first ms) (h.named key i)
    by_case key (inr i) = or_right (has_name key.first ns) (has_name key.first ms) (j.named key i)

itself : (name : List ℕ) (key : Key) → key.first ≡ name → has_name key.first (name ∷ []) ≡ true
itself name key e = or_left (bytes_eq name key.first) false ((bytes_eq-Decides name key.first).1 (sym e))

pub owned_one : (name : List ℕ) → Owned (name ∷ []) (plain_key name ∷ [])
owned_one name =
    record {
      distinct = λ h. refl;
      named = λ key i. itself name key (ap (λ (k : Key). k.first) (sym (key_same (plain_key name) key (first (or_cases (same_key (plain_key name) key) false i)))));
    }
  where
    first : {A : Type 0} → A ⊎ (false ≡ true) → A
    first (inl a) = a
    first (inr h) = absurd (false≢true h)

-- ---- outputs of a call

outputs_named : (call : List ℕ) (ds : List TDecl) (key : Key) → is_among key (output_keys call ds) ≡ true → (key.first ≡ call) × (name : List ℕ) × (key.second ≡ Some name) × (has_name name (decl_names ds) ≡ true)
outputs_named call [] key h = absurd (false≢true h)
outputs_named call (d ∷ ds) key h = by_case (outputs_named call ds key) (or_cases (same_key (record { first = call; second = Some d.name }) key) (is_among key (output_keys call ds)) h)
  where
    by_case : (is_among key (output_keys call ds) ≡ true → (key.first ≡ call) × (name : List ℕ) × (key.second ≡ Some name) × (has_name name (decl_names ds) ≡ true))
        → (same_key (record { first = call; second = Some d.name }) key ≡ true) ⊎ (is_among key (output_keys call ds) ≡ true)
        → (key.first ≡ call) × (name : List ℕ) × (key.second ≡ Some name) × (has_name name (decl_names (d ∷ ds)) ≡ true)
    by_case rest (inl e) =
        let same = key_same (record { first = call; second = Some d.name }) key e in
        (ap (λ (k : Key). k.first) (sym same), d.name, ap (λ (k : Key). k.second) (sym same), or_left (bytes_eq d.name d.name) (has_name d.name (decl_names ds)) ((bytes_eq-Decides d.name d.name).1 refl))
    by_case rest (inr i) = let p = rest i in (p.0, p.1, p.2, or_right (bytes_eq d.name p.1) (has_name p.1 (decl_names ds)) p.3)

outputs_apart : (call : List ℕ) (ds : List TDecl) → are_distinct (decl_names ds) ≡ true → keys_distinct (output_keys call ds) ≡ true
outputs_apart call [] h = refl
outputs_apart call (d ∷ ds) h =
    let p = and_parts (not (has_name d.name (decl_names ds))) (are_distinct (decl_names ds)) h in
    let key : Key = record { first = call; second = Some d.name } in
    and_from (not (is_among key (output_keys call ds))) (keys_distinct (output_keys call ds))
    (not_from_false (is_among key (output_keys call ds)) (false_from_ne_true (is_among key (output_keys call ds)) (λ i.
    let q = outputs_named call ds key i in
    let same : d.name ≡ q.1 = inner q.2 in
    false≢true (sym (not-true (has_name d.name (decl_names ds)) p.0) ∙ ap (λ (x : List ℕ). has_name x (decl_names ds)) same ∙ q.3)))) (outputs_apart call ds p.1)
  where
    inner : {s t : List ℕ} → Some s ≡ Some t → s ≡ t
    inner e = cc

owned_outputs : (call : List ℕ) (ds : List TDecl) → are_distinct (decl_names ds) ≡ true → Owned (call ∷ []) (output_keys call ds)
owned_outputs call ds h =
    record { distinct = λ d. outputs_apart call ds h; named = λ key i. itself call key (outputs_named call ds key i).0 }

owned_signature : (call : List ℕ) (o : Option Signature) → ((s : Signature) → o ≡ Some s → are_distinct (decl_names s.outputs) ≡ true) → Owned (call ∷ []) (signature_keys call o)
owned_signature call None h = record { distinct = λ d. refl; named = λ key i. absurd (false≢true i) }
owned_signature call (Some s) h = owned_outputs call s.outputs (h s refl)

-- ---- inputs and outputs of a workflow

pub owned_inputs : (is : List TInput) → Owned (input_names is) (all_given (input_names_of is)).keys
owned_inputs [] = owned_nothing
owned_inputs (i ∷ is) = owned_both (i.name ∷ []) (input_names is) (plain_key i.name ∷ []) (all_given (input_names_of is)).keys (owned_one i.name) (owned_inputs is)

pub owned_decls : (ds : List TDecl) → Owned (decl_names ds) (all_given (output_names_of ds)).keys
owned_decls [] = owned_nothing
owned_decls (d ∷ ds) = owned_both (d.name ∷ []) (decl_names ds) (plain_key d.name ∷ []) (all_given (output_names_of ds)).keys (owned_one d.name) (owned_decls ds)

-- ---- statements

module _ (r : Run) (f : Callee) (differ : OutputsDiffer r.library) where
  abbrev part_of : Statement → Part
  part_of = fold-Statement Part (statement_step r f)

  abbrev Holds : Statement → Type 0
  Holds s = Owned (declared s) (part_of s).names.keys

  abbrev Known : Type 0
  Known = (s : Statement) × Holds s

  abbrev plain : Statement-F Known → Statement-F Statement
  plain = map-Statement Known Statement (λ (k : Known). k.0)

  abbrev firsts : List Known → List Statement
  firsts = map (λ (k : Known). k.0)

  body_owned : (ks : List Known) → Owned (append_all (map declared (firsts ks))) (body_names (map part_of (firsts ks))).keys
  body_owned [] = owned_nothing
  body_owned (k ∷ ks) = owned_both (declared k.0) (append_all (map declared (firsts ks))) (part_of k.0).names.keys (body_names (map part_of (firsts ks))).keys k.1 (body_owned ks)

  layer_owned : (y : Statement-F Known) → Owned (names_step (map-Statement Statement (List (List ℕ)) declared (plain y))) (statement_step r f (map-Statement Statement Part part_of (plain y))).names.keys
  layer_owned (layer.Decl d) = owned_one d.name
  layer_owned (layer.Call c) = owned_signature c.name (signature r.library c.target) (differ c.target)
  layer_owned (layer.Scatter s) = body_owned s.body
  layer_owned (layer.If i) = body_owned i.body

  statement_owned : (s : Statement) → Holds s
  statement_owned = ind-Statement Holds (λ x y is. subst (λ (z : Statement-F Statement). Holds (roll-Statement z)) is
      (subst (λ (p : Part). Owned (declared (roll-Statement (plain y))) p.names.keys) (sym (fold-roll-Statement Part (statement_step r f) (plain y)))
      (subst (λ (ns : List (List ℕ)). Owned ns (statement_step r f (map-Statement Statement Part part_of (plain y))).names.keys) (sym (fold-roll-Statement (List (List ℕ)) names_step (plain y)))
      (layer_owned y))))

  pub statements_owned : (ss : List Statement) → Owned (all_declared ss) (body_names (map part_of ss)).keys
  statements_owned [] = owned_nothing
  statements_owned (s ∷ ss) = owned_both (declared s) (all_declared ss) (part_of s).names.keys (body_names (map part_of ss)).keys (statement_owned s) (statements_owned ss)

  -- ---- a workflow

  pub flow_fresh : (w : FlowDef) → IsFlow w
      → Fresh (flow_names w) (all_given (all_given (input_names_of w.inputs) ∷ body_names (map part_of w.body) ∷ all_given (output_names_of w.outputs) ∷ [])).keys
  flow_fresh w h =
      let ns = input_names w.inputs in
      let ms = all_declared w.body in
      let os = decl_names w.outputs in
      let is = (all_given (input_names_of w.inputs)).keys in
      let bs = (body_names (map part_of w.body)).keys in
      let ds = (all_given (output_names_of w.outputs)).keys in
      let owned = owned_both ns (ms ++ (os ++ [])) is (bs ++ (ds ++ [])) (owned_inputs w.inputs) (owned_both ms (os ++ []) bs (ds ++ []) (statements_owned w.body) (owned_both os [] ds [] (owned_decls w.outputs) owned_nothing)) in
      let names : ns ++ (ms ++ (os ++ [])) ≡ flow_names w = ap (λ (x : List (List ℕ)). ns ++ (ms ++ x)) (append-nil os) ∙ sym (append_assoc ns ms os) in
      let all = subst (λ (x : List (List ℕ)). Owned x (is ++ (bs ++ (ds ++ [])))) names owned in
      record { distinct = all.distinct h.distinct; named = all.named }
