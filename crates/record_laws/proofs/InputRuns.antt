-- What the inputs of a workflow give in turn, and what they give with leaves in the places of struct inputs.
use Rattle.std.proofs.Common.{◌≡◌, ℕ, ◌+◌, Bool, true, false, cond, ◌&&◌, List, [], ◌∷◌, ◌++◌, append_assoc, append-nil, map, Option, Some, None, Ok, Err, arith, sym, ap, ◌∙◌, subst, refl}
use Rattle.std.specs.Prelude.{option_map}
use Rattle.std.specs.List.{list_all}
use Rattle.std.specs.Str.{bytes_eq}
use Rattle.std.proofs.lemmas.Bool.{false≢true, and_from, and_parts, not_from_false}
use Rattle.std.proofs.lemmas.List.Folds.{list_all-append}
use Rattle.wdl_base.specs.declared.name.Key.{Key}
use Rattle.wdl_base.specs.declared.place.Segment.{Segment}
use Rattle.wdl_base.specs.declared.span.Span.{Span}
use Rattle.wdl_value.specs.declared.env.Bind.{Bind}
use Rattle.wdl_value.specs.declared.value.Value.{Value}
use Rattle.wdl_value.specs.declared.value.Value.TheVariants as v
use Rattle.wdl_value.specs.Fits.{Structs}
use Rattle.wdl_value.specs.Limits.{is_within}
use Rattle.wdl_value.specs.Outcome.{Outcome}
use Rattle.wdl_typed.specs.declared.expr.TExpr.{TExpr}
use Rattle.wdl_typed.specs.declared.scope.Bound.{Bound}
use Rattle.wdl_typed.specs.declared.task.TInput.{TInput}
use Rattle.wdl_typed.specs.Declarations.{bound, context, default_typed, inputs_typed, plain_key}
use Rattle.wdl_typed.specs.Evaluation.{value_of}
use Rattle.wdl_typed.specs.Flow.{Ended, Flowing, Known, Runner, Sight, all_known, declaration, declared_as, default_of, env_of, in_turn, input_of, known, named, nothing, seeing, together}
use Rattle.wdl_typed.specs.KnownTypes.{is_written}
use Rattle.wdl_typed.specs.Lists.{are_distinct, has_name}
use Rattle.wdl_typed.specs.Requests.{before}
use Rattle.wdl_typed.specs.Scope.{lookup}
use Rattle.wdl_typed.specs.Typing.{type_of}
use Rattle.wdl_swaps.specs.Swaps.{swapped, swapped_input}
use Rattle.leaf_image.specs.declared.leaf.Leaf.{Leaf}
use Rattle.leaf_image.specs.Inside.{Each}
use Rattle.leaf_image.specs.Leaves.{is_record, or_else}
use Rattle.leaf_image.specs.Records.{all_inputs, is_own, is_record_of, leaf_input, of_input, swaps_of}
use Rattle.leaf_image.proofs.Eaches.{each_by, each_with}
use Rattle.leaf_image.proofs.Runs.{declaration_same}
use Rattle.record_laws.specs.Given.{along_path}
use Rattle.record_laws.proofs.Bound.{some_typed}
use Rattle.record_laws.proofs.Fine.{all_ok, expr_fine, left}
use Rattle.record_laws.proofs.Giving.{GivenAgrees, LeafGiven}
use Rattle.record_laws.proofs.Inputs.{leaf_names_of, ok_of, paired_record, paired_same}
use Rattle.record_laws.proofs.LeafNames.{all_found, each_kept, leaf_names, name_is}
use Rattle.record_laws.proofs.Lookups.{names_append, one_found, one_missing, plain_same}
use Rattle.record_laws.proofs.Pairing.{AllThere, Both, LeavesOf, Paired, There, agrees, is_leaf, places, seen}
use Rattle.record_laws.proofs.Places.{IsInput}

-- ---- one input

abbrev pub all_taking : List Bind → List TInput → List Runner
all_taking given js = map (λ (i : TInput) (s : Sight). input_of s i (lookup given (plain_key i.name))) js

named_count : (n : ℕ) → 0 + n ≡ n
named_count n = omega arith

abbrev given_name : List ℕ → Option Value → Flowing
given_name n o = named (known n o)

-- a declaration gives its own name alone
declares : (s : Sight) (n : List ℕ) (e : TExpr) → (o : Option Value) × ((declaration s n e).names ≡ known n o ∷ [])
declares s n e = by_known (all_known s.names e) (value_of (before (env_of s.names)) e)
  where
    by_value : (o : Outcome Value) → (w : Option Value) × ((declared_as s.place n o).names ≡ known n w ∷ [])
    by_value (Ok x) = (Some x, refl)
    by_value (Err c) = (None, refl)

    by_known : (b : Bool) (o : Outcome Value) → (w : Option Value) × ((cond b (declared_as s.place n o) (given_name n None)).names ≡ known n w ∷ [])
    by_known true o = by_value o
    by_known false o = (None, refl)

module _ (structs : Structs) (is : List TInput) (ls : List Leaf) (fine : LeavesOf is ls) (distinct : are_distinct (leaf_names ls) ≡ true) (place : List Segment)
    (given now : List Bind) (agree : GivenAgrees structs is ls given now) (present : (n : List ℕ) → is_record_of is n ≡ true → (x : Value) × (lookup given (plain_key n) ≡ Some x)) where
  -- what both give, behind the names before
  pub record Same (old new : List Known) (a b : Flowing) : Type 0 where
    pub paired : Paired is ls (env_of (old ++ a.names)) (env_of (new ++ b.names))
    pub calls : a.calls ≡ b.calls
    pub jobs : a.jobs ≡ b.jobs
    pub codes : a.codes ≡ b.codes
    pub faults : a.faults ≡ b.faults
    pub waits : a.waits ≡ b.waits
    pub count : a.count ≡ b.count

  same_nothing : (old new : List Known) → Paired is ls (env_of old) (env_of new) → Same old new nothing nothing
  same_nothing old new p = record {
    paired = subst (λ (ks : List Known). Paired is ls (env_of ks) (env_of (new ++ []))) (sym (append-nil old)) (subst (λ (ks : List Known). Paired is ls (env_of old) (env_of ks)) (sym (append-nil new)) p);
    calls = refl;
    jobs = refl;
    codes = refl;
    faults = refl;
    waits = refl;
    count = refl;
  }

  same_left : (old new : List Known) (n : List ℕ) (o : Option Value) (a b : Flowing) → Same (old ++ known n o ∷ []) new a b → Same old new (together (given_name n o) a) b
  same_left old new n o a b h = record {
    paired = subst (λ (ks : List Known). Paired is ls (env_of ks) (env_of (new ++ b.names))) (append_assoc old (known n o ∷ []) a.names) h.paired;
    calls = h.calls;
    jobs = h.jobs;
    codes = h.codes;
    faults = h.faults;
    waits = h.waits;
    count = named_count a.count ∙ h.count;
  }

  same_right : (old new : List Known) (n : List ℕ) (o : Option Value) (a b : Flowing) → Same old (new ++ known n o ∷ []) a b → Same old new a (together (given_name n o) b)
  same_right old new n o a b h = record {
    paired = subst (λ (ks : List Known). Paired is ls (env_of (old ++ a.names)) (env_of ks)) (append_assoc new (known n o ∷ []) b.names) h.paired;
    calls = h.calls;
    jobs = h.jobs;
    codes = h.codes;
    faults = h.faults;
    waits = h.waits;
    count = h.count ∙ sym (named_count b.count);
  }

  same_both : (old new : List Known) (u a b : Flowing) → Same (old ++ u.names) (new ++ u.names) a b → Same old new (together u a) (together u b)
  same_both old new u a b h = record {
    paired =
        subst (λ (ks : List Known). Paired is ls (env_of (old ++ (u.names ++ a.names))) (env_of ks)) (append_assoc new u.names b.names)
        (subst (λ (ks : List Known). Paired is ls (env_of ks) (env_of ((new ++ u.names) ++ b.names))) (append_assoc old u.names a.names) h.paired);
    calls = ap (λ z. u.calls ++ z) h.calls;
    jobs = ap (λ z. u.jobs ++ z) h.jobs;
    codes = ap (λ z. u.codes ++ z) h.codes;
    faults = ap (λ z. u.faults ++ z) h.faults;
    waits = ap (λ z. u.waits ++ z) h.waits;
    count = ap (λ n. u.count + n) h.count;
  }

  -- ---- a struct input, and its leaves

  abbrev Leads : Value → Leaf → Type 0
  Leads x l = (y : Value) × (lookup now (plain_key l.name) ≡ Some y) × (along_path l.path x ≡ Ok y) × (is_within y ≡ true)

  block_run : (x : Value) (span : Span) (bl : List Leaf) → Each (Leads x) bl → (more : List TInput) (old new : List Known) (a : Flowing) (cs : List Ended)
      → ((ds : List Ended) → Same old (new ++ leaf_names_of x bl) a (in_turn (all_taking now more) (record { names = new ++ leaf_names_of x bl; calls = ds; place = place })))
      → Same old new a (in_turn (all_taking now (map (leaf_input span) bl ++ more)) (record { names = new; calls = cs; place = place }))
  block_run x span [] h more old new a cs rest =
      subst (λ (ks : List Known). Same old ks a (in_turn (all_taking now more) (record { names = ks; calls = cs; place = place }))) (append-nil new) (rest cs)
  block_run x span (l ∷ bl) h more old new a cs rest =
      let y = h.0 in
      let one : List Known = known l.name (Some y.0) ∷ [] in
      let others : List Runner = all_taking now (map (leaf_input span) bl ++ more) in
      let s : Sight = record { names = new; calls = cs; place = place } in
      subst (λ (o : Option Value). Same old new a (together (input_of s (leaf_input span l) o) (in_turn others (seeing s (input_of s (leaf_input span l) o))))) (sym y.1)
      (same_right old new l.name (Some y.0) a (in_turn others (record { names = new ++ one; calls = cs ++ []; place = place }))
      (block_run x span bl h.1 more old (new ++ one) a (cs ++ []) (λ ds.
      subst (λ (ks : List Known). Same old ks a (in_turn (all_taking now more) (record { names = ks; calls = ds; place = place })))
      (sym (append_assoc new one (leaf_names_of x bl) ∙ ap (λ (o : Option Value). new ++ (known l.name o ∷ leaf_names_of x bl)) (sym (ap ok_of y.2)))) (rest ds))))

  leaf_leads : (n : List ℕ) (x : Value) → lookup given (plain_key n) ≡ Some x → Each (λ (l : Leaf). bytes_eq l.input n ≡ true → Leads x l) ls
  leaf_leads n x e =
      each_by (LeafGiven structs is ls given now) (λ (l : Leaf). bytes_eq l.input n ≡ true → Leads x l)
      (λ l h i. let r = h x (ap (λ z. lookup given (plain_key z)) (name_is l.input n i) ∙ e) in (r.1, r.2, r.3, r.4)) ls agree.leaves

  own_leads : (n : List ℕ) (x : Value) (ks : List Leaf) → Each (λ (l : Leaf). bytes_eq l.input n ≡ true → Leads x l) ks → Each (Leads x) (of_input n ks)
  own_leads n x [] h = tt
  own_leads n x (k ∷ ks) h = by_input (bytes_eq k.input n) refl (own_leads n x ks h.1)
    where
      by_input : (b : Bool) → bytes_eq k.input n ≡ b → Each (Leads x) (of_input n ks) → Each (Leads x) (cond b (k ∷ []) [] ++ of_input n ks)
      by_input true e rest = (h.0 e, rest)
      by_input false e rest = rest

  -- ---- types

  abbrev pub ok_before : List Bound → Type 0
  ok_before = all_ok (seen ls)

  abbrev pub ok_now : List Bound → Type 0
  ok_now = all_ok (left is)

  one_ok : (ok : Key → Bool) (names : List Bound) (b : Bound) → all_ok ok names → ok b.key ≡ true → all_ok ok (names ++ b ∷ [])
  one_ok ok names b h i = list_all-append (λ (c : Bound). ok c.key) names (b ∷ []) ∙ and_from (list_all (λ (c : Bound). ok c.key) names) (ok b.key && true) h (and_from (ok b.key) true i refl)

  -- behind the leaves of an input
  typed_behind : (span : Span) (bl : List Leaf) → Each (λ (l : Leaf). is_record_of is l.name ≡ false) bl → (more : List TInput) (names : List Bound) → ok_now names
      → inputs_typed structs names (map (leaf_input span) bl ++ more) ≡ true → (later : List Bound) × ok_now later × (inputs_typed structs later more ≡ true)
  typed_behind span [] h more names ok t = (names, ok, t)
  typed_behind span (l ∷ bl) h more names ok t =
      let p = and_parts (is_written structs l.ty && true) (inputs_typed structs (names ++ bound l.name l.ty ∷ []) (map (leaf_input span) bl ++ more)) t in
      typed_behind span bl h.1 more (names ++ bound l.name l.ty ∷ []) (one_ok (left is) names (bound l.name l.ty) ok (not_from_false (is_own is (plain_key l.name)) h.0)) p.1

  -- ---- all inputs

  abbrev pub Sees : List Known → List Ended → Sight
  Sees ks cs = record { names = ks; calls = cs; place = place }

  abbrev pub Rest : List TInput → Type 0
  Rest js = (old new : List Known) (nb mb : List Bound) (cs ds : List Ended) → Paired is ls (env_of old) (env_of new) → ok_before nb → ok_now mb
      → inputs_typed structs nb js ≡ true → inputs_typed structs mb (all_inputs ls js) ≡ true
      → Same old new (in_turn (all_taking given js) (Sees old cs)) (in_turn (all_taking now (all_inputs ls js)) (Sees new ds))

  -- an input that stays, by what is given for it
  kept_input : (j : TInput) (js : List TInput) → is_record j ≡ false → IsInput is j → has_name j.name (leaf_names ls) ≡ false → Rest js → (old new : List Known) (nb mb : List Bound) (cs ds : List Ended)
      → Paired is ls (env_of old) (env_of new) → ok_before nb → ok_now mb → inputs_typed structs nb (j ∷ js) ≡ true → inputs_typed structs mb (swapped_input (swaps_of ls) j ∷ all_inputs ls js) ≡ true
      → (o : Option Value) → lookup given (plain_key j.name) ≡ o → lookup now (plain_key j.name) ≡ o
      → Same old new (in_turn (all_taking given (j ∷ js)) (Sees old cs)) (in_turn (all_taking now (swapped_input (swaps_of ls) j ∷ all_inputs ls js)) (Sees new ds))
  kept_input j js plain found leaf rest old new nb mb cs ds p ob on t u o e f =
      subst (λ (w : Option Value). Same old new (together (input_of (Sees old cs) j w) (in_turn (all_taking given js) (seeing (Sees old cs) (input_of (Sees old cs) j w)))) (in_turn (all_taking now (k ∷ all_inputs ls js)) (Sees new ds)))
      (sym e)
      (subst (λ (w : Option Value). Same old new (together (input_of (Sees old cs) j o) (in_turn (all_taking given js) (seeing (Sees old cs) (input_of (Sees old cs) j o)))) (together (input_of (Sees new ds) k w) (in_turn (all_taking now (all_inputs ls js)) (seeing (Sees new ds) (input_of (Sees new ds) k w)))))
      (sym f) (by_given o))
    where
      k : TInput
      k = swapped_input (swaps_of ls) j

      own : is_own is (plain_key j.name) ≡ false
      own = found.record_is ∙ plain

      typed : (is_written structs j.ty && default_typed structs nb j.ty j.value ≡ true) × (inputs_typed structs (nb ++ bound j.name j.ty ∷ []) js ≡ true)
      typed = and_parts (is_written structs j.ty && default_typed structs nb j.ty j.value) (inputs_typed structs (nb ++ bound j.name j.ty ∷ []) js) t

      again : (is_written structs j.ty && default_typed structs mb j.ty (option_map (swapped (swaps_of ls)) j.value) ≡ true) × (inputs_typed structs (mb ++ bound j.name j.ty ∷ []) (all_inputs ls js) ≡ true)
      again = and_parts (is_written structs j.ty && default_typed structs mb j.ty (option_map (swapped (swaps_of ls)) j.value)) (inputs_typed structs (mb ++ bound j.name j.ty ∷ []) (all_inputs ls js)) u

      -- what both give is the same
      step : (a : Flowing) (w : Option Value) → a.names ≡ known j.name w ∷ [] → Same old new (together a (in_turn (all_taking given js) (seeing (Sees old cs) a))) (together a (in_turn (all_taking now (all_inputs ls js)) (seeing (Sees new ds) a)))
      step a w names =
          same_both old new a (in_turn (all_taking given js) (seeing (Sees old cs) a)) (in_turn (all_taking now (all_inputs ls js)) (seeing (Sees new ds) a))
          (rest (old ++ a.names) (new ++ a.names) (nb ++ bound j.name j.ty ∷ []) (mb ++ bound j.name j.ty ∷ []) (cs ++ a.calls) (ds ++ a.calls)
          (subst (λ (ks : List Known). Paired is ls (env_of (old ++ ks)) (env_of (new ++ ks))) (sym names) (paired_same is ls old new j.name w own leaf fine.of p))
          (one_ok (seen ls) nb (bound j.name j.ty) ob (not_from_false (is_leaf ls (plain_key j.name)) leaf)) (one_ok (left is) mb (bound j.name j.ty) on (not_from_false (is_own is (plain_key j.name)) own))
          typed.1 again.1)

      by_default : (d : Option TExpr) → default_typed structs nb j.ty d ≡ true → default_typed structs mb j.ty (option_map (swapped (swaps_of ls)) d) ≡ true
          → Same old new (together (default_of (Sees old cs) j.name d) (in_turn (all_taking given js) (seeing (Sees old cs) (default_of (Sees old cs) j.name d))))
          (together (default_of (Sees new ds) j.name (option_map (swapped (swaps_of ls)) d)) (in_turn (all_taking now (all_inputs ls js)) (seeing (Sees new ds) (default_of (Sees new ds) j.name (option_map (swapped (swaps_of ls)) d)))))
      by_default None g h = step (given_name j.name (Some v.Absent)) (Some v.Absent) refl
      by_default (Some x) g h =
          let a = some_typed (type_of (context structs nb) x false) j.ty g in
          let b = some_typed (type_of (context structs mb) (swapped (swaps_of ls) x) false) j.ty h in
          let same : declaration (Sees old ds) j.name x ≡ declaration (Sees new ds) j.name (swapped (swaps_of ls) x) =
          declaration_same (swaps_of ls) (seen ls) (is_own is) old new (agrees is ls fine (env_of old) (env_of new) p) (places is ls fine (env_of old) (env_of new) p) ds place j.name x
          (expr_fine is ls structs nb mb ob on x a.0 b.0 a.1 b.1) in
          let w = declares (Sees old cs) j.name x in
          subst (λ (z : Flowing). Same old new (together (declaration (Sees old cs) j.name x) (in_turn (all_taking given js) (seeing (Sees old cs) (declaration (Sees old cs) j.name x))))
          (together z (in_turn (all_taking now (all_inputs ls js)) (seeing (Sees new ds) z)))) same
          (step (declaration (Sees old cs) j.name x) w.0 w.1)

      by_given : (o : Option Value) → Same old new (together (input_of (Sees old cs) j o) (in_turn (all_taking given js) (seeing (Sees old cs) (input_of (Sees old cs) j o))))
          (together (input_of (Sees new ds) k o) (in_turn (all_taking now (all_inputs ls js)) (seeing (Sees new ds) (input_of (Sees new ds) k o))))
      by_given (Some x) = step (given_name j.name (Some x)) (Some x) refl
      by_given None =
          by_default j.value (and_parts (is_written structs j.ty) (default_typed structs nb j.ty j.value) typed.0).1
          (and_parts (is_written structs j.ty) (default_typed structs mb j.ty (option_map (swapped (swaps_of ls)) j.value)) again.0).1

  record_input : (j : TInput) (js : List TInput) → is_record j ≡ true → IsInput is j → has_name j.name (leaf_names ls) ≡ false → Rest js → (old new : List Known) (nb mb : List Bound) (cs ds : List Ended)
      → Paired is ls (env_of old) (env_of new) → ok_before nb → ok_now mb → inputs_typed structs nb (j ∷ js) ≡ true → inputs_typed structs mb (map (leaf_input j.span) (of_input j.name ls) ++ all_inputs ls js) ≡ true
      → Same old new (in_turn (all_taking given (j ∷ js)) (Sees old cs)) (in_turn (all_taking now (map (leaf_input j.span) (of_input j.name ls) ++ all_inputs ls js)) (Sees new ds))
  record_input j js is_one found leaf rest old new nb mb cs ds p ob on t u =
      let own : is_record_of is j.name ≡ true = found.record_is ∙ is_one in
      let g = present j.name own in
      let fit = agree.records j.name g.0 own g.1 in
      let leads = leaf_leads j.name g.0 g.1 in
      let typed = and_parts (is_written structs j.ty && default_typed structs nb j.ty j.value) (inputs_typed structs (nb ++ bound j.name j.ty ∷ []) js) t in
      let behind = typed_behind j.span (of_input j.name ls) (each_kept (λ (l : Leaf). is_record_of is l.name ≡ false) ls j.name fine.free) (all_inputs ls js) mb on u in
      let one : List Known = known j.name (Some g.0) ∷ [] in
      let s : Sight = Sees old cs in
      subst (λ (w : Option Value). Same old new (together (input_of s j w) (in_turn (all_taking given js) (seeing s (input_of s j w))))
      (in_turn (all_taking now (map (leaf_input j.span) (of_input j.name ls) ++ all_inputs ls js)) (Sees new ds))) (sym g.1)
      (same_left old new j.name (Some g.0) (in_turn (all_taking given js) (Sees (old ++ one) (cs ++ []))) (in_turn (all_taking now (map (leaf_input j.span) (of_input j.name ls) ++ all_inputs ls js)) (Sees new ds))
      (block_run g.0 j.span (of_input j.name ls) (own_leads j.name g.0 ls leads) (all_inputs ls js) (old ++ one) new (in_turn (all_taking given js) (Sees (old ++ one) (cs ++ []))) ds (λ es.
      rest (old ++ one) (new ++ leaf_names_of g.0 (of_input j.name ls)) (nb ++ bound j.name j.ty ∷ []) behind.0 (cs ++ []) es
      (paired_record is ls old new j.name g.0 own distinct fit.3 (all_found ls distinct)
      (each_by (λ (l : Leaf). bytes_eq l.input j.name ≡ true → Leads g.0 l) (λ (l : Leaf). bytes_eq l.input j.name ≡ true → (y : Value) × (along_path l.path g.0 ≡ Ok y) × (is_within y ≡ true))
      (λ l h i. let r = h i in (r.0, r.2, r.3)) ls leads) p)
      (one_ok (seen ls) nb (bound j.name j.ty) ob (not_from_false (is_leaf ls (plain_key j.name)) leaf)) behind.1 typed.1 behind.2)))

  pub all_run : (js : List TInput) → Each (IsInput is) js → Each (λ (j : TInput). has_name j.name (leaf_names ls) ≡ false) js → Rest js
  all_run [] h n old new nb mb cs ds p ob on t u = same_nothing old new p
  all_run (j ∷ js) h n old new nb mb cs ds p ob on t u = by_record (all_run js h.1 n.1) (is_record j) refl u
    where
      by_record : Rest js → (b : Bool) → is_record j ≡ b → inputs_typed structs mb (cond b (map (leaf_input j.span) (of_input j.name ls)) (swapped_input (swaps_of ls) j ∷ []) ++ all_inputs ls js) ≡ true
          → Same old new (in_turn (all_taking given (j ∷ js)) (Sees old cs)) (in_turn (all_taking now (cond b (map (leaf_input j.span) (of_input j.name ls)) (swapped_input (swaps_of ls) j ∷ []) ++ all_inputs ls js)) (Sees new ds))
      by_record rest true e w = record_input j js e h.0 n.0 rest old new nb mb cs ds p ob on t w
      by_record rest false e w =
          kept_input j js e h.0 n.0 rest old new nb mb cs ds p ob on t w (lookup given (plain_key j.name)) refl
          (agree.others (plain_key j.name) (h.0.record_is ∙ e) n.0)

-- ---- struct inputs are known

-- The inputs give each struct input the value that was given.
pub inputs_known : (given : List Bind) (js : List TInput) (s : Sight) (n : List ℕ) → is_record_of js n ≡ true → (x : Value) → lookup given (plain_key n) ≡ Some x
    → lookup (env_of (in_turn (all_taking given js) s).names) (plain_key n) ≡ Some x
inputs_known given [] s n r x e = absurd (false≢true r)
inputs_known given (j ∷ js) s n r x e =
    names_append u.names (in_turn (all_taking given js) (seeing s u)).names (plain_key n)
    ∙ by_name (bytes_eq j.name n) refl r (λ q. inputs_known given js (seeing s (input_of s j (lookup given (plain_key j.name)))) n q x e)
  where
    u : Flowing
    u = input_of s j (lookup given (plain_key j.name))

    behind : Option Value
    behind = lookup (env_of (in_turn (all_taking given js) (seeing s (input_of s j (lookup given (plain_key j.name))))).names) (plain_key n)

    missed : (f : Flowing) (o : Option Value) → f.names ≡ known j.name o ∷ [] → bytes_eq j.name n ≡ false → lookup (env_of f.names) (plain_key n) ≡ None
    missed f None is a = ap (λ (ks : List Known). lookup (env_of ks) (plain_key n)) is
    missed f (Some y) is a = ap (λ (ks : List Known). lookup (env_of ks) (plain_key n)) is ∙ one_missing (plain_key j.name) y (plain_key n) (plain_same j.name n ∙ a)

    by_default : (d : Option TExpr) → bytes_eq j.name n ≡ false → lookup (env_of (default_of s j.name d).names) (plain_key n) ≡ None
    by_default None a = missed (default_of s j.name None) (Some v.Absent) refl a
    by_default (Some d) a = let w = declares s j.name d in missed (declaration s j.name d) w.0 w.1 a

    by_given : (o : Option Value) → bytes_eq j.name n ≡ false → lookup (env_of (input_of s j o).names) (plain_key n) ≡ None
    by_given (Some y) a = missed (input_of s j (Some y)) (Some y) refl a
    by_given None a = by_default j.value a

    by_name : (b : Bool) → bytes_eq j.name n ≡ b → cond b (is_record j) (is_record_of js n) ≡ true → (is_record_of js n ≡ true → behind ≡ Some x)
        → or_else (lookup (env_of (input_of s j (lookup given (plain_key j.name))).names) (plain_key n)) behind ≡ Some x
    by_name true a q rest =
        let here : lookup given (plain_key j.name) ≡ Some x = ap (λ m. lookup given (plain_key m)) (name_is j.name n a) ∙ e in
        ap (λ (o : Option Value). or_else (lookup (env_of (input_of s j o).names) (plain_key n)) behind) here
        ∙ ap (λ (o : Option Value). or_else o behind) (one_found (plain_key j.name) x (plain_key n) (plain_same j.name n ∙ a))
    by_name false a q rest = ap (λ (o : Option Value). or_else o behind) (by_given (lookup given (plain_key j.name)) a) ∙ rest q

-- Where the struct inputs are known, their leaves are.
pub all_there : (ls : List Leaf) (old new : List Bind) → Each (λ (l : Leaf). Both l.path (lookup old (plain_key l.input)) (lookup new (plain_key l.name))) ls
    → Each (λ (l : Leaf). (x : Value) × (lookup old (plain_key l.input) ≡ Some x)) ls → AllThere ls old new
all_there ls old new h k =
    each_with (λ (l : Leaf). Both l.path (lookup old (plain_key l.input)) (lookup new (plain_key l.name))) (λ (l : Leaf). (x : Value) × (lookup old (plain_key l.input) ≡ Some x))
    (λ (l : Leaf). There l.path (lookup old (plain_key l.input)) (lookup new (plain_key l.name))) (λ l b x. there l.path (lookup old (plain_key l.input)) (lookup new (plain_key l.name)) b x.0 x.1) ls h k
  where
    there : (path : List (List ℕ)) (o p : Option Value) → Both path o p → (x : Value) → o ≡ Some x → There path o p
    there path (Some y) (Some z) b x e = b
    there path (Some y) None b x e = absurd b
    there path None None b x e = absurd (cc)
    there path None (Some z) b x e = absurd b
