-- The leaves of inputs that fit are inputs that fit.
use Rattle.std.proofs.Common.{◌≡◌, ℕ, Bool, true, false, cond, not, ◌&&◌, ◌||◌, List, [], ◌∷◌, ◌++◌, map, Option, Some, None, sym, ap, ◌∙◌, subst, refl}
use Rattle.std.specs.Prelude.{is_none, option_map}
use Rattle.std.specs.List.{list_all}
use Rattle.std.specs.Str.{bytes_eq}
use Rattle.std.proofs.lemmas.Bool.{false≢true, and_from, and_parts, or_right}
use Rattle.std.proofs.lemmas.List.Folds.{list_all-append}
use Rattle.wdl_base.specs.declared.name.Key.{Key}
use Rattle.wdl_base.specs.declared.span.Span.{Span}
use Rattle.wdl_value.specs.declared.env.Bind.{Bind}
use Rattle.wdl_value.specs.declared.ty.Ty.{Ty, out-Ty}
use Rattle.wdl_value.specs.declared.value.Value.{Value}
use Rattle.wdl_value.specs.Bare.{is_optional}
use Rattle.wdl_value.specs.Fits.{Structs, fits}
use Rattle.wdl_value.specs.Limits.{is_within}
use Rattle.wdl_typed.specs.declared.expr.TExpr.{TExpr}
use Rattle.wdl_typed.specs.declared.task.TInput.{TInput}
use Rattle.wdl_typed.specs.Bodies.{input_type, is_required}
use Rattle.wdl_typed.specs.Declarations.{plain_key}
use Rattle.wdl_typed.specs.Evaluation.{Met}
use Rattle.wdl_typed.specs.Journal.{bind_fits, is_given, value_fits}
use Rattle.wdl_typed.specs.KnownTypes.{is_some}
use Rattle.wdl_typed.specs.Lists.{has_name}
use Rattle.wdl_typed.specs.Scope.{lookup, same_key}
use Rattle.wdl_swaps.specs.Swaps.{swapped, swapped_input}
use Rattle.leaf_image.specs.declared.leaf.Leaf.{Leaf}
use Rattle.leaf_image.specs.Inside.{Each}
use Rattle.leaf_image.specs.Leaves.{is_record}
use Rattle.leaf_image.specs.Records.{all_inputs, input_leaves, is_own, is_record_of, leaf_input, of_input, swaps_of}
use Rattle.leaf_image.proofs.Eaches.{each_left, each_right}
use Rattle.record_laws.specs.Given.{bind_met, binds_of, given_leaves, leaf_binds}
use Rattle.record_laws.proofs.Giving.{GivenAgrees, LeafGiven}
use Rattle.record_laws.proofs.LeafNames.{each_kept, leaf_names, name_is, own_inputs}
use Rattle.record_laws.proofs.Lookups.{plain_same}
use Rattle.record_laws.proofs.MainInputs.{OfInput, of_input_named}
use Rattle.record_laws.proofs.Paths.{path_leads}
use Rattle.record_laws.proofs.Places.{IsInput, OfRecord}
use Rattle.wdl_names.proofs.FreshLemmas.{bytes_eq-sym as eq_swapped}

-- ---- values that fit

named_fits : (structs : Structs) (is : List TInput) (n : List ℕ) (x : Value) (t : Ty) → input_type is n ≡ Some t → value_fits structs t x ≡ true
    → bind_fits structs is (record { key = plain_key n; value = x }) ≡ true
named_fits structs [] n x t e h = absurd (cc)
named_fits structs (i ∷ is) n x t e h = by_name (bytes_eq i.name n) refl e (λ q. named_fits structs is n x t q h)
  where
    by_name : (b : Bool) → bytes_eq i.name n ≡ b → cond b (Some i.ty) (input_type is n) ≡ Some t → (input_type is n ≡ Some t → bind_fits structs is (record { key = plain_key n; value = x }) ≡ true)
        → cond (same_key (plain_key n) (plain_key i.name)) (value_fits structs i.ty x) (bind_fits structs is (record { key = plain_key n; value = x })) ≡ true
    by_name true q e rest =
        ap (λ b. cond b (value_fits structs i.ty x) (bind_fits structs is (record { key = plain_key n; value = x }))) (plain_same n i.name ∙ eq_swapped n i.name ∙ q)
        ∙ ap (λ (u : Ty). value_fits structs u x) (same_some e) ∙ h
      where
        same_some : Some i.ty ≡ Some t → i.ty ≡ t
        same_some e = cc
    by_name false q e rest =
        ap (λ b. cond b (value_fits structs i.ty x) (bind_fits structs is (record { key = plain_key n; value = x }))) (plain_same n i.name ∙ eq_swapped n i.name ∙ q) ∙ rest e

module _ (structs : Structs) (is : List TInput) (ls : List Leaf) (of : Each (λ (l : Leaf). OfRecord structs is l.input l.path l.ty) ls) (found : Each (IsInput (all_inputs ls is)) (all_inputs ls is)) where
  abbrev now : List TInput
  now = all_inputs ls is

  abbrev Typed : TInput → Type 0
  Typed = IsInput now

  leaf_types : (n : List ℕ) (js : List TInput) → Each Typed (all_inputs ls js) → is_record_of js n ≡ true → Each (λ (l : Leaf). input_type now l.name ≡ Some l.ty) (of_input n ls)
  leaf_types n [] h r = absurd (false≢true r)
  leaf_types n (j ∷ js) h r = by_name (bytes_eq j.name n) refl r (leaf_types n js (each_right Typed (input_leaves ls j) (all_inputs ls js) h))
    where
      block : (span : Span) (bl : List Leaf) → Each Typed (map (leaf_input span) bl) → Each (λ (l : Leaf). input_type now l.name ≡ Some l.ty) bl
      block span [] h = tt
      block span (l ∷ bl) h = (h.0.type_is, block span bl h.1)

      by_record : (b : Bool) → b ≡ true → Each Typed (cond b (map (leaf_input j.span) (of_input j.name ls)) (swapped_input (swaps_of ls) j ∷ [])) → Each (λ (l : Leaf). input_type now l.name ≡ Some l.ty) (of_input j.name ls)
      by_record true e h = block j.span (of_input j.name ls) h
      by_record false e h = absurd (false≢true e)

      by_name : (b : Bool) → bytes_eq j.name n ≡ b → cond b (is_record j) (is_record_of js n) ≡ true → (is_record_of js n ≡ true → Each (λ (l : Leaf). input_type now l.name ≡ Some l.ty) (of_input n ls))
          → Each (λ (l : Leaf). input_type now l.name ≡ Some l.ty) (of_input n ls)
      by_name true e q rest =
          subst (λ m. Each (λ (l : Leaf). input_type now l.name ≡ Some l.ty) (of_input m ls)) (name_is j.name n e) (by_record (is_record j) q (each_left Typed (input_leaves ls j) (all_inputs ls js) h))
      by_name false e q rest = rest q

  kept_types : (n : List ℕ) (t : Ty) (js : List TInput) → Each Typed (all_inputs ls js) → input_type js n ≡ Some t → is_record_of js n ≡ false → input_type now n ≡ Some t
  kept_types n t [] h e r = absurd (cc)
  kept_types n t (j ∷ js) h e r = by_name (bytes_eq j.name n) refl e r (kept_types n t js (each_right Typed (input_leaves ls j) (all_inputs ls js) h))
    where
      by_record : (b : Bool) → b ≡ false → Each Typed (cond b (map (leaf_input j.span) (of_input j.name ls)) (swapped_input (swaps_of ls) j ∷ [])) → input_type now j.name ≡ Some j.ty
      by_record false e h = h.0.type_is
      by_record true e h = absurd (false≢true (sym e))

      by_name : (b : Bool) → bytes_eq j.name n ≡ b → cond b (Some j.ty) (input_type js n) ≡ Some t → cond b (is_record j) (is_record_of js n) ≡ false
          → (input_type js n ≡ Some t → is_record_of js n ≡ false → input_type now n ≡ Some t) → input_type now n ≡ Some t
      by_name true q e r rest = ap (input_type now) (sym (name_is j.name n q)) ∙ by_record (is_record j) r (each_left Typed (input_leaves ls j) (all_inputs ls js) h) ∙ e
      by_name false q e r rest = rest e r

  -- ---- what is given fits

  leaves_fit : (n : List ℕ) (x : Value) (t : Ty) → input_type is n ≡ Some t → fits structs x t ≡ true → is_within x ≡ true → (bl : List Leaf) → Each (λ (l : Leaf). input_type now l.name ≡ Some l.ty) bl
      → Each (λ (l : Leaf). OfRecord structs is l.input l.path l.ty) bl → Each (λ (l : Leaf). l.input ≡ n) bl → list_all (bind_fits structs now) (leaf_binds x bl) ≡ true
  leaves_fit n x t e f w [] a b c = refl
  leaves_fit n x t e f w (l ∷ bl) a b c =
      let type_ : b.0.of ≡ t = same (sym b.0.type_is ∙ ap (input_type is) c.0 ∙ e) in
      let p = path_leads structs l.path x b.0.of l.ty (subst (λ (u : Ty). fits structs x u ≡ true) (sym type_) f) w b.0.path_is in
      ap (λ (r : Met Value). list_all (bind_fits structs now) (bind_met l.name r ++ leaf_binds x bl)) p.1
      ∙ and_from (bind_fits structs now (record { key = plain_key l.name; value = p.0 })) (list_all (bind_fits structs now) (leaf_binds x bl))
      (named_fits structs now l.name p.0 l.ty a.0 (and_from (fits structs p.0 l.ty) (is_within p.0) p.2 p.3)) (leaves_fit n x t e f w bl a.1 b.1 c.1)
    where
      same : {u v : Ty} → Some u ≡ Some v → u ≡ v
      same h = cc

  pub all_fit : (bs : List Bind) → list_all (bind_fits structs is) bs ≡ true → list_all (bind_fits structs now) (given_leaves is ls bs) ≡ true
  all_fit [] h = refl
  all_fit (b ∷ bs) h =
      let p = and_parts (bind_fits structs is b) (list_all (bind_fits structs is) bs) h in
      list_all-append (bind_fits structs now) (binds_of is ls b) (given_leaves is ls bs)
      ∙ and_from (list_all (bind_fits structs now) (binds_of is ls b)) (list_all (bind_fits structs now) (given_leaves is ls bs)) (by_own (of_input_named structs is b p.0) (is_own is b.key) refl) (all_fit bs p.1)
    where
      plain_record : OfInput structs is b → is_own is b.key ≡ false → is_record_of is b.key.first ≡ false
      plain_record o e = sym (ap (λ (k : Key). is_own is k) o.key_is) ∙ e

      by_own : OfInput structs is b → (t : Bool) → is_own is b.key ≡ t → list_all (bind_fits structs now) (cond t (leaf_binds b.value (of_input b.key.first ls)) (b ∷ [])) ≡ true
      by_own o true e =
          leaves_fit b.key.first b.value o.ty o.type_is o.fit o.small (of_input b.key.first ls)
          (leaf_types b.key.first is found (and_parts (is_none b.key.second) (is_record_of is b.key.first) e).1) (each_kept (λ (l : Leaf). OfRecord structs is l.input l.path l.ty) ls b.key.first of) (own_inputs b.key.first ls)
      by_own o false e =
          and_from (bind_fits structs now b) true
          (ap (λ (k : Key). bind_fits structs now (record { key = k; value = b.value })) o.key_is
          ∙ named_fits structs now b.key.first b.value o.ty (kept_types b.key.first o.ty is found o.type_is (plain_record o e)) (and_from (fits structs b.value o.ty) (is_within b.value) o.fit o.small)) refl

  -- ---- each required input is given

  module _ (given leaves : List Bind) (agree : GivenAgrees structs is ls given leaves) (present : (n : List ℕ) → is_record_of is n ≡ true → (x : Value) × (lookup given (plain_key n) ≡ Some x)) where
    given_one : (j : TInput) → is_some (lookup leaves (plain_key j.name)) ≡ true → is_given leaves j ≡ true
    given_one j h = or_right (not (is_required j)) (is_some (lookup leaves (plain_key j.name))) h

    block_given : (n : List ℕ) (span : Span) (bl : List Leaf) → is_record_of is n ≡ true → Each (LeafGiven structs is ls given leaves) bl → Each (λ (l : Leaf). l.input ≡ n) bl
        → list_all (is_given leaves) (map (leaf_input span) bl) ≡ true
    block_given n span [] r h c = refl
    block_given n span (l ∷ bl) r h c =
        let p = present n r in
        let q = h.0 p.0 (ap (λ m. lookup given (plain_key m)) c.0 ∙ p.1) in
        and_from (is_given leaves (leaf_input span l)) (list_all (is_given leaves) (map (leaf_input span) bl)) (given_one (leaf_input span l) (ap is_some q.2)) (block_given n span bl r h.1 c.1)

    kept_given : (j : TInput) → lookup leaves (plain_key j.name) ≡ lookup given (plain_key j.name) → is_given given j ≡ true → is_given leaves (swapped_input (swaps_of ls) j) ≡ true
    kept_given j e h = ap (λ b. not b || is_some (lookup leaves (plain_key j.name))) (needs j.value) ∙ ap (λ (o : Option Value). not (is_required j) || is_some o) e ∙ h
      where
        needs : (d : Option TExpr) → (not (is_some (option_map (swapped (swaps_of ls)) d)) && not (is_optional (out-Ty j.ty))) ≡ (not (is_some d) && not (is_optional (out-Ty j.ty)))
        needs None = refl
        needs (Some x) = refl

    pub all_given : (js : List TInput) → Each (IsInput is) js → Each (λ (j : TInput). has_name j.name (leaf_names ls) ≡ false) js → list_all (is_given given) js ≡ true
        → list_all (is_given leaves) (all_inputs ls js) ≡ true
    all_given [] h n g = refl
    all_given (j ∷ js) h n g =
        let p = and_parts (is_given given j) (list_all (is_given given) js) g in
        list_all-append (is_given leaves) (input_leaves ls j) (all_inputs ls js)
        ∙ and_from (list_all (is_given leaves) (input_leaves ls j)) (list_all (is_given leaves) (all_inputs ls js)) (by_record (is_record j) refl p.0) (all_given js h.1 n.1 p.1)
      where
        by_record : (b : Bool) → is_record j ≡ b → is_given given j ≡ true → list_all (is_given leaves) (cond b (map (leaf_input j.span) (of_input j.name ls)) (swapped_input (swaps_of ls) j ∷ [])) ≡ true
        by_record true e g = block_given j.name j.span (of_input j.name ls) (h.0.record_is ∙ e) (each_kept (LeafGiven structs is ls given leaves) ls j.name agree.leaves) (own_inputs j.name ls)
        by_record false e g = and_from (is_given leaves (swapped_input (swaps_of ls) j)) true (kept_given j (agree.others (plain_key j.name) (h.0.record_is ∙ e) n.0) g) refl
