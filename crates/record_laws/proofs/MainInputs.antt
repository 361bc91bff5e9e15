-- Inputs that fit, and their leaves.
use Rattle.std.proofs.Common.{◌≡◌, ℕ, Bool, true, false, cond, not, ◌||◌, List, [], ◌∷◌, ◌++◌, Option, Some, None, sym, ap, ◌∙◌, subst, refl}
use Rattle.std.specs.Prelude.{is_none}
use Rattle.std.specs.List.{list_all}
use Rattle.std.specs.Str.{bytes_eq}
use Rattle.std.proofs.lemmas.Bool.{false≢true, and_parts, and_right}
use Rattle.wdl_base.specs.declared.name.Key.{Key}
use Rattle.wdl_value.specs.declared.env.Bind.{Bind}
use Rattle.wdl_value.specs.declared.ty.Ty.{Ty}
use Rattle.wdl_value.specs.declared.value.Value.{Value}
use Rattle.wdl_value.specs.Fits.{Structs, fits}
use Rattle.wdl_value.specs.Limits.{is_within}
use Rattle.wdl_typed.specs.declared.task.TInput.{TInput}
use Rattle.wdl_typed.specs.Bodies.{input_type, is_required}
use Rattle.wdl_typed.specs.Declarations.{input_names, plain_key}
use Rattle.wdl_typed.specs.Journal.{bind_fits, is_given, value_fits}
use Rattle.wdl_typed.specs.KnownTypes.{is_some}
use Rattle.wdl_typed.specs.Lists.{has_name}
use Rattle.wdl_typed.specs.Scope.{lookup, same_key}
use Rattle.flow_laws.proofs.Keys.{key_itself, key_same}
use Rattle.leaf_image.specs.declared.leaf.Leaf.{Leaf}
use Rattle.leaf_image.specs.Leaves.{is_record}
use Rattle.leaf_image.specs.Records.{is_own, is_record_of, of_input}
use Rattle.record_laws.specs.Given.{given_leaves, leaf_binds}
use Rattle.record_laws.proofs.CallLaws.{record_required}
use Rattle.record_laws.proofs.FlowFacts.{None_of, no_leaf_typed}
use Rattle.record_laws.proofs.Giving.{Alike, members, none, plain}
use Rattle.record_laws.proofs.LeafNames.{leaf_names, name_is}
use Rattle.wdl_stdlib.proofs.Keys.{bytes_eq-refl as name_itself}

-- ---- one name

-- the input of that name, whose type the value fits
pub record OfInput (structs : Structs) (is : List TInput) (b : Bind) : Type 0 where
  pub ty : Ty
  pub type_is : input_type is b.key.first ≡ Some ty
  pub fit : fits structs b.value ty ≡ true
  pub small : is_within b.value ≡ true
  pub key_is : b.key ≡ plain_key b.key.first

pub of_input_named : (structs : Structs) (is : List TInput) (b : Bind) → bind_fits structs is b ≡ true → OfInput structs is b
of_input_named structs [] b h = absurd (false≢true h)
of_input_named structs (i ∷ is) b h = by_key (same_key b.key (plain_key i.name)) refl h (of_input_named structs is b)
  where
    key_first : b.key ≡ plain_key i.name → b.key ≡ plain_key b.key.first
    key_first e = e ∙ ap plain_key (sym (ap (λ (k : Key). k.first) e))

    later : same_key b.key (plain_key i.name) ≡ false → OfInput structs is b → OfInput structs (i ∷ is) b
    later e r = record {
      ty = r.ty;
      type_is = ap (λ t. cond t (Some i.ty) (input_type is b.key.first)) (apart e r.key_is) ∙ r.type_is;
      fit = r.fit;
      small = r.small;
      key_is = r.key_is;
    }
      where
        apart : same_key b.key (plain_key i.name) ≡ false → b.key ≡ plain_key b.key.first → bytes_eq i.name b.key.first ≡ false
        apart e k = by_test (bytes_eq i.name b.key.first) refl
          where
            by_test : (t : Bool) → bytes_eq i.name b.key.first ≡ t → t ≡ false
            by_test false q = refl
            by_test true q =
                let same : b.key ≡ plain_key i.name = k ∙ ap plain_key (sym (name_is i.name b.key.first q)) in
                absurd (false≢true (sym e ∙ ap (λ (j : Key). same_key j (plain_key i.name)) same ∙ key_itself (plain_key i.name)))

    by_key : (t : Bool) → same_key b.key (plain_key i.name) ≡ t → cond t (value_fits structs i.ty b.value) (bind_fits structs is b) ≡ true → (bind_fits structs is b ≡ true → OfInput structs is b) → OfInput structs (i ∷ is) b
    by_key true e h rest =
        let same : b.key ≡ plain_key i.name = key_same b.key (plain_key i.name) e in
        let p = and_parts (fits structs b.value i.ty) (is_within b.value) h in
        record {
          ty = i.ty;
          type_is = ap (λ (k : Key). input_type (i ∷ is) k.first) same ∙ ap (λ t. cond t (Some i.ty) (input_type is i.name)) (name_itself i.name);
          fit = p.0;
          small = p.1;
          key_is = key_first same;
        }
    by_key false e h rest = later e (rest h)

-- ---- all names

module _ (structs : Structs) (is : List TInput) (ls : List Leaf) (new : None_of (λ n. has_name n (leaf_names ls)) (input_names is)) where
  pub alike_given : (bs : List Bind) → list_all (bind_fits structs is) bs ≡ true → Alike structs is ls bs (given_leaves is ls bs)
  alike_given [] h = none
  alike_given (b ∷ bs) h =
      let p = and_parts (bind_fits structs is b) (list_all (bind_fits structs is) bs) h in
      by_own (of_input_named structs is b p.0) (is_own is b.key) refl (alike_given bs p.1)
    where
      bind_is : b.key ≡ plain_key b.key.first → b ≡ (let made : Bind = record { key = plain_key b.key.first; value = b.value } in made)
      bind_is e = ap (λ (k : Key). let made : Bind = record { key = k; value = b.value } in made) e

      by_own : OfInput structs is b → (t : Bool) → is_own is b.key ≡ t → Alike structs is ls bs (given_leaves is ls bs)
          → Alike structs is ls (b ∷ bs) (cond t (leaf_binds b.value (of_input b.key.first ls)) (b ∷ []) ++ given_leaves is ls bs)
      by_own o true e rest =
          subst (λ (z : Bind). Alike structs is ls (z ∷ bs) (leaf_binds b.value (of_input b.key.first ls) ++ given_leaves is ls bs)) (sym (bind_is o.key_is))
          (members b.key.first b.value o.ty (and_parts (is_none b.key.second) (is_record_of is b.key.first) e).1 o.type_is o.fit o.small rest)
      by_own o false e rest =
          plain b e (and_right (is_none b.key.second) (has_name b.key.first (leaf_names ls)) (no_leaf_typed ls is new b.key.first o.ty o.type_is)) rest

-- Each struct input is required, and so given.
pub present_given : (given : List Bind) (js : List TInput) → list_all (is_given given) js ≡ true → (n : List ℕ) → is_record_of js n ≡ true → (x : Value) × (lookup given (plain_key n) ≡ Some x)
present_given given [] h n r = absurd (false≢true r)
present_given given (j ∷ js) h n r =
    let p = and_parts (is_given given j) (list_all (is_given given) js) h in
    by_name (bytes_eq j.name n) refl r p.0 (present_given given js p.1 n)
  where
    found : (o : Option Value) → is_some o ≡ true → (x : Value) × (o ≡ Some x)
    found (Some x) i = (x, refl)
    found None i = absurd (false≢true i)

    by_need : (b : Bool) → b ≡ true → (not b || is_some (lookup given (plain_key j.name))) ≡ true → is_some (lookup given (plain_key j.name)) ≡ true
    by_need true e i = i
    by_need false e i = absurd (false≢true e)

    by_name : (b : Bool) → bytes_eq j.name n ≡ b → cond b (is_record j) (is_record_of js n) ≡ true → is_given given j ≡ true → (is_record_of js n ≡ true → (x : Value) × (lookup given (plain_key n) ≡ Some x))
        → (x : Value) × (lookup given (plain_key n) ≡ Some x)
    by_name true e q g rest =
        subst (λ (m : List ℕ). (x : Value) × (lookup given (plain_key m) ≡ Some x)) (name_is j.name n e) (found (lookup given (plain_key j.name)) (by_need (is_required j) (record_required j q) g))
    by_name false e q g rest = rest q
