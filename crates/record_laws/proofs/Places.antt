-- The leaves of a workflow's struct inputs are of its inputs, and their paths lead through members of structs.
use Rattle.std.proofs.Common.{◌≡◌, ℕ, zero, suc, Bool, true, false, cond, not, ◌&&◌, List, [], ◌∷◌, ◌++◌, append_assoc, append-nil, Option, Some, None, option_and_then, sym, ap, ◌∙◌, refl}
use Rattle.std.specs.List.{list_all}
use Rattle.std.specs.Str.{bytes_eq}
use Rattle.std.proofs.lemmas.Bool.{and_parts, not-true, or_parts}
use Rattle.std.proofs.lemmas.Option.{same_Some}
use Rattle.wdl_value.specs.declared.ty.Member.{Member}
use Rattle.wdl_value.specs.declared.ty.StructDef.{StructDef}
use Rattle.wdl_value.specs.declared.ty.Ty.{Ty, Ty-F, out-Ty}
use Rattle.wdl_value.specs.declared.ty.Ty.TheOpen as type
use Rattle.wdl_value.specs.Fits.{Structs, members_of}
use Rattle.wdl_typed.specs.declared.flow.FlowDef.{FlowDef}
use Rattle.wdl_typed.specs.declared.task.TInput.{TInput}
use Rattle.wdl_typed.specs.Bodies.{input_type}
use Rattle.wdl_typed.specs.Declarations.{input_names}
use Rattle.wdl_typed.specs.KnownTypes.{all_structs, are_structs, are_written, is_shallow, is_struct, member_names, struct_names}
use Rattle.wdl_typed.specs.Lists.{are_distinct, has_name}
use Rattle.wdl_typed.specs.Typing.{member_at, member_type, type_among}
use Rattle.leaf_image.specs.declared.leaf.Leaf.{Leaf}
use Rattle.leaf_image.specs.declared.leaf.Place.{Place}
use Rattle.leaf_image.specs.Inside.{Each}
use Rattle.leaf_image.specs.Leaves.{all_places, input_places, is_record, is_small, leaves_of, named, place, places_at, places_of, some_places, struct_places, taken_by}
use Rattle.leaf_image.specs.Records.{is_record_of}
use Rattle.leaf_image.proofs.Eaches.{each_both, each_by, each_with}
use Rattle.record_laws.proofs.LeafNames.{Named, all_named, apart_swapped}
use Rattle.record_laws.proofs.Paths.{path_type}
use Rattle.wdl_stdlib.proofs.Keys.{bytes_eq-refl as name_itself}

-- ---- members of structs

none_of : (ms : List Member) (n : List ℕ) → has_name n (member_names ms) ≡ false → Each (λ (m : Member). bytes_eq m.name n ≡ false) ms
none_of [] n h = tt
none_of (m ∷ ms) n h = let p = or_parts (bytes_eq m.name n) (has_name n (member_names ms)) h in (p.0, none_of ms n p.1)

members_typed : (ms : List Member) → are_distinct (member_names ms) ≡ true → Each (λ (m : Member). type_among ms m.name ≡ Some m.ty) ms
members_typed [] h = tt
members_typed (m ∷ ms) h =
    let p = and_parts (not (has_name m.name (member_names ms))) (are_distinct (member_names ms)) h in (
      ap (λ b. cond b (Some m.ty) (type_among ms m.name)) (name_itself m.name),
      each_with (λ (k : Member). bytes_eq k.name m.name ≡ false) (λ (k : Member). type_among ms k.name ≡ Some k.ty) (λ (k : Member). type_among (m ∷ ms) k.name ≡ Some k.ty)
          (λ k a e. ap (λ b. cond b (Some m.ty) (type_among ms k.name)) (apart_swapped k.name m.name a) ∙ e) ms
          (none_of ms m.name (not-true (has_name m.name (member_names ms)) p.0)) (members_typed ms p.1),
    )

-- each struct that is there has members whose names differ
abbrev pub MembersDiffer : Structs → Type 0
MembersDiffer structs = (s : List ℕ) (ms : List Member) → members_of structs s ≡ Some ms → are_distinct (member_names ms) ≡ true

pub members_differ : (structs : Structs) → are_structs structs ≡ true → MembersDiffer structs
members_differ structs h = among structs (and_parts (are_distinct (struct_names structs)) (all_structs structs structs) h).1
  where
    among : (ds : List StructDef) → all_structs structs ds ≡ true → (s : List ℕ) (ms : List Member) → members_of ds s ≡ Some ms → are_distinct (member_names ms) ≡ true
    among [] h s ms e = cc
    among (d ∷ ds) h s ms e =
        let p = and_parts (is_struct structs d) (all_structs structs ds) h in
        let q = and_parts (are_distinct (member_names d.members) && are_written structs d.members) (is_shallow 32 structs d.name) p.0 in
        by_name (bytes_eq d.name s) (and_parts (are_distinct (member_names d.members)) (are_written structs d.members) q.0).0 e (among ds p.1 s ms)
      where
        by_name : (b : Bool) → are_distinct (member_names d.members) ≡ true → cond b (Some d.members) (members_of ds s) ≡ Some ms → (members_of ds s ≡ Some ms → are_distinct (member_names ms) ≡ true)
            → are_distinct (member_names ms) ≡ true
        by_name true own e rest = ap (λ (xs : List Member). are_distinct (member_names xs)) (sym (same_Some _ _ e)) ∙ own
        by_name false own e rest = rest e

-- ---- places

module _ (structs : Structs) (differ : MembersDiffer structs) (input : List ℕ) where
  -- a place behind a path of that type
  abbrev Behind : List (List ℕ) → Ty → Place → Type 0
  Behind path t p = (rest : List (List ℕ)) × (p.path ≡ path ++ rest) × (p.input ≡ input) × (path_type structs rest t ≡ Some p.ty)

  one_more : (path : List (List ℕ)) (t : Ty) (m : Member) → member_type structs m.name t ≡ Some m.ty → (p : Place) → Behind (path ++ m.name ∷ []) m.ty p → Behind path t p
  one_more path t m e p h =
      (m.name ∷ h.0, h.1 ∙ append_assoc path (m.name ∷ []) h.0, h.2, ap (option_and_then (path_type structs h.0)) e ∙ h.3)

  members_behind : (f : List (List ℕ) → Ty → List Place) → ((path : List (List ℕ)) (t : Ty) → Each (Behind path t) (f path t)) → (path : List (List ℕ)) (t : Ty) (ms : List Member)
      → Each (λ (m : Member). member_type structs m.name t ≡ Some m.ty) ms → Each (Behind path t) (all_places f path ms)
  members_behind f each path t [] h = tt
  members_behind f each path t (m ∷ ms) h =
      each_both (Behind path t) (f (path ++ m.name ∷ []) m.ty) (all_places f path ms)
      (each_by (Behind (path ++ m.name ∷ []) m.ty) (Behind path t) (one_more path t m h.0) (f (path ++ m.name ∷ []) m.ty) (each (path ++ m.name ∷ []) m.ty))
      (members_behind f each path t ms h.1)

  itself : (path : List (List ℕ)) (t : Ty) → Each (Behind path t) (place input path t ∷ [])
  itself path t = (([], sym (append-nil path), refl, refl), tt)

  in_struct : (f : List (List ℕ) → Ty → List Place) → ((path : List (List ℕ)) (t : Ty) → Each (Behind path t) (f path t)) → (path : List (List ℕ)) (t : Ty) (s : List ℕ) → out-Ty t ≡ type.Struct s
      → (o : Option (List Member)) → members_of structs s ≡ o → Each (Behind path t) (some_places f path o)
  in_struct f each path t s is None e = tt
  in_struct f each path t s is (Some ms) e =
      members_behind f each path t ms
      (each_by (λ (m : Member). type_among ms m.name ≡ Some m.ty) (λ (m : Member). member_type structs m.name t ≡ Some m.ty)
      (λ m h. ap (member_at structs m.name) is ∙ ap (option_and_then (λ xs. type_among xs m.name)) e ∙ h) ms (members_typed ms (differ s ms e)))

  by_type : (f : List (List ℕ) → Ty → List Place) → ((path : List (List ℕ)) (t : Ty) → Each (Behind path t) (f path t)) → (path : List (List ℕ)) (t : Ty) (z : Ty-F Ty) → out-Ty t ≡ z
      → Each (Behind path t) (struct_places structs f input path t z)
  by_type f each path t (type.Struct s) is = in_struct f each path t s is (members_of structs s) refl
  by_type f each path t type.Bool is = itself path t
  by_type f each path t type.Int is = itself path t
  by_type f each path t type.Str is = itself path t
  by_type f each path t type.File is = itself path t
  by_type f each path t (type.Array u some) is = itself path t
  by_type f each path t (type.Map u w) is = itself path t
  by_type f each path t (type.Pair u w) is = itself path t
  by_type f each path t (type.Opt u) is = itself path t
  by_type f each path t type.Absent is = itself path t
  by_type f each path t type.Empty is = itself path t

  places_behind : (n : ℕ) (path : List (List ℕ)) (t : Ty) → Each (Behind path t) (places_at structs n input path t)
  unfolding places_at
  places_behind zero path t = tt
  places_behind (suc n) path t = by_type (places_at structs n input) (places_behind n) path t (out-Ty t) refl

-- ---- inputs

-- each input is found by its name
pub record IsInput (is : List TInput) (i : TInput) : Type 0 where
  pub record_is : is_record_of is i.name ≡ is_record i
  pub type_is : input_type is i.name ≡ Some i.ty

none_before : (is : List TInput) (n : List ℕ) → has_name n (input_names is) ≡ false → Each (λ (i : TInput). bytes_eq i.name n ≡ false) is
none_before [] n h = tt
none_before (i ∷ is) n h = let p = or_parts (bytes_eq i.name n) (has_name n (input_names is)) h in (p.0, none_before is n p.1)

pub all_inputs_found : (is : List TInput) → are_distinct (input_names is) ≡ true → Each (IsInput is) is
all_inputs_found [] h = tt
all_inputs_found (i ∷ is) h =
    let p = and_parts (not (has_name i.name (input_names is))) (are_distinct (input_names is)) h in (
      record {
        record_is = ap (λ b. cond b (is_record i) (is_record_of is i.name)) (name_itself i.name);
        type_is = ap (λ b. cond b (Some i.ty) (input_type is i.name)) (name_itself i.name);
      },
      each_with (λ (j : TInput). bytes_eq j.name i.name ≡ false) (IsInput is) (IsInput (i ∷ is))
          (λ j a k. let test = apart_swapped j.name i.name a in record {
            record_is = ap (λ b. cond b (is_record i) (is_record_of is j.name)) test ∙ k.record_is;
            type_is = ap (λ b. cond b (Some i.ty) (input_type is j.name)) test ∙ k.type_is;
          }) is (none_before is i.name (not-true (has_name i.name (input_names is)) p.0)) (all_inputs_found is p.1),
    )

-- a struct input, and a path to a leaf of it
pub record OfRecord (structs : Structs) (is : List TInput) (input : List ℕ) (path : List (List ℕ)) (t : Ty) : Type 0 where
  pub record_is : is_record_of is input ≡ true
  pub of : Ty
  pub type_is : input_type is input ≡ Some of
  pub path_is : path_type structs path of ≡ Some t

module _ (structs : Structs) (differ : MembersDiffer structs) (is : List TInput) where
  abbrev Fine : Place → Type 0
  Fine p = OfRecord structs is p.input p.path p.ty

  one_input : (i : TInput) → IsInput is i → Each Fine (input_places structs i)
  one_input i h = by_record (is_record i) refl
    where
      made : is_record i ≡ true → (p : Place) → (rest : List (List ℕ)) × (p.path ≡ [] ++ rest) × (p.input ≡ i.name) × (path_type structs rest i.ty ≡ Some p.ty) → Fine p
      made e p b = record {
        record_is = ap (is_record_of is) b.2 ∙ h.record_is ∙ e;
        of = i.ty;
        type_is = ap (input_type is) b.2 ∙ h.type_is;
        path_is = ap (λ (ms : List (List ℕ)). path_type structs ms i.ty) b.1 ∙ b.3;
      }

      by_record : (b : Bool) → is_record i ≡ b → Each Fine (cond b (places_at structs 33 i.name [] i.ty) [])
      by_record true e = each_by (λ (p : Place). (rest : List (List ℕ)) × (p.path ≡ [] ++ rest) × (p.input ≡ i.name) × (path_type structs rest i.ty ≡ Some p.ty)) Fine (made e)
          (places_at structs 33 i.name [] i.ty) (places_behind structs differ i.name 33 [] i.ty)
      by_record false e = tt

  all_places_fine : (js : List TInput) → Each (IsInput is) js → Each Fine (places_of structs js)
  all_places_fine [] h = tt
  all_places_fine (j ∷ js) h = each_both Fine (input_places structs j) (places_of structs js) (one_input j h.0) (all_places_fine js h.1)

-- ---- workflows

-- The leaves of a workflow have new names, which differ, and each is of a struct input.
pub leaves_fine : (structs : Structs) (f : FlowDef) (ls : List Leaf) → MembersDiffer structs → are_distinct (input_names f.inputs) ≡ true → leaves_of structs f ≡ Some ls
    → Named (OfRecord structs f.inputs) (taken_by f) ls
leaves_fine structs f ls differ distinct h = by_size (list_all (is_small structs) f.inputs) h
  where
    by_size : (b : Bool) → cond b (named (taken_by f) (places_of structs f.inputs)) None ≡ Some ls → Named (OfRecord structs f.inputs) (taken_by f) ls
    by_size true e = all_named (OfRecord structs f.inputs) (places_of structs f.inputs) (taken_by f) ls e (all_places_fine structs differ f.inputs f.inputs (all_inputs_found f.inputs distinct))
    by_size false e = absurd (cc)
