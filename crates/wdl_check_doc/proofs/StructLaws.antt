-- What the structs of a library keep, where its struct sections stand.
use Rattle.std.proofs.Common.{◌≡◌, inl, inr, ℕ, zero, suc, Bool, true, false, not, cond, List, [], ◌∷◌, ◌++◌, Option, Some, map, option_map, slice_get, refl, sym, ap, subst, ◌∙◌}
use Rattle.std.specs.Prelude.{filter}
use Rattle.std.specs.List.{find, list_all}
use Rattle.std.specs.Str.{bytes_eq}
use Rattle.std.proofs.lemmas.Bool.{and_from, and_parts, false≢true, not-true, not_from_false, or_from, or_parts}
use Rattle.std.proofs.lemmas.Slice.Eq.{bytes_eq-Decides}
use Rattle.std.proofs.lemmas.Option.{same_Some}
use Rattle.wdl_value.specs.declared.ty.Member.{Member}
use Rattle.wdl_value.specs.declared.ty.StructDef.{StructDef}
use Rattle.wdl_value.specs.Fits.{Structs, members_of}
use Rattle.wdl_ast.specs.declared.document.StructMember.{StructMember}
use Rattle.wdl_ast.specs.declared.document.StructSection.{StructSection}
use Rattle.wdl_typed.specs.KnownTypes.{all_structs, are_structs, are_written, is_shallow, is_some, is_struct, member_names, some_structs, struct_names}
use Rattle.wdl_typed.specs.Lists.{are_distinct, has_name}
use Rattle.wdl_library.specs.declared.doc.Doc.{Doc}
use Rattle.wdl_library.specs.declared.doc.StructName.{StructName}
use Rattle.wdl_library.specs.Links.{has_no_circle}
use Rattle.wdl_library.specs.Names.{has_names, imported, names_at, names_in, once, own_names, seen, structs_at, structs_of}
use Rattle.wdl_library.specs.Sections.{imports_of, sections_of}
use Rattle.wdl_library.specs.Structs as library
use Rattle.wdl_library.specs.Structs.{AreAlike, AreSections, HaveSections, agrees, member_of, members_at, stand_at, stand_in}
use Rattle.wdl_check_types.specs.Laws.{AreKnown}
use Rattle.struct_names.specs.Known.{naming}
use Rattle.wdl_check_doc.specs.Structs.{or_itself}
use Rattle.wdl_check_doc.proofs.Origins.{In, Origin, origin_at, same_names}
use Rattle.wdl_base.proofs.Options.{all_at}
use Rattle.wdl_check_task.proofs.Distinct.{is_same}

-- ---- members by names

pub members_same : (structs : Structs) (n : List ℕ) → members_at structs n ≡ members_of structs n
members_same [] n = refl
members_same (s ∷ ss) n = ap (λ (o : Option (List Member)). cond (bytes_eq s.name n) (Some s.members) o) (members_same ss n)

sections_at : (structs : Structs) (stand : List ℕ → List ℕ) (ss : List StructSection) (s : StructSection)
    → AreSections structs stand ss → In s ss → members_at structs (stand s.name.name) ≡ Some (library.members_of stand s)
sections_at structs stand [] s h i = absurd i
sections_at structs stand (x ∷ xs) s h (inl e) = subst (λ (y : StructSection). members_at structs (stand y.name.name) ≡ Some (library.members_of stand y)) (sym e) h.0
sections_at structs stand (x ∷ xs) s h (inr i) = sections_at structs stand xs s h.1 i

section_members : (structs : Structs) (docs : List Doc) (k : ℕ) (d : Doc) (s : StructSection) → HaveSections structs docs → slice_get docs k ≡ Some d
    → In s (sections_of d.document) → members_at structs (stand_in d.structs s.name.name) ≡ Some (library.members_of (stand_in d.structs) s)
section_members structs [] k d s h e i = cc
section_members structs (x ∷ xs) zero d s h e i =
    let same : x ≡ d = cc in
    sections_at structs (stand_in d.structs) (sections_of d.document) s
    (subst (λ (y : Doc). AreSections structs (stand_in y.structs) (sections_of y.document)) same h.0) i
section_members structs (x ∷ xs) (suc k) d s h e i = section_members structs xs k d s h.1 e i

-- ---- names that stand for structs

pub naming_stands : (ss : List StructName) (name known : List ℕ) → naming ss name ≡ Some known → (stand_in ss name ≡ known) × In name (names_in ss)
naming_stands [] name known h = cc
naming_stands (s ∷ ss) name known h = by_test (λ g. naming_stands ss name known g) (bytes_eq s.name name) refl h
  where
    by_test : (naming ss name ≡ Some known → (stand_in ss name ≡ known) × In name (names_in ss)) → (b : Bool) → bytes_eq s.name name ≡ b
        → option_map (λ (t : StructName). t.stands_for) (cond b (Some s) (find (λ (t : StructName). bytes_eq t.name name) ss)) ≡ Some known
        → (cond b s.stands_for (stand_in ss name) ≡ known) × In name (names_in (s ∷ ss))
    by_test more true e h = let same : s.stands_for ≡ known = cc in (same, inl (sym (is_same s.name name e)))
    by_test more false e h = let r = more h in (r.0, inr r.1)

pub naming_or_itself : (ss : List StructName) (name : List ℕ) → or_itself name (naming ss name) ≡ stand_in ss name
naming_or_itself [] name = refl
naming_or_itself (s ∷ ss) name = by_test (naming_or_itself ss name) (bytes_eq s.name name)
  where
    by_test : or_itself name (naming ss name) ≡ stand_in ss name → (b : Bool) → or_itself name (option_map (λ (t : StructName). t.stands_for) (cond b (Some s) (find (λ (t : StructName). bytes_eq t.name name) ss))) ≡ cond b s.stands_for (stand_in ss name)
    by_test more true = refl
    by_test more false = more

-- a name among them, and what it stands for
stand_of : (ss : List StructName) (name : List ℕ) → In name (names_in ss) → (s : StructName) × In s ss × (s.name ≡ name) × (stand_in ss name ≡ s.stands_for)
stand_of [] name h = absurd h
stand_of (s ∷ ss) name h = by_test (λ i. stand_of ss name i) (bytes_eq s.name name) refl
  where
    later : bytes_eq s.name name ≡ false → In name (names_in (s ∷ ss)) → In name (names_in ss)
    later e (inl is) = absurd (false≢true (sym e ∙ (bytes_eq-Decides s.name name).1 (sym is)))
    later e (inr i) = i

    by_test : (In name (names_in ss) → (t : StructName) × In t ss × (t.name ≡ name) × (stand_in ss name ≡ t.stands_for)) → (b : Bool) → bytes_eq s.name name ≡ b → (t : StructName) × In t (s ∷ ss) × (t.name ≡ name) × (cond b s.stands_for (stand_in ss name) ≡ t.stands_for)
    by_test more true e = (s, inl refl, is_same s.name name e, refl)
    by_test more false e = let r = more (later e h) in (r.0, inr r.1, r.2, r.3)

alike_at : (structs : Structs) (ss : List StructName) (s : StructName) → AreAlike structs ss → In s ss → members_at structs s.name ≡ members_at structs s.stands_for
alike_at structs [] s h i = absurd i
alike_at structs (x ∷ xs) s h (inl e) = subst (λ (y : StructName). members_at structs y.name ≡ members_at structs y.stands_for) (sym e) h.0
alike_at structs (x ∷ xs) s h (inr i) = alike_at structs xs s h.1 i

-- ---- names that differ

filter_lacks : (n : List ℕ) (ns : List (List ℕ)) → has_name n (filter (λ (m : List ℕ). not (bytes_eq m n)) ns) ≡ false
filter_lacks n [] = refl
filter_lacks n (m ∷ ms) = by_test (filter_lacks n ms) (bytes_eq m n) refl
  where
    by_test : has_name n (filter (λ (x : List ℕ). not (bytes_eq x n)) ms) ≡ false → (b : Bool) → bytes_eq m n ≡ b
        → has_name n (cond (not b) (m ∷ filter (λ (x : List ℕ). not (bytes_eq x n)) ms) (filter (λ (x : List ℕ). not (bytes_eq x n)) ms)) ≡ false
    by_test more true e = more
    by_test more false e = or_from _ _ e more

lacks_filter : (test : List ℕ → Bool) (n : List ℕ) (ns : List (List ℕ)) → has_name n ns ≡ false → has_name n (filter test ns) ≡ false
lacks_filter test n [] h = refl
lacks_filter test n (m ∷ ms) h = by_test (lacks_filter test n ms (or_parts (bytes_eq m n) (has_name n ms) h).1) (test m)
  where
    by_test : has_name n (filter test ms) ≡ false → (b : Bool) → has_name n (cond b (m ∷ filter test ms) (filter test ms)) ≡ false
    by_test more true = or_from _ _ (or_parts (bytes_eq m n) (has_name n ms) h).0 more
    by_test more false = more

distinct_filter : (test : List ℕ → Bool) (ns : List (List ℕ)) → are_distinct ns ≡ true → are_distinct (filter test ns) ≡ true
distinct_filter test [] h = refl
distinct_filter test (n ∷ ns) h =
    let p = and_parts (not (has_name n ns)) (are_distinct ns) h in
    by_test (lacks_filter test n ns (not-true (has_name n ns) p.0)) (distinct_filter test ns p.1) (test n)
  where
    by_test : has_name n (filter test ns) ≡ false → are_distinct (filter test ns) ≡ true → (b : Bool) → are_distinct (cond b (n ∷ filter test ns) (filter test ns)) ≡ true
    by_test lacks more true = and_from _ _ (not_from_false _ lacks) more
    by_test lacks more false = more

once_distinct : (ns : List (List ℕ)) → are_distinct (once ns) ≡ true
once_distinct [] = refl
once_distinct (n ∷ ns) =
    and_from _ _ (not_from_false _ (filter_lacks n (once ns))) (distinct_filter (λ (m : List ℕ). not (bytes_eq m n)) (once ns) (once_distinct ns))

has_in : (n : List ℕ) (ns : List (List ℕ)) → has_name n ns ≡ false → In n ns → ⊥
has_in n [] h i = i
has_in n (m ∷ ms) h (inl e) = false≢true (sym (or_parts (bytes_eq m n) (has_name n ms) h).0 ∙ (bytes_eq-Decides m n).1 (sym e))
has_in n (m ∷ ms) h (inr i) = has_in n ms (or_parts (bytes_eq m n) (has_name n ms) h).1 i

in_names : (d : StructDef) (ds : Structs) → In d ds → In d.name (struct_names ds)
in_names d [] i = i
in_names d (x ∷ xs) (inl e) = inl (ap (λ (y : StructDef). y.name) e)
in_names d (x ∷ xs) (inr i) = inr (in_names d xs i)

-- where names differ, each struct has its own members
own_members : (ds : Structs) (d : StructDef) → are_distinct (struct_names ds) ≡ true → In d ds → members_of ds d.name ≡ Some d.members
own_members [] d h i = absurd i
own_members (x ∷ xs) d h (inl e) =
    ap (λ (b : Bool). cond b (Some x.members) (members_of xs d.name)) ((bytes_eq-Decides x.name d.name).1 (ap (λ (y : StructDef). y.name) (sym e)))
    ∙ ap (λ (y : StructDef). Some y.members) (sym e)
own_members (x ∷ xs) d h (inr i) =
    let p = and_parts (not (has_name x.name (struct_names xs))) (are_distinct (struct_names xs)) h in
    by_test (not-true _ p.0) (own_members xs d p.1 i) (bytes_eq x.name d.name) refl
  where
    by_test : has_name x.name (struct_names xs) ≡ false → members_of xs d.name ≡ Some d.members
        → (b : Bool) → bytes_eq x.name d.name ≡ b → cond b (Some x.members) (members_of xs d.name) ≡ Some d.members
    by_test lacks more true e =
        absurd (has_in x.name (struct_names xs) lacks (subst (λ (n : List ℕ). In n (struct_names xs)) (sym (is_same x.name d.name e)) (in_names d xs i)))
    by_test lacks more false e = more

-- ---- the structs of a library

shallow_next : (n : ℕ) (structs : Structs) (name : List ℕ) → is_shallow (suc n) structs name ≡ list_all (is_shallow n structs) (some_structs (members_of structs name))
unfolding is_shallow
shallow_next n structs name = refl

-- names with the same members lead as far
shallow_same : (n : ℕ) (structs : Structs) (a b : List ℕ) → members_of structs a ≡ members_of structs b → is_shallow (suc n) structs a ≡ is_shallow (suc n) structs b
shallow_same n structs a b e =
    shallow_next n structs a ∙ ap (λ (o : Option (List Member)). list_all (is_shallow n structs) (some_structs o)) e ∙ sym (shallow_next n structs b)

names_of_members : (stand : List ℕ → List ℕ) (ms : List StructMember) → member_names (map (member_of stand) ms) ≡ map (λ (m : StructMember). m.name.name) ms
names_of_members stand [] = refl
names_of_members stand (m ∷ ms) = ap (λ (ns : List (List ℕ)). m.name.name ∷ ns) (names_of_members stand ms)

-- what a struct section has to be
pub record IsFine (structs : Structs) (d : Doc) (s : StructSection) : Type 0 where
  pub distinct : are_distinct (map (λ (m : StructMember). m.name.name) s.members) ≡ true
  pub written : are_written structs (library.members_of (stand_in d.structs) s) ≡ true
  pub shallow : is_shallow 32 structs (or_itself s.name.name (naming d.structs s.name.name)) ≡ true

abbrev pub AreFine : Structs → List Doc → Type 0
AreFine structs docs = (k : ℕ) (d : Doc) (s : StructSection) → slice_get docs k ≡ Some d → In s (sections_of d.document) → IsFine structs d s

module _ (docs : List Doc) (structs : Structs) (circle : has_no_circle docs ≡ true)
    (named : list_all (has_names docs) docs ≡ true) (agreeing : agrees (stand_at docs) docs ≡ true) (have : HaveSections structs docs) where
  abbrev At : (k : ℕ) (name : List ℕ) → Type 0
  At k name = Origin docs k name

  origin_members : (k : ℕ) (name : List ℕ) (o : At k name) → members_of structs (stand_at docs k name) ≡ Some (library.members_of (stand_in o.doc.structs) o.section)
  origin_members k name o =
      sym (members_same structs (stand_at docs k name)) ∙ ap (members_at structs) o.same ∙ section_members structs docs o.number o.doc o.section have o.at o.own

  -- each name of a document stands for a struct
  pub names_known : (k : ℕ) (d : Doc) → slice_get docs k ≡ Some d → AreKnown structs (naming d.structs)
  names_known k d e name known h =
      let p = naming_stands d.structs name known h in
      let o = origin_at docs named agreeing k d name circle e p.1 in
      let here : stand_at docs k name ≡ known = ap (λ (x : Option Doc). stand_in (structs_of x) name) e ∙ p.0 in
      ap is_some (ap (members_of structs) (sym here) ∙ origin_members k name o)

  module _ (first : Doc) (more : List Doc) (is : docs ≡ first ∷ more) (names : struct_names structs ≡ names_at docs 0) (alike : AreAlike structs (structs_at docs 0)) (fine : AreFine structs docs) where
    at_first : slice_get docs 0 ≡ Some first
    at_first = ap (λ (ds : List Doc). slice_get ds 0) is

    seen_first : struct_names structs ≡ names_in first.structs
    seen_first = names ∙ ap (λ (o : Option Doc). names_in (structs_of o)) at_first

    distinct_names : are_distinct (struct_names structs) ≡ true
    distinct_names =
        ap are_distinct (seen_first ∙ same_names (names_in first.structs) (seen docs first) (all_at (has_names docs) docs 0 first named at_first)) ∙ once_distinct (own_names first ++ imported docs (imports_of first.document) first.imports)

    struct_is : (d : StructDef) → In d structs → is_struct structs d ≡ true
    struct_is d i =
        let here = subst (In d.name) seen_first (in_names d structs i) in
        let o = origin_at docs named agreeing 0 first d.name circle at_first here in
        let s = stand_of first.structs d.name here in
        let stands : stand_at docs 0 d.name ≡ s.0.stands_for = ap (λ (x : Option Doc). stand_in (structs_of x) d.name) at_first ∙ s.3 in
        let both : members_of structs d.name ≡ members_of structs (stand_at docs 0 d.name) =
        ap (members_of structs) (sym s.2) ∙ sym (members_same structs s.0.name)
        ∙ alike_at structs first.structs s.0 (subst (λ (x : Option Doc). AreAlike structs (structs_of x)) at_first alike) s.1
        ∙ members_same structs s.0.stands_for ∙ ap (members_of structs) (sym stands) in
        let f = fine o.number o.doc o.section o.at o.own in
        let own = own_members structs d distinct_names i in
        let members : Some d.members ≡ Some (library.members_of (stand_in o.doc.structs) o.section) = sym own ∙ both ∙ origin_members 0 d.name o in
        let same : d.members ≡ library.members_of (stand_in o.doc.structs) o.section = same_Some _ _ members in
        let deep : is_shallow 32 structs d.name ≡ is_shallow 32 structs (or_itself o.section.name.name (naming o.doc.structs o.section.name.name)) =
        shallow_same 31 structs d.name _ (both ∙ ap (members_of structs) (o.same ∙ sym (naming_or_itself o.doc.structs o.section.name.name))) in
        and_from _ _ (and_from _ _
        (ap (λ (ms : List Member). are_distinct (member_names ms)) same ∙ ap are_distinct (names_of_members (stand_in o.doc.structs) o.section.members) ∙ f.distinct)
        (ap (are_written structs) same ∙ f.written))
        (deep ∙ f.shallow)

    structs_are : (ds : Structs) → ((d : StructDef) → In d ds → In d structs) → all_structs structs ds ≡ true
    structs_are [] h = refl
    structs_are (d ∷ ds) h = and_from _ _ (struct_is d (h d (inl refl))) (structs_are ds (λ e i. h e (inr i)))

    pub structs_kept : are_structs structs ≡ true
    structs_kept = and_from _ _ distinct_names (structs_are structs (λ d i. i))
