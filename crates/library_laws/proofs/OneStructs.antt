-- Sections are one struct where a relation under which sections agree relates them.
use Rattle.std.proofs.Common.{◌≡◌, ◌↔◌, ℕ, ◌<◌, true, List, [], ◌∷◌, map, length, Option, Some, refl, sym, ap, ◌∙◌, subst}
use Rattle.std.specs.List.{list_all}
use Rattle.std.specs.Str.{bytes_eq}
use Rattle.std.proofs.lemmas.Bool.{and_parts, false_from_ne_true}
use Rattle.std.proofs.lemmas.Slice.Eq.{bytes_eq-Decides}
use Rattle.wdl_base.specs.Names.{is_among}
use Rattle.wdl_value.specs.declared.ty.Member.{Member}
use Rattle.wdl_value.specs.declared.ty.StructDef.{StructDef}
use Rattle.wdl_ast.specs.declared.document.StructMember.{StructMember}
use Rattle.wdl_ast.specs.declared.document.StructSection.{StructSection}
use Rattle.wdl_library.specs.declared.doc.Doc.{Doc}
use Rattle.wdl_library.specs.Sections.{sections_of}
use Rattle.wdl_library.specs.Links.{has_links, has_no_circle}
use Rattle.wdl_library.specs.Names.{has_names, names_at, names_in, structs_of}
use Rattle.wdl_library.specs.Structs.{HasStructs, IsSameStruct, Labels, agrees, member_of, members_at, members_of, stand_at, stand_in}
use Rattle.wdl_imports.proofs.CollectLaws.{linked_parts}
use Rattle.wdl_imports.proofs.ReadLaws.{are_reached}
use Rattle.wdl_links.specs.Circles.{AreReached}
use Rattle.wdl_structs.specs.Faults.{IsSection}
use Rattle.wdl_structs.proofs.IdentityLaws.{contained, is_first}
use Rattle.wdl_structs.proofs.StandLaws.{from_is}
use Rattle.wdl_structs.proofs.StructLaws.{have_section}
use Rattle.wdl_structs.proofs.UniqueLaws.{given_named}
use Rattle.library_laws.specs.Laws.{AreOne, OneStruct, SomeRelates, UnlikeAreApart}
use Rattle.library_laws.specs.Relations.{Agrees, AllRelated, MembersEqual, NamesRelated, Relation, knows_members, member_known, section_known, struct_names}
use Rattle.library_laws.proofs.SeenSections.{is_seen, own_among, section_within, sees_same, sees_section}
use Rattle.library_laws.proofs.TypesByNames.{same_written, written_same}
use Rattle.wdl_base.proofs.Options.{all_at}

-- ---- related sections have equal members

module _ (docs : List Doc) (related : Relation) (k j : ℕ) (f g : List ℕ → List ℕ) (same : (n m : List ℕ) → NamesRelated docs related k n j m → f n ≡ g m) where
  names_stand : (ns ms : List (List ℕ)) → AllRelated docs related k ns j ms → map f ns ≡ map g ms
  names_stand [] [] h = refl
  names_stand [] (m ∷ ms) h = absurd h
  names_stand (n ∷ ns) [] h = absurd h
  names_stand (n ∷ ns) (m ∷ ms) h = ap (λ x. x ∷ map f ns) (same n m h.0) ∙ ap (λ xs. g m ∷ xs) (names_stand ns ms h.1)

  members_stand : (ms ns : List StructMember) → MembersEqual docs related k ms j ns → map (member_of f) ms ≡ map (member_of g) ns
  members_stand [] [] h = refl
  members_stand [] (n ∷ ns) h = absurd h
  members_stand (m ∷ ms) [] h = absurd h
  members_stand (m ∷ ms) (n ∷ ns) h =
      let name = h.0 in
      let type = written_same f g m.ty n.ty h.1.shapes (names_stand (struct_names m.ty) (struct_names n.ty) h.1.names) in
      let rest = members_stand ms ns h.2 in
      λ i. record { name = name i; ty = type i } ∷ rest i

-- Names of related sections stand for one name, where the names that stand for names agree along imports.
stand_same : (docs : List Doc) (related : Relation) → Agrees docs related → list_all (has_names docs) docs ≡ true → (label : Labels) → agrees label docs ≡ true
    → (k j : ℕ) (n m : List ℕ) → NamesRelated docs related k n j m → label k n ≡ label j m
stand_same docs related a named label g k j n m r =
    let left = sees_section docs r.left_number r.left r.sees_left.0 k n r.sees_left.1 in
    let right = sees_section docs r.right_number r.right r.sees_right.0 j m r.sees_right.1 in
    sees_same docs named k n r.left_number r.left r.sees_left label g
    ∙ a.one_name r.left_number r.right_number r.left r.right left right r.are_related label g
    ∙ sym (sees_same docs named j m r.right_number r.right r.sees_right label g)

pub unlike_apart : UnlikeAreApart
unlike_apart docs place u related a =
    false_from_ne_true (related u.first_number u.first u.second_number u.second) (λ is.
    u.differ (members_stand docs related u.first_number u.second_number (stand_at docs u.first_number) (stand_at docs u.second_number)
    (λ n m r. stand_same docs related a u.stood.named (stand_at docs) u.stood.agreeing u.first_number u.second_number n m r)
    u.first.members u.second.members (a.members u.first_number u.second_number u.first u.second u.is_first u.is_second is)))

-- ---- sections of one struct are related

-- the sections whose names stand for one name
abbrev standing : List Doc → Relation
standing docs k s j t = bytes_eq (stand_at docs k s.name.name) (stand_at docs j t.name.name)

module _ (docs : List Doc) (structs : List StructDef) (linked : list_all (has_links docs) docs ≡ true) (ends : has_no_circle docs ≡ true) (reached : AreReached docs) (h : HasStructs docs structs)
    (known : list_all knows_members docs ≡ true) where
  -- what stands for a name is of the same struct
  label_first : (k : ℕ) (n : List ℕ) → k < length docs → is_among n (names_at docs k) ≡ true → (label : Labels) → agrees label docs ≡ true → label k n ≡ label 0 (stand_at docs k n)
  label_first k n w a label g =
      let f = is_first docs (names_at docs) linked reached (given_named docs h.named) k n w a in
      sym (f.same label (sym (from_is label docs 0 docs) ∙ g))
      ∙ h.joined f.name label g
      ∙ ap (label 0) (f.same (stand_at docs) (sym (from_is (stand_at docs) docs 0 docs) ∙ h.agreeing))

  standing_same : (k j : ℕ) (s t : StructSection) → IsSection docs k s → IsSection docs j t → standing docs k s j t ≡ true → IsSameStruct docs k s.name.name j t.name.name
  standing_same k j s t a b e label g =
      label_first k s.name.name (section_within docs k s a) (own_among docs h.named k s a) label g
      ∙ ap (label 0) ((bytes_eq-Decides (stand_at docs k s.name.name) (stand_at docs j t.name.name)).0 e)
      ∙ sym (label_first j t.name.name (section_within docs j t b) (own_among docs h.named j t b) label g)

  section_members : (k : ℕ) (s : StructSection) → IsSection docs k s → members_at structs (stand_at docs k s.name.name) ≡ Some (members_of (stand_at docs k) s)
  section_members k s a =
      let q = contained (sections_of a.doc.document) s a.declared in
      let is : stand_at docs k ≡ stand_in a.doc.structs = ap (λ (o : Option Doc). stand_in (structs_of o)) a.at in
      subst (λ (f : List ℕ → List ℕ). members_at structs (f s.name.name) ≡ Some (members_of f s)) (sym is) (have_section structs docs k a.doc q.0 s h.sections a.at q.1)

  section_names : (k : ℕ) (s : StructSection) → IsSection docs k s → list_all (member_known (names_at docs k)) s.members ≡ true
  section_names k s a =
      let q = contained (sections_of a.doc.document) s a.declared in
      ap (λ (o : Option Doc). list_all (member_known (names_in (structs_of o))) s.members) a.at
      ∙ all_at (section_known (names_in a.doc.structs)) (sections_of a.doc.document) q.0 s (all_at knows_members docs k a.doc known a.at) q.1

  -- names that stand for one name are those of sections that stand for one name
  name_related : (k j : ℕ) (n m : List ℕ) → k < length docs → j < length docs → is_among n (names_at docs k) ≡ true → is_among m (names_at docs j) ≡ true
      → stand_at docs k n ≡ stand_at docs j m → NamesRelated docs (standing docs) k n j m
  name_related k j n m v w a b e =
      let l = is_seen docs h.named ends k n v a in
      let r = is_seen docs h.named ends j m w b in
      let left = sees_same docs h.named k n l.0 l.1 l.2 (stand_at docs) h.agreeing in
      let right = sees_same docs h.named j m r.0 r.1 r.2 (stand_at docs) h.agreeing in
      record {
        left_number = l.0;
        left = l.1;
        right_number = r.0;
        right = r.1;
        sees_left = l.2;
        sees_right = r.2;
        are_related = (bytes_eq-Decides (stand_at docs l.0 l.1.name.name) (stand_at docs r.0 r.1.name.name)).1 (sym left ∙ e ∙ right);
      }

  names_related : (k j : ℕ) → k < length docs → j < length docs → (ns ms : List (List ℕ)) → list_all (λ n. is_among n (names_at docs k)) ns ≡ true
      → list_all (λ m. is_among m (names_at docs j)) ms ≡ true → map (stand_at docs k) ns ≡ map (stand_at docs j) ms → AllRelated docs (standing docs) k ns j ms
  names_related k j v w [] [] a b e = tt
  names_related k j v w [] (m ∷ ms) a b e = absurd (none_left e)
    where
      none_left : [] ≡ stand_at docs j m ∷ map (stand_at docs j) ms → ⊥
      none_left q = cc
  names_related k j v w (n ∷ ns) [] a b e = absurd (none_left e)
    where
      none_left : stand_at docs k n ∷ map (stand_at docs k) ns ≡ [] → ⊥
      none_left q = cc
  names_related k j v w (n ∷ ns) (m ∷ ms) a b e =
      let p = and_parts (is_among n (names_at docs k)) (list_all (λ x. is_among x (names_at docs k)) ns) a in
      let q = and_parts (is_among m (names_at docs j)) (list_all (λ x. is_among x (names_at docs j)) ms) b in
      let parts = heads e in
      (name_related k j n m v w p.0 q.0 parts.0, names_related k j v w ns ms p.1 q.1 parts.1)
    where
      heads : stand_at docs k n ∷ map (stand_at docs k) ns ≡ stand_at docs j m ∷ map (stand_at docs j) ms
          → (stand_at docs k n ≡ stand_at docs j m) × (map (stand_at docs k) ns ≡ map (stand_at docs j) ms)
      heads x = ((cc), (cc))

  members_related : (k j : ℕ) → k < length docs → j < length docs → (ms ns : List StructMember) → list_all (member_known (names_at docs k)) ms ≡ true
      → list_all (member_known (names_at docs j)) ns ≡ true → map (member_of (stand_at docs k)) ms ≡ map (member_of (stand_at docs j)) ns → MembersEqual docs (standing docs) k ms j ns
  members_related k j v w [] [] a b e = tt
  members_related k j v w [] (n ∷ ns) a b e = absurd (none_left e)
    where
      none_left : [] ≡ member_of (stand_at docs j) n ∷ map (member_of (stand_at docs j)) ns → ⊥
      none_left q = cc
  members_related k j v w (m ∷ ms) [] a b e = absurd (none_left e)
    where
      none_left : member_of (stand_at docs k) m ∷ map (member_of (stand_at docs k)) ms ≡ [] → ⊥
      none_left q = cc
  members_related k j v w (m ∷ ms) (n ∷ ns) a b e =
      let p = and_parts (member_known (names_at docs k) m) (list_all (member_known (names_at docs k)) ms) a in
      let q = and_parts (member_known (names_at docs j) n) (list_all (member_known (names_at docs j)) ns) b in
      let parts = heads e in
      let types = same_written (stand_at docs k) (stand_at docs j) m.ty n.ty (ap (λ (x : Member). x.ty) parts.0) in (
        ap (λ (x : Member). x.name) parts.0,
        record { shapes = types.0; names = names_related k j v w (struct_names m.ty) (struct_names n.ty) p.0 q.0 types.1 },
        members_related k j v w ms ns p.1 q.1 parts.1,
      )
    where
      heads : member_of (stand_at docs k) m ∷ map (member_of (stand_at docs k)) ms ≡ member_of (stand_at docs j) n ∷ map (member_of (stand_at docs j)) ns
          → (member_of (stand_at docs k) m ≡ member_of (stand_at docs j) n) × (map (member_of (stand_at docs k)) ms ≡ map (member_of (stand_at docs j)) ns)
      heads x = ((cc), (cc))

  standing_agrees : Agrees docs (standing docs)
  standing_agrees = record {
    one_name = λ k j s t a b e. standing_same k j s t a b e;
    members = λ k j s t a b e.
        let same = (bytes_eq-Decides (stand_at docs k s.name.name) (stand_at docs j t.name.name)).0 e in
        members_related k j (section_within docs k s a) (section_within docs j t b) s.members t.members (section_names k s a) (section_names j t b)
        (some_list (members_of (stand_at docs k) s) (members_of (stand_at docs j) t) (sym (section_members k s a) ∙ ap (members_at structs) same ∙ section_members j t b));
  }
    where
      some_list : (ms ns : List Member) → Some ms ≡ Some ns → ms ≡ ns
      some_list ms ns q = cc

  one_related : (k j : ℕ) (s t : StructSection) → IsSection docs k s → IsSection docs j t → AreOne docs k s j t ↔ SomeRelates docs k s j t
  one_related k j s t a b = (
    λ e. (standing docs, standing_agrees, (bytes_eq-Decides (stand_at docs k s.name.name) (stand_at docs j t.name.name)).1 e),
    λ r. r.1.one_name k j s t a b r.2 (stand_at docs) h.agreeing,
  )

pub one_struct : OneStruct
one_struct files root docs structs lib known k j s t a b =
    let p = linked_parts docs lib.linked in
    one_related docs structs p.2 p.3 (are_reached files root docs lib.whole p.2) lib.named known k j s t a b
