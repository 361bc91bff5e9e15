-- The structs of documents.
use Rattle.std.proofs.Common.{◌≡◌, ℕ, zero, suc, ◌+◌, ◌<◌, Bool, true, false, not, List, [], ◌∷◌, ◌++◌, map, length, slice_get, Option, Some, refl, sym, ap, ◌∙◌, subst, arith, inl, inr}
use Rattle.std.specs.Prelude.{if◌then◌else◌, filter}
use Rattle.std.specs.List.{list_all}
use Rattle.std.specs.Str.{bytes_eq}
use Rattle.std.proofs.lemmas.Bool.{true≢false, false≢true, and_parts, or_left, or_right, or_cases, not-true, cond-true, cond-false, false_from_ne_true}
use Rattle.std.proofs.lemmas.Slice.Eq.{bytes_eq-Decides}
use Rattle.std.proofs.lemmas.Option.{same_Some, none-some}
use Rattle.wdl_base.specs.Names.{is_among}
use Rattle.wdl_typed.specs.Lists.{has_name, are_distinct}
use Rattle.wdl_value.specs.declared.ty.Member.{Member}
use Rattle.wdl_value.specs.declared.ty.StructDef.{StructDef}
use Rattle.wdl_ast.specs.declared.document.Alias.{Alias}
use Rattle.wdl_ast.specs.declared.document.Import.{Import}
use Rattle.wdl_ast.specs.declared.document.StructSection.{StructSection}
use Rattle.wdl_library.specs.declared.doc.Doc.{Doc}
use Rattle.wdl_library.specs.declared.doc.Link.{Link}
use Rattle.wdl_library.specs.declared.doc.StructName.{StructName}
use Rattle.wdl_library.specs.Sections.{imports_of, sections_of}
use Rattle.wdl_library.specs.Links.{links_in, ends_within, has_no_circle}
use Rattle.wdl_library.specs.Names.{once, given, given_for, own_names}
use Rattle.wdl_library.specs.Structs.{Labels, all_have, stand_in, members_of, members_at, AreSections, HaveSections, AreAlike}
use Rattle.wdl_structs.specs.Classes.{root}
use Rattle.wdl_structs.specs.Tables.{Names, NamesAt, imported_by, seen_by}
use Rattle.wdl_structs.specs.Nodes.{along_by, from_by}
use Rattle.wdl_structs.specs.Kept.{Kept, Has, AreDefs}
use Rattle.wdl_structs.proofs.NameLaws.{among_at, among_append, eq_itself, same_among}
use Rattle.wdl_structs.proofs.SeenLaws.{ends_at}
use Rattle.wdl_structs.proofs.IdentityLaws.{from_at, along_at, agrees_at}
use Rattle.wdl_base.proofs.Options.{item_there, all_at}

-- ---- each name is that of a section

among_filter : (n : List ℕ) (m : List ℕ) (ks : Names) → is_among n (filter (λ k. not (bytes_eq k m)) ks) ≡ true → is_among n ks ≡ true
among_filter n m [] h = h
among_filter n m (k ∷ ks) h = on (λ q. among_filter n m ks q) (bytes_eq k m) h
  where
    on : (is_among n (filter (λ x. not (bytes_eq x m)) ks) ≡ true → is_among n ks ≡ true) → (b : Bool)
        → is_among n (if not b then k ∷ filter (λ x. not (bytes_eq x m)) ks else filter (λ x. not (bytes_eq x m)) ks) ≡ true → is_among n (k ∷ ks) ≡ true
    on more true q = or_right (bytes_eq k n) (is_among n ks) (more q)
    on more false q = elim (or_cases (bytes_eq k n) (is_among n (filter (λ x. not (bytes_eq x m)) ks)) q) as (λ c. is_among n (k ∷ ks) ≡ true) [
      | inl e ↦ or_left (bytes_eq k n) (is_among n ks) e
      | inr e ↦ or_right (bytes_eq k n) (is_among n ks) (more e)
    ]

pub once_among : (n : List ℕ) (ns : Names) → is_among n (once ns) ≡ true → is_among n ns ≡ true
once_among n [] h = h
once_among n (m ∷ ms) h = elim (or_cases (bytes_eq m n) (is_among n (filter (λ k. not (bytes_eq k m)) (once ms))) h) as (λ c. is_among n (m ∷ ms) ≡ true) [
  | inl e ↦ or_left (bytes_eq m n) (is_among n ms) e
  | inr e ↦ or_right (bytes_eq m n) (is_among n ms) (once_among n ms (among_filter n m (once ms) e))
]

-- the section of an own name
pub own_section : (ss : List StructSection) (n : List ℕ) → is_among n (map (λ s. s.name.name) ss) ≡ true → (q : ℕ) × (t : StructSection) × (slice_get ss q ≡ Some t) × (t.name.name ≡ n)
own_section [] n h = absurd (false≢true h)
own_section (t ∷ ts) n h = elim (or_cases (bytes_eq t.name.name n) (is_among n (map (λ s. s.name.name) ts)) h) as (λ c. (q : ℕ) × (u : StructSection) × (slice_get (t ∷ ts) q ≡ Some u) × (u.name.name ≡ n)) [
  | inl e ↦ (0, t, refl, (bytes_eq-Decides t.name.name n).0 e)
  | inr e ↦ let r = own_section ts n e in (suc r.0, r.1, r.2, r.3)
]

-- the name for which an import gives a name
given_name : (aliases : List Alias) (ns : Names) (n : List ℕ) → is_among n (given aliases ns) ≡ true → (m : List ℕ) × (is_among m ns ≡ true) × (is_among n (given_for aliases m) ≡ true)
given_name aliases [] n h = absurd (false≢true h)
given_name aliases (m ∷ ms) n h = elim (or_cases (is_among n (given_for aliases m)) (is_among n (given aliases ms)) (sym (among_append n (given_for aliases m) (given aliases ms)) ∙ h))
    as (λ c. (k : List ℕ) × (is_among k (m ∷ ms) ≡ true) × (is_among n (given_for aliases k) ≡ true)) [
      | inl e ↦ (m, or_left (bytes_eq m m) (is_among m ms) (eq_itself m), e)
      | inr e ↦ let r = given_name aliases ms n e in (r.0, or_right (bytes_eq m r.0) (is_among r.0 ms) r.1, r.2)
    ]

pub imported_name : (names : NamesAt) (is : List Import) (ls : List Link) (n : List ℕ) → is_among n (imported_by names is ls) ≡ true
    → (q : ℕ) × (i : Import) × (l : Link) × (m : List ℕ) × (slice_get is q ≡ Some i) × (slice_get ls q ≡ Some l) × (is_among m (names l.doc) ≡ true) × (is_among n (given_for i.aliases m) ≡ true)
imported_name names [] ls n h = absurd (false≢true h)
imported_name names (i ∷ is) [] n h = absurd (false≢true h)
imported_name names (i ∷ is) (l ∷ ls) n h =
    elim (or_cases (is_among n (given i.aliases (names l.doc))) (is_among n (imported_by names is ls)) (sym (among_append n (given i.aliases (names l.doc)) (imported_by names is ls)) ∙ h))
    as (λ c. (q : ℕ) × (j : Import) × (k : Link) × (m : List ℕ) × (slice_get (i ∷ is) q ≡ Some j) × (slice_get (l ∷ ls) q ≡ Some k) × (is_among m (names k.doc) ≡ true) × (is_among n (given_for j.aliases m) ≡ true)) [
      | inl e ↦ let r = given_name i.aliases (names l.doc) n e in (0, i, l, r.0, refl, refl, r.1, r.2)
      | inr e ↦ let r = imported_name names is ls n e in (suc r.0, r.1, r.2, r.3, r.4, r.5, r.6, r.7)
    ]

pub have_at : (label : List ℕ → List ℕ) (x : List ℕ) (ns : Names) (n : List ℕ) → all_have label x ns ≡ true → is_among n ns ≡ true → label n ≡ x
have_at label x [] n h a = absurd (false≢true a)
have_at label x (m ∷ ms) n h a =
    let p = and_parts (bytes_eq (label m) x) (all_have label x ms) h in
    elim (or_cases (bytes_eq m n) (is_among n ms) a) as (λ c. label n ≡ x) [
      | inl e ↦ ap label (sym ((bytes_eq-Decides m n).0 e)) ∙ (bytes_eq-Decides (label m) x).0 p.0
      | inr e ↦ have_at label x ms n p.1 e
    ]

-- a section that declares the struct of a name
pub record IsDeclared (docs : List Doc) (names : NamesAt) (k : ℕ) (n : List ℕ) : Type 0 where
  pub number : ℕ
  pub doc : Doc
  pub at : slice_get docs number ≡ Some doc
  pub place : ℕ
  pub section : StructSection
  pub there : slice_get (sections_of doc.document) place ≡ Some section
  pub same : (label : Labels) → from_by label names 0 docs ≡ true → label k n ≡ label number section.name.name

module _ (docs : List Doc) (names : NamesAt) (seen : (k : ℕ) (d : Doc) → slice_get docs k ≡ Some d → names k ≡ seen_by names d) (empty : (k : ℕ) → (k < length docs → ⊥) → names k ≡ []) where
  declared_within : (m k : ℕ) (n : List ℕ) → ends_within m docs k ≡ true → is_among n (names k) ≡ true → IsDeclared docs names k n
  declared_within zero k n ends h = absurd (false≢true ends)
  declared_within (suc m) k n ends h = elim (Rattle.std.proofs.lemmas.Bool.cases_lt k (length docs)) as (λ c. IsDeclared docs names k n) [
    | inl w ↦
        let d = item_there docs k w in
        let is = imports_of d.0.document in
        let ls = d.0.imports in
        let a : is_among n (own_names d.0 ++ imported_by names is ls) ≡ true = once_among n (own_names d.0 ++ imported_by names is ls) (ap (is_among n) (sym (seen k d.0 d.1)) ∙ h) in
        elim (or_cases (is_among n (own_names d.0)) (is_among n (imported_by names is ls)) (sym (among_append n (own_names d.0) (imported_by names is ls)) ∙ a)) as (λ c. IsDeclared docs names k n) [
          | inl o ↦ let t = own_section (sections_of d.0.document) n o in
              record { number = k; doc = d.0; at = d.1; place = t.0; section = t.1; there = t.2; same = λ label f. ap (label k) (sym t.3) }
          | inr o ↦
              let g = imported_name names is ls n o in
              let walk : list_all (λ (x : Link). ends_within m docs x.doc) ls ≡ true = subst (λ (x : Option Doc). list_all (λ (y : Link). ends_within m docs y.doc) (links_in x) ≡ true) d.1 ends in
              let r = declared_within m g.2.doc g.3 (all_at (λ (x : Link). ends_within m docs x.doc) ls g.0 g.2 walk g.5) g.6 in
              let z : 0 + k ≡ k = omega arith in
              record {
                number = r.number;
                doc = r.doc;
                at = r.at;
                place = r.place;
                section = r.section;
                there = r.there;
                same = λ label f.
                    let along : along_by label names k is ls ≡ true = ap (λ x. along_by label names x is ls) (sym z) ∙ from_at label names 0 k docs d.0 f d.1 in
                    have_at (label k) (label g.2.doc g.3) (given_for g.1.aliases g.3) n (agrees_at label k g.2.doc g.1.aliases (names g.2.doc) g.3 (along_at label names k g.0 is ls g.1 g.2 along g.4 g.5) g.6) g.7
                    ∙ r.same label f;
              }
        ]
    | inr g ↦ absurd (false≢true (sym (ap (is_among n) (empty k (λ w. omega (arith, w, g)))) ∙ h))
  ]

  pub is_declared : (k : ℕ) (n : List ℕ) → has_no_circle docs ≡ true → k < length docs → is_among n (names k) ≡ true → IsDeclared docs names k n
  is_declared k n ends w h = declared_within (length docs) k n (ends_at (length docs) docs (length docs) k ends w) h

-- ---- the structs of names

-- the struct of a name has the members that are kept
pub defs_at : (parents : List ℕ) (kept : Kept) (x : ℕ) (ns : Names) (ds : List StructDef) (p : ℕ) (n : List ℕ) → AreDefs parents kept x ns ds → are_distinct ns ≡ true → slice_get ns p ≡ Some n
    → (ms : List Member) × (members_at ds n ≡ Some ms) × Has kept (root parents (x + p)) ms
defs_at parents kept x [] [] p n a d h = absurd (none-some n h)
defs_at parents kept x [] (e ∷ ds) p n a d h = absurd a
defs_at parents kept x (m ∷ ns) [] p n a d h = absurd a
defs_at parents kept x (m ∷ ns) (e ∷ ds) zero n a d h =
    let z : x ≡ x + 0 = omega arith in
    (e.members, cond-true (bytes_eq e.name n) _ _ ((bytes_eq-Decides e.name n).1 (a.0 ∙ same_Some m n h)), subst (λ y. Has kept (root parents y) e.members) z a.1)
defs_at parents kept x (m ∷ ns) (e ∷ ds) (suc p) n a d h =
    let q = and_parts (not (has_name m ns)) (are_distinct ns) d in
    let r = defs_at parents kept (suc x) ns ds p n a.2 q.1 h in
    let z : suc x + p ≡ x + suc p = omega arith in
    (r.0, cond-false (bytes_eq e.name n) _ _ (differ a.0 (not-true (has_name m ns) q.0)) ∙ r.1, subst (λ y. Has kept (root parents y) r.0) z r.2)
  where
    differ : e.name ≡ m → has_name m ns ≡ false → bytes_eq e.name n ≡ false
    differ i f = false_from_ne_true (bytes_eq e.name n) (λ t. true≢false (sym (among_at n ns p h) ∙ ap (λ y. is_among y ns) (sym ((bytes_eq-Decides e.name n).0 t) ∙ i) ∙ sym (same_among m ns) ∙ f))

pub defs_names : (parents : List ℕ) (kept : Kept) (x : ℕ) (ns : Names) (ds : List StructDef) → AreDefs parents kept x ns ds → map (λ s. s.name) ds ≡ ns
defs_names parents kept x [] [] a = refl
defs_names parents kept x [] (e ∷ ds) a = absurd a
defs_names parents kept x (m ∷ ns) [] a = absurd a
defs_names parents kept x (m ∷ ns) (e ∷ ds) a = let n = a.0 in let r = defs_names parents kept (suc x) ns ds a.2 in λ i. n i ∷ r i

-- ---- one list of structs

sections_at : (structs : List StructDef) (stand : List ℕ → List ℕ) (ss : List StructSection) (q : ℕ) (t : StructSection) → AreSections structs stand ss → slice_get ss q ≡ Some t
    → members_at structs (stand t.name.name) ≡ Some (members_of stand t)
sections_at structs stand [] q t a h = absurd (none-some t h)
sections_at structs stand (s ∷ ss) zero t a h = subst (λ (x : StructSection). members_at structs (stand x.name.name) ≡ Some (members_of stand x)) (same_Some s t h) a.0
sections_at structs stand (s ∷ ss) (suc q) t a h = sections_at structs stand ss q t a.1 h

pub have_section : (structs : List StructDef) (docs : List Doc) (k : ℕ) (d : Doc) (q : ℕ) (t : StructSection) → HaveSections structs docs → slice_get docs k ≡ Some d
    → slice_get (sections_of d.document) q ≡ Some t → members_at structs (stand_in d.structs t.name.name) ≡ Some (members_of (stand_in d.structs) t)
have_section structs [] k d q t a h g = absurd (none-some d h)
have_section structs (c ∷ ds) zero d q t a h g =
    let e = same_Some c d h in
    sections_at structs (stand_in d.structs) (sections_of d.document) q t (subst (λ (x : Doc). AreSections structs (stand_in x.structs) (sections_of x.document)) e a.0) g
have_section structs (c ∷ ds) (suc k) d q t a h g = have_section structs ds k d q t a.1 h g

pub alike_at : (structs : List StructDef) (ss : List StructName) (p : ℕ) (s : StructName) → AreAlike structs ss → slice_get ss p ≡ Some s → members_at structs s.name ≡ members_at structs s.stands_for
alike_at structs [] p s a h = absurd (none-some s h)
alike_at structs (x ∷ xs) zero s a h = subst (λ (y : StructName). members_at structs y.name ≡ members_at structs y.stands_for) (same_Some x s h) a.0
alike_at structs (x ∷ xs) (suc p) s a h = alike_at structs xs p s a.1 h

some_list : (ms ns : List Member) → Some ms ≡ Some ns → ms ≡ ns
some_list ms ns e = cc

pub defs_same : (xs bs : List StructDef) → map (λ s. s.name) xs ≡ map (λ s. s.name) bs → are_distinct (map (λ s. s.name) xs) ≡ true
    → ((n : List ℕ) → is_among n (map (λ s. s.name) xs) ≡ true → members_at xs n ≡ members_at bs n) → xs ≡ bs
defs_same [] [] e d h = refl
defs_same [] (b ∷ bs) e d h = absurd (none_left e)
  where
    none_left : [] ≡ b.name ∷ map (λ (s : StructDef). s.name) bs → ⊥
    none_left q = cc
defs_same (a ∷ xs) [] e d h = absurd (none_left e)
  where
    none_left : a.name ∷ map (λ (s : StructDef). s.name) xs ≡ [] → ⊥
    none_left q = cc
defs_same (a ∷ xs) (b ∷ bs) e d h =
    let heads = parts e in
    let q = and_parts (not (has_name a.name (map (λ s. s.name) xs))) (are_distinct (map (λ s. s.name) xs)) d in
    let rest = defs_same xs bs heads.1 q.1 (λ n i. tail n i (not-true (has_name a.name (map (λ s. s.name) xs)) q.0) heads.0) in
    let members : a.members ≡ b.members = some_list a.members b.members (
    sym (cond-true (bytes_eq a.name a.name) (Some a.members) (members_at xs a.name) (eq_itself a.name))
    ∙ h a.name (or_left (bytes_eq a.name a.name) (is_among a.name (map (λ s. s.name) xs)) (eq_itself a.name))
    ∙ cond-true (bytes_eq b.name a.name) (Some b.members) (members_at bs a.name) ((bytes_eq-Decides b.name a.name).1 (sym heads.0))) in
    let names = heads.0 in
    λ i. record { name = names i; members = members i } ∷ rest i
  where
    parts : a.name ∷ map (λ (s : StructDef). s.name) xs ≡ b.name ∷ map (λ (s : StructDef). s.name) bs → (a.name ≡ b.name) × (map (λ (s : StructDef). s.name) xs ≡ map (λ (s : StructDef). s.name) bs)
    parts q = ((cc), (cc))

    tail : (n : List ℕ) → is_among n (map (λ (s : StructDef). s.name) xs) ≡ true → has_name a.name (map (λ (s : StructDef). s.name) xs) ≡ false → a.name ≡ b.name → members_at xs n ≡ members_at bs n
    tail n i f k =
        let differ : bytes_eq a.name n ≡ false = false_from_ne_true (bytes_eq a.name n)
        (λ x. true≢false (sym i ∙ ap (λ y. is_among y (map (λ (s : StructDef). s.name) xs)) (sym ((bytes_eq-Decides a.name n).0 x)) ∙ sym (same_among a.name (map (λ (s : StructDef). s.name) xs)) ∙ f)) in
        sym (cond-false (bytes_eq a.name n) (Some a.members) (members_at xs n) differ) ∙ h n (or_right (bytes_eq a.name n) (is_among n (map (λ (s : StructDef). s.name) xs)) i)
        ∙ cond-false (bytes_eq b.name n) (Some b.members) (members_at bs n) (ap (λ y. bytes_eq y n) (sym k) ∙ differ)
