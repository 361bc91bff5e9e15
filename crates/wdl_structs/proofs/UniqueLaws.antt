-- Documents have their struct names and their structs in one way.
use Rattle.std.proofs.Common.{◌≡◌, ◌⊎◌, ℕ, zero, suc, ◌+◌, ◌<◌, ◌≤◌, Bool, true, false, not, ◌||◌, List, [], ◌∷◌, ◌++◌, map, length, get_or, slice_get, Option, Some, None, refl, sym, ap, ◌∙◌, subst, arith, inl, inr}
use Rattle.std.specs.Prelude.{if◌then◌else◌}
use Rattle.std.specs.List.{list_all}
use Rattle.std.specs.Str.{bytes_eq}
use Rattle.std.proofs.lemmas.Bool.{true≢false, false≢true, and_parts, or_left, or_right, or_cases, not-true, cond-true, cond-false, false_from_ne_true}
use Rattle.std.proofs.lemmas.Slice.Eq.{bytes_eq-Decides}
use Rattle.std.proofs.lemmas.Option.{same_Some, none-some}
use Rattle.wdl_base.specs.Names.{is_among}
use Rattle.wdl_typed.specs.Lists.{has_name, are_distinct}
use Rattle.wdl_ast.specs.declared.document.Import.{Import}
use Rattle.wdl_library.specs.declared.doc.Doc.{Doc}
use Rattle.wdl_library.specs.declared.doc.Link.{Link}
use Rattle.wdl_library.specs.declared.doc.StructName.{StructName}
use Rattle.wdl_library.specs.Sections.{imports_of}
use Rattle.wdl_library.specs.Links.{has_links, links_in, ends_within, has_no_circle}
use Rattle.wdl_library.specs.Names.{once, given, own_names, names_in, structs_of, structs_at, names_at, seen, has_names}
use Rattle.wdl_library.specs.Structs.{Labels, agrees, stand_in, stand_at, are_first}
use Rattle.wdl_structs.specs.Faults.{bare, AreSameDocs, AreStood}
use Rattle.wdl_links.specs.Circles.{AreReached}
use Rattle.wdl_structs.specs.Tables.{Names, NamesAt, imported_by, seen_by}
use Rattle.wdl_structs.specs.Nodes.{from_by}
use Rattle.wdl_structs.proofs.NameLaws.{among_at, among_place, eq_itself, same_among, one_place}
use Rattle.wdl_structs.proofs.SeenLaws.{ends_at}
use Rattle.wdl_structs.proofs.StandLaws.{bare_along, from_is, imported_is, names_eq-true, AreGiven}
use Rattle.wdl_structs.proofs.IdentityLaws.{distinct_once, is_first, given_from, some_or as within_or}
use Rattle.wdl_base.proofs.Options.{item_there, all_at}

-- ---- documents that differ in their names alone

pub same_get : (docs others : List Doc) (k : ℕ) (d : Doc) → AreSameDocs docs others → slice_get docs k ≡ Some d → (e : Doc) × (slice_get others k ≡ Some e) × (bare d ≡ bare e)
same_get [] others k d h at = absurd (none-some d at)
same_get (x ∷ xs) [] k d h at = absurd (none_left h)
  where
    none_left : bare x ∷ map bare xs ≡ [] → ⊥
    none_left q = cc
same_get (x ∷ xs) (y ∷ ys) zero d h at = (y, refl, ap bare (sym (same_Some x d at)) ∙ head h)
  where
    head : bare x ∷ map bare xs ≡ bare y ∷ map bare ys → bare x ≡ bare y
    head q = cc
same_get (x ∷ xs) (y ∷ ys) (suc k) d h at = same_get xs ys k d (tail h) at
  where
    tail : bare x ∷ map bare xs ≡ bare y ∷ map bare ys → map bare xs ≡ map bare ys
    tail q = cc

pub same_length : (docs others : List Doc) → AreSameDocs docs others → length docs ≡ length others
same_length [] [] h = refl
same_length [] (y ∷ ys) h = absurd (none_left h)
  where
    none_left : [] ≡ bare y ∷ map bare ys → ⊥
    none_left q = cc
same_length (x ∷ xs) [] h = absurd (none_left h)
  where
    none_left : bare x ∷ map bare xs ≡ [] → ⊥
    none_left q = cc
same_length (x ∷ xs) (y ∷ ys) h = ap suc (same_length xs ys (tail h))
  where
    tail : bare x ∷ map bare xs ≡ bare y ∷ map bare ys → map bare xs ≡ map bare ys
    tail q = cc

pub past : {A : Type 0} (xs : List A) (k : ℕ) → (k < length xs → ⊥) → slice_get xs k ≡ None
past [] k h = refl
past (x ∷ xs) zero h = absurd (h (omega arith))
past (x ∷ xs) (suc k) h = past xs k (λ b. h (more b))
  where
    more : k < length xs → suc k < length (x ∷ xs)
    more b = omega (arith, b)

-- ---- one list of names

pub seen_at : (docs : List Doc) (k : ℕ) (d : Doc) → list_all (has_names docs) docs ≡ true → slice_get docs k ≡ Some d → names_at docs k ≡ seen_by (names_at docs) d
seen_at docs k d h at =
    ap (λ (o : Option Doc). names_in (structs_of o)) at
    ∙ names_eq-true (names_in d.structs) (seen docs d) (all_at (has_names docs) docs k d h at)
    ∙ ap (λ r. once (own_names d ++ r)) (imported_is docs (imports_of d.document) d.imports)

same_imported : (f h : NamesAt) (test : ℕ → Bool) (is : List Import) (ls : List Link) → ((j : ℕ) → test j ≡ true → f j ≡ h j) → list_all (λ l. test l.doc) ls ≡ true → imported_by f is ls ≡ imported_by h is ls
same_imported f h test [] ls same m = refl
same_imported f h test (i ∷ is) [] same m = refl
same_imported f h test (i ∷ is) (l ∷ ls) same m =
    let p = and_parts (test l.doc) (list_all (λ x. test x.doc) ls) m in
    ap (λ ns. given i.aliases ns ++ imported_by f is ls) (same l.doc p.0) ∙ ap (λ r. given i.aliases (h l.doc) ++ r) (same_imported f h test is ls same p.1)

module _ (docs others : List Doc) (same : AreSameDocs docs others) where
  names_within : (n k : ℕ) → list_all (has_names docs) docs ≡ true → list_all (has_names others) others ≡ true → ends_within n docs k ≡ true → names_at docs k ≡ names_at others k
  names_within zero k h g ends = absurd (false≢true ends)
  names_within (suc n) k h g ends = elim (within_or docs k) as (λ c. names_at docs k ≡ names_at others k) [
    | inl l ↦
        let d = item_there docs k l in
        let e = same_get docs others k d.0 same d.1 in
        let b : seen_by (names_at others) d.0 ≡ seen_by (names_at others) e.0 = ap (λ (x : Doc). seen_by (names_at others) x) e.2 in
        let walk : list_all (λ (x : Link). ends_within n docs x.doc) d.0.imports ≡ true = subst (λ (o : Option Doc). list_all (λ (x : Link). ends_within n docs x.doc) (links_in o) ≡ true) d.1 ends in
        seen_at docs k d.0 h d.1
        ∙ ap (λ r. once (own_names d.0 ++ r)) (same_imported (names_at docs) (names_at others) (ends_within n docs) (imports_of d.0.document) d.0.imports (λ j w. names_within n j h g w) walk)
        ∙ b ∙ sym (seen_at others k e.0 g e.1)
    | inr m ↦ ap (λ (o : Option Doc). names_in (structs_of o)) (past docs k m ∙ sym (past others k (λ b. m (subst (λ x. k < x) (sym (same_length docs others same)) b))))
  ]

  pub one_names : has_no_circle docs ≡ true → list_all (has_names docs) docs ≡ true → list_all (has_names others) others ≡ true → names_at docs ≡ names_at others
  one_names ends h g = let r = (λ (k : ℕ). at k) in λ i k. r k i
    where
      at : (k : ℕ) → names_at docs k ≡ names_at others k
      at k = elim (within_or docs k) as (λ c. names_at docs k ≡ names_at others k) [
        | inl l ↦ names_within (length docs) k h g (ends_at (length docs) docs (length docs) k ends l)
        | inr m ↦ ap (λ (o : Option Doc). names_in (structs_of o)) (past docs k m ∙ sym (past others k (λ b. m (subst (λ x. k < x) (sym (same_length docs others same)) b))))
      ]

-- ---- one name that stands for each

-- what stands for the name at a place is at that place or before it
first_at : (before : Names) (ss : List StructName) (p : ℕ) (s : StructName) → are_first before ss ≡ true → slice_get ss p ≡ Some s
    → (is_among s.stands_for before ≡ true) ⊎ ((q : ℕ) × (q ≤ p) × (slice_get (names_in ss) q ≡ Some s.stands_for))
first_at before [] p s h at = absurd (none-some s at)
first_at before (x ∷ xs) zero s h at =
    let a : is_among s.stands_for (x.name ∷ before) ≡ true = ap (λ (y : StructName). is_among y.stands_for (x.name ∷ before)) (sym (same_Some x s at)) ∙ (and_parts (is_among x.stands_for (x.name ∷ before)) (are_first (x.name ∷ before) xs) h).0 in
    elim (or_cases (bytes_eq x.name s.stands_for) (is_among s.stands_for before) a) as (λ c. (is_among s.stands_for before ≡ true) ⊎ ((q : ℕ) × (q ≤ 0) × (slice_get (names_in (x ∷ xs)) q ≡ Some s.stands_for))) [
      | inl e ↦ inr (0, omega arith, ap Some ((bytes_eq-Decides x.name s.stands_for).0 e))
      | inr e ↦ inl e
    ]
first_at before (x ∷ xs) (suc p) s h at =
    elim (first_at (x.name ∷ before) xs p s (and_parts (is_among x.stands_for (x.name ∷ before)) (are_first (x.name ∷ before) xs) h).1 at)
    as (λ c. (is_among s.stands_for before ≡ true) ⊎ ((q : ℕ) × (q ≤ suc p) × (slice_get (names_in (x ∷ xs)) q ≡ Some s.stands_for))) [
      | inl a ↦ elim (or_cases (bytes_eq x.name s.stands_for) (is_among s.stands_for before) a) as (λ c. (is_among s.stands_for before ≡ true) ⊎ ((q : ℕ) × (q ≤ suc p) × (slice_get (names_in (x ∷ xs)) q ≡ Some s.stands_for))) [
        | inl e ↦ inr (0, omega arith, ap Some ((bytes_eq-Decides x.name s.stands_for).0 e))
        | inr e ↦ inl e
      ]
      | inr r ↦ inr (suc r.0, omega (arith, r.1), r.2)
    ]

pub stand_at_place : (ss : List StructName) (p : ℕ) (n : List ℕ) → are_distinct (names_in ss) ≡ true → slice_get (names_in ss) p ≡ Some n
    → (s : StructName) × (slice_get ss p ≡ Some s) × (s.name ≡ n) × (stand_in ss n ≡ s.stands_for)
stand_at_place [] p n d at = absurd (none-some n at)
stand_at_place (x ∷ xs) zero n d at = (x, refl, same_Some x.name n at, cond-true (bytes_eq x.name n) _ _ ((bytes_eq-Decides x.name n).1 (same_Some x.name n at)))
stand_at_place (x ∷ xs) (suc p) n d at =
    let q = and_parts (not (has_name x.name (names_in xs))) (are_distinct (names_in xs)) d in
    let r = stand_at_place xs p n q.1 at in
    (r.0, r.1, r.2, cond-false (bytes_eq x.name n) _ _ (differ (not-true (has_name x.name (names_in xs)) q.0)) ∙ r.3)
  where
    differ : has_name x.name (names_in xs) ≡ false → bytes_eq x.name n ≡ false
    differ f = false_from_ne_true (bytes_eq x.name n) (λ t. true≢false (sym (among_at n (names_in xs) p at) ∙ ap (λ y. is_among y (names_in xs)) (sym ((bytes_eq-Decides x.name n).0 t)) ∙ sym (same_among x.name (names_in xs)) ∙ f))

-- the place of what stands for a name is not behind that of the name
stand_before : (ss : List StructName) (p : ℕ) (n : List ℕ) → are_distinct (names_in ss) ≡ true → are_first [] ss ≡ true → slice_get (names_in ss) p ≡ Some n
    → (q : ℕ) × (q ≤ p) × (slice_get (names_in ss) q ≡ Some (stand_in ss n))
stand_before ss p n d f at =
    let s = stand_at_place ss p n d at in
    elim (first_at [] ss p s.0 f s.1) as (λ c. (q : ℕ) × (q ≤ p) × (slice_get (names_in ss) q ≡ Some (stand_in ss n))) [
      | inl a ↦ absurd (false≢true a)
      | inr r ↦ (r.0, r.1, r.2 ∙ ap Some (sym s.3))
    ]

one_stand : (ss ts : List StructName) (n : List ℕ) (p : ℕ) → are_distinct (names_in ss) ≡ true → names_in ss ≡ names_in ts → are_first [] ss ≡ true → are_first [] ts ≡ true
    → ((m : List ℕ) → stand_in ts m ≡ stand_in ts (stand_in ss m)) → ((m : List ℕ) → stand_in ss m ≡ stand_in ss (stand_in ts m))
    → slice_get (names_in ss) p ≡ Some n → stand_in ss n ≡ stand_in ts n
one_stand ss ts n p d e f g there back at =
    let dt : are_distinct (names_in ts) ≡ true = ap are_distinct (sym e) ∙ d in
    let a = stand_before ss p n d f at in
    let b = stand_before ts p n dt g (ap (λ (ns : Names). slice_get ns p) (sym e) ∙ at) in
    let c = stand_before ts a.0 (stand_in ss n) dt g (ap (λ (ns : Names). slice_get ns a.0) (sym e) ∙ a.2) in
    let h = stand_before ss b.0 (stand_in ts n) d f (ap (λ (ns : Names). slice_get ns b.0) e ∙ b.2) in
    let i : c.0 ≡ b.0 = one_place (names_in ts) (stand_in ts n) c.0 b.0 dt (c.2 ∙ ap Some (sym (there n))) b.2 in
    let j : h.0 ≡ a.0 = one_place (names_in ss) (stand_in ss n) h.0 a.0 d (h.2 ∙ ap Some (sym (back n))) a.2 in
    let k : a.0 ≡ b.0 = places a.0 b.0 c.0 h.0 i j c.1 h.1 in
    same_Some (stand_in ss n) (stand_in ts n) (sym a.2 ∙ ap (λ q. slice_get (names_in ss) q) k ∙ ap (λ (ns : Names). slice_get ns b.0) e ∙ b.2)
  where
    places : (a b c h : ℕ) → c ≡ b → h ≡ a → c ≤ a → h ≤ b → a ≡ b
    places a b c h i j k l = omega (arith, i, j, k, l)

structs_same : (ss ts : List StructName) → names_in ss ≡ names_in ts → are_distinct (names_in ss) ≡ true → ((n : List ℕ) → is_among n (names_in ss) ≡ true → stand_in ss n ≡ stand_in ts n) → ss ≡ ts
structs_same [] [] e d h = refl
structs_same [] (t ∷ ts) e d h = absurd (none_left e)
  where
    none_left : [] ≡ t.name ∷ names_in ts → ⊥
    none_left q = cc
structs_same (s ∷ ss) [] e d h = absurd (none_left e)
  where
    none_left : s.name ∷ names_in ss ≡ [] → ⊥
    none_left q = cc
structs_same (s ∷ ss) (t ∷ ts) e d h =
    let heads = parts e in
    let q = and_parts (not (has_name s.name (names_in ss))) (are_distinct (names_in ss)) d in
    let rest = structs_same ss ts heads.1 q.1 (λ n a. tail n a (not-true (has_name s.name (names_in ss)) q.0) heads.0) in
    let stands : s.stands_for ≡ t.stands_for =
    sym (cond-true (bytes_eq s.name s.name) s.stands_for (stand_in ss s.name) (eq_itself s.name)) ∙ h s.name (or_left (bytes_eq s.name s.name) (is_among s.name (names_in ss)) (eq_itself s.name))
    ∙ cond-true (bytes_eq t.name s.name) t.stands_for (stand_in ts s.name) ((bytes_eq-Decides t.name s.name).1 (sym heads.0)) in
    let names = heads.0 in
    λ i. record { name = names i; stands_for = stands i } ∷ rest i
  where
    parts : s.name ∷ names_in ss ≡ t.name ∷ names_in ts → (s.name ≡ t.name) × (names_in ss ≡ names_in ts)
    parts q = ((cc), (cc))

    tail : (n : List ℕ) → is_among n (names_in ss) ≡ true → has_name s.name (names_in ss) ≡ false → s.name ≡ t.name → stand_in ss n ≡ stand_in ts n
    tail n a f i =
        let differ : bytes_eq s.name n ≡ false = false_from_ne_true (bytes_eq s.name n)
        (λ x. true≢false (sym a ∙ ap (λ y. is_among y (names_in ss)) (sym ((bytes_eq-Decides s.name n).0 x)) ∙ sym (same_among s.name (names_in ss)) ∙ f)) in
        sym (cond-false (bytes_eq s.name n) s.stands_for (stand_in ss n) differ) ∙ h n (or_right (bytes_eq s.name n) (is_among n (names_in ss)) a)
        ∙ cond-false (bytes_eq t.name n) t.stands_for (stand_in ts n) (ap (λ y. bytes_eq y n) (sym i) ∙ differ)

docs_same : (docs others : List Doc) → AreSameDocs docs others → ((k : ℕ) → structs_at docs k ≡ structs_at others k) → docs ≡ others
docs_same [] [] e h = refl
docs_same [] (y ∷ ys) e h = absurd (none_left e)
  where
    none_left : [] ≡ bare y ∷ map bare ys → ⊥
    none_left q = cc
docs_same (x ∷ xs) [] e h = absurd (none_left e)
  where
    none_left : bare x ∷ map bare xs ≡ [] → ⊥
    none_left q = cc
docs_same (x ∷ xs) (y ∷ ys) e h =
    let p = parts e in
    let rest = docs_same xs ys p.1 (λ k. h (suc k)) in
    let path : x.path ≡ y.path = ap (λ (d : Doc). d.path) p.0 in
    let document : x.document ≡ y.document = ap (λ (d : Doc). d.document) p.0 in
    let imports : x.imports ≡ y.imports = ap (λ (d : Doc). d.imports) p.0 in
    let structs = h 0 in
    λ i. record { path = path i; document = document i; imports = imports i; structs = structs i } ∷ rest i
  where
    parts : bare x ∷ map bare xs ≡ bare y ∷ map bare ys → (bare x ≡ bare y) × (map bare xs ≡ map bare ys)
    parts q = ((cc), (cc))

pub distinct_at : (docs : List Doc) (k : ℕ) → list_all (has_names docs) docs ≡ true → are_distinct (names_at docs k) ≡ true
distinct_at docs k h = elim (within_or docs k) as (λ c. are_distinct (names_at docs k) ≡ true) [
  | inl l ↦ let d = item_there docs k l in ap are_distinct (seen_at docs k d.0 h d.1) ∙ distinct_once (own_names d.0 ++ imported_by (names_at docs) (imports_of d.0.document) d.0.imports)
  | inr m ↦ ap (λ (o : Option Doc). are_distinct (names_in (structs_of o))) (past docs k m)
]

pub given_named : (docs : List Doc) → list_all (has_names docs) docs ≡ true → AreGiven (names_at docs) 0 docs
given_named docs h = given_from (names_at docs) 0 docs (λ j d at. ap (names_at docs) (same j) ∙ seen_at docs j d h at)
  where
    same : (j : ℕ) → 0 + j ≡ j
    same j = omega arith

-- the documents have their struct names in one way
pub one_stood : (docs others : List Doc) → AreSameDocs docs others → list_all (has_links docs) docs ≡ true → has_no_circle docs ≡ true → AreReached docs
    → AreStood docs → AreStood others → docs ≡ others
one_stood docs others same linked ends reached a b = docs_same docs others same at
  where
    names : names_at docs ≡ names_at others
    names = one_names docs others same ends a.named b.named

    agrees_both : (label : Labels) → agrees label docs ≡ agrees label others
    agrees_both label =
        from_is label docs 0 docs ∙ ap (λ (f : NamesAt). from_by label f 0 docs) names ∙ bare_along label (names_at others) 0 docs others same ∙ sym (from_is label others 0 others)

    first : (n : List ℕ) → is_among n (names_at docs 0) ≡ true → stand_at docs 0 n ≡ stand_at others 0 n
    first n h = let p = among_place n (names_at docs 0) h in
        one_stand (structs_at docs 0) (structs_at others 0) n p.0 (distinct_at docs 0 a.named) (ap (λ (f : NamesAt). f 0) names) a.first b.first
        (λ m. a.joined m (stand_at others) (agrees_both (stand_at others) ∙ b.agreeing)) (λ m. b.joined m (stand_at docs) (sym (agrees_both (stand_at docs)) ∙ a.agreeing)) p.1

    stands : (k : ℕ) (n : List ℕ) → k < length docs → is_among n (names_at docs k) ≡ true → stand_at docs k n ≡ stand_at others k n
    stands k n w h =
        let f = is_first docs (names_at docs) linked reached (given_named docs a.named) k n w h in
        sym (f.same (stand_at docs) (sym (from_is (stand_at docs) docs 0 docs) ∙ a.agreeing)) ∙ first f.name f.there
        ∙ f.same (stand_at others) (sym (from_is (stand_at others) docs 0 docs) ∙ agrees_both (stand_at others) ∙ b.agreeing)

    at : (k : ℕ) → structs_at docs k ≡ structs_at others k
    at k = elim (within_or docs k) as (λ c. structs_at docs k ≡ structs_at others k) [
      | inl l ↦ structs_same (structs_at docs k) (structs_at others k) (ap (λ (f : NamesAt). f k) names) (distinct_at docs k a.named) (λ n h. stands k n l h)
      | inr m ↦ ap structs_of (past docs k m ∙ sym (past others k (λ b. m (subst (λ x. k < x) (sym (same_length docs others same)) b))))
    ]

pub stand_unknown : (ss : List StructName) (n : List ℕ) → is_among n (names_in ss) ≡ false → stand_in ss n ≡ n
stand_unknown [] n h = refl
stand_unknown (s ∷ ss) n h = on (stand_unknown ss n) (bytes_eq s.name n) h
  where
    on : (is_among n (names_in ss) ≡ false → stand_in ss n ≡ n) → (b : Bool) → b || is_among n (names_in ss) ≡ false → (if b then s.stands_for else stand_in ss n) ≡ n
    on more true q = absurd (true≢false q)
    on more false q = more q

-- what stands for the name at a place
pub stand_read : (ss : List StructName) (p : ℕ) (n : List ℕ) (s : StructName) → are_distinct (names_in ss) ≡ true → slice_get (names_in ss) p ≡ Some n → s ≡ get_or ss p s → s.stands_for ≡ stand_in ss n
stand_read ss p n s d at is =
    let r = stand_at_place ss p n d at in
    ap (λ (x : StructName). x.stands_for) (is ∙ read ss p r.0 s r.1) ∙ sym r.3
  where
    read : (xs : List StructName) (p : ℕ) (x d : StructName) → slice_get xs p ≡ Some x → get_or xs p d ≡ x
    read [] p x d h = absurd (none-some x h)
    read (y ∷ ys) zero x d h = same_Some y x h
    read (y ∷ ys) (suc p) x d h = read ys p x d h
