-- The answer of the call that finds the struct names and the structs.
use Rattle.std.proofs.Common.{◌≡◌, ◌≢◌, ◌↔◌, ℕ, zero, suc, ◌+◌, ◌<◌, true, false, List, [], ◌∷◌, map, length, slice_get, Option, Some, Ok, Err, refl, sym, ap, ◌∙◌, subst, arith, inl, inr}
use Rattle.std.specs.Prelude.{Contains}
use Rattle.std.specs.List.{list_all}
use Rattle.std.proofs.lemmas.Bool.{true≢false, and_parts, and_from}
use Rattle.std.proofs.lemmas.Option.{same_Some, none-some}
use Rattle.wdl_base.specs.declared.span.Span.{Span}
use Rattle.wdl_base.specs.Names.{is_among}
use Rattle.wdl_value.specs.declared.ty.Member.{Member}
use Rattle.wdl_value.specs.declared.ty.StructDef.{StructDef}
use Rattle.wdl_ast.specs.declared.document.Alias.{Alias}
use Rattle.wdl_ast.specs.declared.document.Import.{Import}
use Rattle.wdl_ast.specs.declared.document.StructSection.{StructSection}
use Rattle.wdl_library.specs.declared.doc.Doc.{Doc}
use Rattle.wdl_library.specs.declared.doc.Link.{Link}
use Rattle.wdl_library.specs.declared.doc.StructName.{StructName}
use Rattle.wdl_library.specs.Sections.{imports_of, sections_of}
use Rattle.wdl_library.specs.Links.{has_links, has_no_circle}
use Rattle.wdl_library.specs.Names.{own_names, are_known, structs_of, structs_at, names_at, has_names, knows_aliases}
use Rattle.wdl_library.specs.Structs.{Labels, agrees, stand_in, stand_at, members_of, members_at, AreSections, HaveSections, AreAlike}
use Rattle.wdl_links.specs.declared.fault.LinkFault.{LinkFault}
use Rattle.wdl_links.specs.declared.fault.LinkFault.TheVariants as fault
use Rattle.wdl_links.specs.Circles.{AreReached}
use Rattle.wdl_structs.specs.Ready.{IsFull, HasStructsBy, stood_by}
use Rattle.wdl_structs.specs.Classes.{Marks, root}
use Rattle.wdl_structs.specs.Faults.{bare, AreSameDocs, AreStood, HasUnknown, ImportUnknown, DocUnknown, AreUnlike, AreNamed, AreUnnamed, IsAnswer}
use Rattle.wdl_structs.specs.Tables.{Names, NamesAt, names_of, AreSeen, knows_by, all_know}
use Rattle.wdl_structs.specs.Nodes.{start, label_by, stands_from, from_by, all_among, AreClasses, all_stands, with_stands, mark_of}
use Rattle.wdl_structs.specs.Kept.{Kept, Has, LeadsTo, Keeps, KeepsFrom, DiffersIn, DiffersFrom, KeepsAll, AreDefs, AreFull, AreNamedBy}
use Rattle.wdl_structs.proofs.ClassLaws.{root_top, root_itself, by_roots}
use Rattle.wdl_structs.proofs.NameLaws.{among_at, among_place}
use Rattle.wdl_structs.proofs.NodeLaws.{label_at, no_names, room_at}
use Rattle.wdl_structs.proofs.StandLaws.{known_is, seen_own, stands_length, with_bare}
use Rattle.wdl_structs.proofs.IdentityLaws.{tables_distinct, all_seen, get_get, get_below, one_class, lead_first, named, names_named, stand_named, bare_named, structs_named, named_is, names_with, agrees_named, agreeing, first_named, joined_named, seen_named}
use Rattle.wdl_structs.proofs.UniqueLaws.{same_get, same_length, one_names, one_stood}
use Rattle.wdl_structs.proofs.SameLaws.{none_left, heads, same_linked, same_circle, same_reached}
use Rattle.wdl_structs.proofs.KeptLaws.{has_one}
use Rattle.wdl_structs.proofs.StructLaws.{is_declared, defs_at, defs_names, have_section}
use Rattle.wdl_base.proofs.Options.{item_there, all_at}

-- ---- sections that are kept

record IsOf (parents : List ℕ) (tables : List Names) (docs : List Doc) (k : ℕ) (j : ℕ) : Type 0 where
  number : ℕ
  doc : Doc
  at : slice_get docs number ≡ Some doc
  place : ℕ
  section : StructSection
  there : slice_get (sections_of doc.document) place ≡ Some section
  leads : LeadsTo parents (start tables (k + number)) (names_of tables (k + number)) section.name.name j

keeps_in : (parents : List ℕ) (x : ℕ) (ns : Names) (stand : List ℕ → List ℕ) (ts : List StructSection) (j : ℕ) (ms : List Member) → Keeps parents x ns stand ts j ms
    → (q : ℕ) × (t : StructSection) × (slice_get ts q ≡ Some t) × LeadsTo parents x ns t.name.name j × (ms ≡ members_of stand t)
keeps_in parents x ns stand [] j ms h = absurd h
keeps_in parents x ns stand (t ∷ ts) j ms (inl h) = (0, t, refl, h.0, h.1)
keeps_in parents x ns stand (t ∷ ts) j ms (inr h) = let r = keeps_in parents x ns stand ts j ms h in (suc r.0, r.1, r.2, r.3, r.4)

keeps_from : (parents : List ℕ) (tables : List Names) (k : ℕ) (ds : List Doc) (j : ℕ) (ms : List Member) → KeepsFrom parents tables k ds j ms
    → (o : IsOf parents tables ds k j) × (ms ≡ members_of (stand_in o.doc.structs) o.section)
keeps_from parents tables k [] j ms h = absurd h
keeps_from parents tables k (d ∷ ds) j ms (inl h) =
    let r = keeps_in parents (start tables k) (names_of tables k) (stand_in d.structs) (sections_of d.document) j ms h in
    let e : k ≡ k + 0 = omega arith in
    (record { number = 0; doc = d; at = refl; place = r.0; section = r.1; there = r.2; leads = subst (λ n. LeadsTo parents (start tables n) (names_of tables n) r.1.name.name j) e r.3 }, r.4)
keeps_from parents tables k (d ∷ ds) j ms (inr h) =
    let r = keeps_from parents tables (suc k) ds j ms h in
    let o = r.0 in
    let e : suc k + o.number ≡ k + suc o.number = omega arith in
    (record { number = suc o.number; doc = o.doc; at = o.at; place = o.place; section = o.section; there = o.there; leads = subst (λ n. LeadsTo parents (start tables n) (names_of tables n) o.section.name.name j) e o.leads }, r.1)

differs_in : (parents : List ℕ) (x : ℕ) (ns : Names) (stand : List ℕ → List ℕ) (ts : List StructSection) (s : Span) (j : ℕ) (ms : List Member) → DiffersIn parents x ns stand ts s j ms
    → (q : ℕ) × (t : StructSection) × (slice_get ts q ≡ Some t) × LeadsTo parents x ns t.name.name j × (ms ≢ members_of stand t) × (s ≡ t.name.span)
differs_in parents x ns stand [] s j ms h = absurd h
differs_in parents x ns stand (t ∷ ts) s j ms (inl h) = (0, t, refl, h.0, h.1, h.2)
differs_in parents x ns stand (t ∷ ts) s j ms (inr h) = let r = differs_in parents x ns stand ts s j ms h in (suc r.0, r.1, r.2, r.3, r.4, r.5)

differs_from : (parents : List ℕ) (tables : List Names) (k : ℕ) (ds : List Doc) (s : Span) (j : ℕ) (ms : List Member) → DiffersFrom parents tables k ds s j ms
    → (o : IsOf parents tables ds k j) × (ms ≢ members_of (stand_in o.doc.structs) o.section) × (s ≡ o.section.name.span)
differs_from parents tables k [] s j ms h = absurd h
differs_from parents tables k (d ∷ ds) s j ms (inl h) =
    let r = differs_in parents (start tables k) (names_of tables k) (stand_in d.structs) (sections_of d.document) s j ms h in
    let e : k ≡ k + 0 = omega arith in
    (record { number = 0; doc = d; at = refl; place = r.0; section = r.1; there = r.2; leads = subst (λ n. LeadsTo parents (start tables n) (names_of tables n) r.1.name.name j) e r.3 }, r.4, r.5)
differs_from parents tables k (d ∷ ds) s j ms (inr h) =
    let r = differs_from parents tables (suc k) ds s j ms h in
    let o = r.0 in
    let e : suc k + o.number ≡ k + suc o.number = omega arith in
    (record { number = suc o.number; doc = o.doc; at = o.at; place = o.place; section = o.section; there = o.there; leads = subst (λ n. LeadsTo parents (start tables n) (names_of tables n) o.section.name.name j) e o.leads }, r.1, r.2)

keeps_there : (parents : List ℕ) (x : ℕ) (ns : Names) (stand : List ℕ → List ℕ) (ts : List StructSection) (q : ℕ) (t : StructSection) (j : ℕ) → slice_get ts q ≡ Some t
    → LeadsTo parents x ns t.name.name j → Keeps parents x ns stand ts j (members_of stand t)
keeps_there parents x ns stand [] q t j h l = absurd (none-some t h)
keeps_there parents x ns stand (u ∷ ts) zero t j h l =
    subst (λ (y : StructSection). Keeps parents x ns stand (y ∷ ts) j (members_of stand t)) (sym (same_Some u t h)) (inl (l, refl))
keeps_there parents x ns stand (u ∷ ts) (suc q) t j h l = inr (keeps_there parents x ns stand ts q t j h l)

from_there : (parents : List ℕ) (tables : List Names) (k : ℕ) (ds : List Doc) (i : ℕ) (d : Doc) (q : ℕ) (t : StructSection) (j : ℕ) → slice_get ds i ≡ Some d
    → slice_get (sections_of d.document) q ≡ Some t → LeadsTo parents (start tables (k + i)) (names_of tables (k + i)) t.name.name j → KeepsFrom parents tables k ds j (members_of (stand_in d.structs) t)
from_there parents tables k [] i d q t j h g l = absurd (none-some d h)
from_there parents tables k (c ∷ ds) zero d q t j h g l =
    let e : k + 0 ≡ k = omega arith in
    subst (λ (y : Doc). KeepsFrom parents tables k (y ∷ ds) j (members_of (stand_in d.structs) t)) (sym (same_Some c d h))
    (inl (keeps_there parents (start tables k) (names_of tables k) (stand_in d.structs) (sections_of d.document) q t j g (subst (λ n. LeadsTo parents (start tables n) (names_of tables n) t.name.name j) e l)))
from_there parents tables k (c ∷ ds) (suc i) d q t j h g l =
    let e : k + suc i ≡ suc k + i = omega arith in
    inr (from_there parents tables (suc k) ds i d q t j h g (subst (λ n. LeadsTo parents (start tables n) (names_of tables n) t.name.name j) e l))

-- ---- what holds of each

pub contains_at : {A : Type 0} (xs : List A) (q : ℕ) (x : A) → slice_get xs q ≡ Some x → Contains xs x
contains_at [] q x h = absurd (none-some x h)
contains_at (y ∷ ys) zero x h = (0, omega arith, same_Some y x h)
contains_at (y ∷ ys) (suc q) x h = let r = contains_at ys q x h in (suc r.0, omega (arith, r.1), r.2)

sections_all : (structs : List StructDef) (stand : List ℕ → List ℕ) (ss : List StructSection)
    → ((q : ℕ) (t : StructSection) → slice_get ss q ≡ Some t → members_at structs (stand t.name.name) ≡ Some (members_of stand t)) → AreSections structs stand ss
sections_all structs stand [] h = tt
sections_all structs stand (s ∷ ss) h = (h 0 s refl, sections_all structs stand ss (λ q t at. h (suc q) t at))

have_all : (structs : List StructDef) (docs : List Doc)
    → ((k : ℕ) (d : Doc) (q : ℕ) (t : StructSection) → slice_get docs k ≡ Some d → slice_get (sections_of d.document) q ≡ Some t → members_at structs (stand_in d.structs t.name.name) ≡ Some (members_of (stand_in d.structs) t))
    → HaveSections structs docs
have_all structs [] h = tt
have_all structs (d ∷ ds) h = (sections_all structs (stand_in d.structs) (sections_of d.document) (λ q t g. h 0 d q t refl g), have_all structs ds (λ k c q t at g. h (suc k) c q t at g))

alike_all : (structs : List StructDef) (g : Marks) (x : ℕ) (ns : Names) → ((p : ℕ) (n : List ℕ) → slice_get ns p ≡ Some n → members_at structs n ≡ members_at structs (g (x + p))) → AreAlike structs (stands_from g x ns)
alike_all structs g x [] h = tt
alike_all structs g x (n ∷ ns) h =
    let e : x + 0 ≡ x = omega arith in
    (h 0 n refl ∙ ap (λ y. members_at structs (g y)) e, alike_all structs g (suc x) ns (λ p m at. h (suc p) m at ∙ ap (λ y. members_at structs (g y)) (moved p)))
  where
    moved : (p : ℕ) → x + suc p ≡ suc x + p
    moved p = omega arith

-- an alias that is unknown is not known
unknown_one : (ns : Names) (aliases : List Alias) (s : Span) → HasUnknown ns aliases s → are_known ns aliases ≡ true → ⊥
unknown_one ns [] s h k = h
unknown_one ns (a ∷ more) s (inl h) k = true≢false (sym (and_parts (is_among a.from.name ns) (are_known ns more) k).0 ∙ h.0)
unknown_one ns (a ∷ more) s (inr h) k = unknown_one ns more s h (and_parts (is_among a.from.name ns) (are_known ns more) k).1

unknown_import : (names : NamesAt) (is : List Import) (ls : List Link) (s : Span) → ImportUnknown names is ls s → knows_by names is ls ≡ true → ⊥
unknown_import names [] ls s h k = h
unknown_import names (i ∷ is) [] s h k = h
unknown_import names (i ∷ is) (l ∷ ls) s (inl h) k = unknown_one (names l.doc) i.aliases s h (and_parts (are_known (names l.doc) i.aliases) (knows_by names is ls) k).0
unknown_import names (i ∷ is) (l ∷ ls) s (inr h) k = unknown_import names is ls s h (and_parts (are_known (names l.doc) i.aliases) (knows_by names is ls) k).1

-- ---- aliases that are unknown

abbrev blank : Marks
blank x = []

-- the documents with the names that they see, whatever stands for them
abbrev plain_docs : List Doc → List Names → List Doc
plain_docs docs tables = with_stands docs (all_stands blank 0 tables)

pub unknown_named : (docs : List Doc) (tables : List Names) (s : Span) → list_all (has_links docs) docs ≡ true → has_no_circle docs ≡ true → AreSeen docs tables → DocUnknown (names_of tables) docs s
    → AreUnnamed docs 206 s
unknown_named docs tables s linked ends seen u = record {
  named = plain_docs docs tables;
  same = same;
  fault_is = inl (
    refl,
    record {
      named = plain_seen;
      unknown = (
        k,
        e.0,
        e.1,
        subst (λ (f : NamesAt). ImportUnknown f (imports_of e.0.document) e.0.imports s) (sym plain_names)
            (subst (λ (x : Doc). ImportUnknown (names_of tables) (imports_of x.document) x.imports s) e.2 u.3),
      );
    },
  );
  none = none;
}
  where
    same : AreSameDocs docs (plain_docs docs tables)
    same = with_bare docs (all_stands blank 0 tables) (stands_length blank 0 tables ∙ seen.0)

    plain_names : names_at (plain_docs docs tables) ≡ names_of tables
    plain_names = names_with blank docs tables seen.0

    plain_seen : list_all (has_names (plain_docs docs tables)) (plain_docs docs tables) ≡ true
    plain_seen = all_seen (names_of tables) (plain_docs docs tables) plain_names blank 0 docs tables seen.0 seen.1

    k : ℕ
    k = u.0

    e : (e : Doc) × (slice_get (plain_docs docs tables) k ≡ Some e) × (bare u.1 ≡ bare e)
    e = same_get docs (plain_docs docs tables) k u.1 same u.2

    none : (others : List Doc) (structs : List StructDef) → AreNamed docs others structs → ⊥
    none others structs a =
        let both : AreSameDocs (plain_docs docs tables) others = sym same ∙ a.same in
        let names = one_names (plain_docs docs tables) others both (sym (same_circle docs (plain_docs docs tables) same) ∙ ends) plain_seen a.structs_are.named in
        let c = same_get docs others k u.1 a.same u.2 in
        unknown_import (names_of tables) (imports_of c.0.document) c.0.imports s (subst (λ (x : Doc). ImportUnknown (names_of tables) (imports_of x.document) x.imports s) c.2 u.3)
        (ap (λ (f : NamesAt). knows_by f (imports_of c.0.document) c.0.imports) (sym plain_names ∙ names) ∙ sym (known_is others (imports_of c.0.document) c.0.imports)
        ∙ all_at (knows_aliases others) others k c.0 a.aliases c.1)

-- ---- the names that stand for names, and the members

module _ (docs : List Doc) (tables : List Names) (starts parents : List ℕ) (linked : list_all (has_links docs) docs ≡ true) (ends : has_no_circle docs ≡ true) (reached : AreReached docs)
    (s : AreSeen docs tables) (c : AreClasses docs tables starts parents) where
  abbrev pub whole : List Doc
  whole = named docs tables starts parents linked reached s c

  abbrev pub first : Names
  first = names_of tables 0

  same : AreSameDocs docs whole
  same = bare_named docs tables starts parents linked reached s c

  names_are : names_at whole ≡ names_of tables
  names_are = names_named docs tables starts parents linked reached s c

  stood : AreStood whole
  stood = record {
    named = seen_named docs tables starts parents linked reached s c;
    agreeing = agreeing docs tables starts parents linked reached s c;
    first = first_named docs tables starts parents linked reached s c;
    joined = joined_named docs tables starts parents linked reached s c;
  }

  -- what the members are kept by
  pub named_by : AreNamedBy whole tables parents
  named_by = record {
    tables_len = s.0 ∙ same_length docs whole same;
    names = names_are;
    distinct = tables_distinct docs tables s;
    own = own;
    len = c.len;
    low = c.low;
    lead = lead_first docs tables starts parents linked reached s c;
  }
    where
      own : (k : ℕ) (d : Doc) → slice_get whole k ≡ Some d → all_among (names_of tables k) (own_names d) ≡ true
      own k d at =
          let e = same_get whole docs k d (sym same) at in
          ap (λ (x : Doc). all_among (names_of tables k) (own_names x)) e.2 ∙ ap (λ ns. all_among ns (own_names e.0)) (s.1 k e.0 e.1) ∙ seen_own (names_of tables) e.0

  start_first : start tables 0 ≡ 0
  start_first = zero_ tables
    where
      zero_ : (ts : List Names) → start ts 0 ≡ 0
      zero_ [] = refl
      zero_ (t ∷ ts) = refl

  -- a name by its place
  stands : (k p : ℕ) (n : List ℕ) → slice_get (names_of tables k) p ≡ Some n → stand_at whole k n ≡ mark_of first parents (start tables k + p)
  stands k p n h = ap (λ (l : Labels). l k n) (stand_named docs tables starts parents linked reached s c) ∙ label_at (mark_of first parents) (start tables k) (names_of tables k) n p (tables_distinct docs tables s k) h

  within : (k p : ℕ) (n : List ℕ) → slice_get (names_of tables k) p ≡ Some n → start tables k + p < length parents
  within k p n h = elim (Rattle.std.proofs.lemmas.Bool.cases_lt k (length tables)) as (λ x. start tables k + p < length parents) [
    | inl l ↦ let r = room_at tables k l in let b = get_below (names_of tables k) p n h in let e = c.len in omega (arith, r, b, e)
    | inr g ↦ absurd (none-some n (ap (λ (ns : Names). slice_get ns p) (sym (no_names tables k (λ l. omega (arith, l, g)))) ∙ h))
  ]

  -- the name of document 0 that stands for a name
  lead_name : (k p : ℕ) (n : List ℕ) → slice_get (names_of tables k) p ≡ Some n
      → (m : List ℕ) × (slice_get first (root parents (start tables k + p)) ≡ Some m) × (stand_at whole k n ≡ m)
  unfolding mark_of
  lead_name k p n h =
      let m = item_there first (root parents (start tables k + p)) (lead_first docs tables starts parents linked reached s c (start tables k + p) (within k p n h)) in
      (m.0, m.1, stands k p n h ∙ get_get first (root parents (start tables k + p)) m.0 [] m.1)

  -- the place of the name of a section
  section_place : (k : ℕ) (d : Doc) (q : ℕ) (t : StructSection) → slice_get whole k ≡ Some d → slice_get (sections_of d.document) q ≡ Some t
      → (p : ℕ) × (slice_get (names_of tables k) p ≡ Some t.name.name)
  section_place k d q t at g = among_place t.name.name (names_of tables k) (own_at (sections_of d.document) q t (named_by.own k d at) g)
    where
      own_at : (ss : List StructSection) (q : ℕ) (t : StructSection) → all_among (names_of tables k) (map (λ x. x.name.name) ss) ≡ true → slice_get ss q ≡ Some t → is_among t.name.name (names_of tables k) ≡ true
      own_at [] q t a h = absurd (none-some t h)
      own_at (u ∷ us) zero t a h = subst (λ (x : StructSection). is_among x.name.name (names_of tables k) ≡ true) (same_Some u t h) (and_parts (is_among u.name.name (names_of tables k)) (all_among (names_of tables k) (map (λ x. x.name.name) us)) a).0
      own_at (u ∷ us) (suc q) t a h = own_at us q t (and_parts (is_among u.name.name (names_of tables k)) (all_among (names_of tables k) (map (λ x. x.name.name) us)) a).1 h

  stand_of : (k : ℕ) (d : Doc) (n : List ℕ) → slice_get whole k ≡ Some d → stand_at whole k n ≡ stand_in d.structs n
  stand_of k d n at = ap (λ (o : Option Doc). stand_in (structs_of o) n) at

  module _ (kept : Kept) (has : (j : ℕ) (x : List Member) → Has kept j x ↔ KeepsFrom parents tables 0 whole j x) where
    kept_at : (k : ℕ) (d : Doc) (q : ℕ) (t : StructSection) (p : ℕ) → slice_get whole k ≡ Some d → slice_get (sections_of d.document) q ≡ Some t → slice_get (names_of tables k) p ≡ Some t.name.name
        → Has kept (root parents (start tables k + p)) (members_of (stand_in d.structs) t)
    kept_at k d q t p at g h =
        let z : 0 + k ≡ k = omega arith in
        (has (root parents (start tables k + p)) (members_of (stand_in d.structs) t)).1
        (from_there parents tables 0 whole k d q t (root parents (start tables k + p)) at g (subst (λ x. LeadsTo parents (start tables x) (names_of tables x) t.name.name (root parents (start tables k + p))) (sym z) (p, h, refl)))

    pub full : AreFull parents kept first
    full x w =
        let n = item_there first x w in
        let known : (k : ℕ) → (k < length docs → ⊥) → names_of tables k ≡ [] = (λ k g. no_names tables k (λ l. g (subst (λ m. k < m) s.0 l))) in
        let some : 0 < length docs = subst (λ m. 0 < m) s.0 (has_tables x w) in
        let d = is_declared docs (names_of tables) s.1 known 0 n.0 ends some (among_at n.0 first x n.1) in
        let e = same_get docs whole d.number d.doc same d.at in
        let g : slice_get (sections_of e.0.document) d.place ≡ Some d.section = subst (λ (y : Doc). slice_get (sections_of y.document) d.place ≡ Some d.section) e.2 d.there in
        let p = section_place d.number e.0 d.place d.section e.1 g in
        let agree : from_by (label_by tables (λ i. root parents i ∷ [])) (names_of tables) 0 docs ≡ true = (c.follows (λ i. root parents i ∷ [])).0 (by_roots parents (λ r. r ∷ []) c.low) in
        let one : (root parents (start tables 0 + x) ∷ []) ≡ (root parents (start tables d.number + p.0) ∷ []) =
        sym (label_at (λ i. root parents i ∷ []) (start tables 0) first n.0 x (tables_distinct docs tables s 0) n.1)
        ∙ d.same (label_by tables (λ i. root parents i ∷ [])) agree
        ∙ label_at (λ i. root parents i ∷ []) (start tables d.number) (names_of tables d.number) d.section.name.name p.0 (tables_distinct docs tables s d.number) p.1 in
        let z : start tables 0 + x ≡ x = ap (λ y. y + x) start_first ∙ zero_ x in
        (members_of (stand_in e.0.structs) d.section, subst (λ y. Has kept y (members_of (stand_in e.0.structs) d.section)) (sym (head _ _ one) ∙ ap (root parents) z) (kept_at d.number e.0 d.place d.section p.0 e.1 g p.1))
      where
        head : (a b : ℕ) → a ∷ [] ≡ b ∷ [] → a ≡ b
        head a b e = cc

        zero_ : (y : ℕ) → 0 + y ≡ y
        zero_ y = omega arith

        has_tables : (x : ℕ) → x < length first → 0 < length tables
        has_tables x w = some_table tables w
          where
            some_table : (ts : List Names) → x < length (names_of ts 0) → 0 < length ts
            some_table [] w = absurd (omega (arith, w))
            some_table (t ∷ ts) w = omega arith

    pub all_named : (structs : List StructDef) → all_know (names_of tables) docs ≡ true → AreDefs parents kept 0 first structs → AreNamed docs whole structs
    all_named structs known defs = record {
      same = same;
      aliases = knows docs whole same known;
      structs_are = record {
        named = stood.named;
        agreeing = stood.agreeing;
        first = stood.first;
        joined = stood.joined;
        names = defs_names parents kept 0 first structs defs ∙ sym (ap (λ (f : NamesAt). f 0) names_are);
        sections = have_all structs whole section;
        alike = alike;
      };
    }
      where
        knows : (ds es : List Doc) → AreSameDocs ds es → all_know (names_of tables) ds ≡ true → list_all (knows_aliases whole) es ≡ true
        knows [] [] h k = refl
        knows [] (y ∷ ys) h k = absurd (none_left (bare y) (map bare ys) h)
        knows (x ∷ xs) [] h k = refl
        knows (x ∷ xs) (y ∷ ys) h k =
            let p = heads x y xs ys h in
            let q = and_parts (knows_by (names_of tables) (imports_of x.document) x.imports) (all_know (names_of tables) xs) k in
            and_from (knows_aliases whole y) (list_all (knows_aliases whole) ys)
            (known_is whole (imports_of y.document) y.imports ∙ ap (λ (f : NamesAt). knows_by f (imports_of y.document) y.imports) names_are
            ∙ ap (λ (d : Doc). knows_by (names_of tables) (imports_of d.document) d.imports) (sym p.0) ∙ q.0)
            (knows xs ys p.1 q.1)

        zero_ : (y : ℕ) → 0 + y ≡ y
        zero_ y = omega arith

        -- the members of a name of document 0
        by_place : (p : ℕ) (n : List ℕ) → slice_get first p ≡ Some n → (ms : List Member) × (members_at structs n ≡ Some ms) × Has kept (root parents p) ms
        by_place p n h = let r = defs_at parents kept 0 first structs p n defs (tables_distinct docs tables s 0) h in (r.0, r.1, subst (λ y. Has kept (root parents y) r.0) (zero_ p) r.2)

        top : (x : ℕ) → root parents (root parents x) ≡ root parents x
        top x = root_itself parents (root parents x) (root_top parents x c.low)

        section : (k : ℕ) (d : Doc) (q : ℕ) (t : StructSection) → slice_get whole k ≡ Some d → slice_get (sections_of d.document) q ≡ Some t
            → members_at structs (stand_in d.structs t.name.name) ≡ Some (members_of (stand_in d.structs) t)
        section k d q t at g =
            let p = section_place k d q t at g in
            let m = lead_name k p.0 t.name.name p.1 in
            let r = by_place (root parents (start tables k + p.0)) m.0 m.1 in
            let e = has_one kept (root parents (start tables k + p.0)) r.0 (members_of (stand_in d.structs) t)
            (subst (λ y. Has kept y r.0) (top (start tables k + p.0)) r.2) (kept_at k d q t p.0 at g p.1) in
            ap (members_at structs) (sym (stand_of k d t.name.name at) ∙ m.2) ∙ r.1 ∙ ap (λ (x : List Member). Some x) e

        alike : AreAlike structs (structs_at whole 0)
        alike = subst (λ (ss : List StructName). AreAlike structs ss) (sym (structs_named docs tables starts parents linked reached s c 0)) (alike_all structs (mark_of first parents) (start tables 0) first one)
          where
            one : (p : ℕ) (n : List ℕ) → slice_get first p ≡ Some n → members_at structs n ≡ members_at structs (mark_of first parents (start tables 0 + p))
            one p n h =
                let z : start tables 0 + p ≡ p = ap (λ y. y + p) start_first ∙ zero_ p in
                let m = lead_name 0 p n h in
                let a = by_place p n h in
                let b = by_place (root parents (start tables 0 + p)) m.0 m.1 in
                let e = has_one kept (root parents p) a.0 b.0 a.2 (subst (λ y. Has kept y b.0) (top (start tables 0 + p) ∙ ap (root parents) z) b.2) in
                a.1 ∙ ap (λ (x : List Member). Some x) e ∙ sym b.1 ∙ ap (members_at structs) (sym m.2 ∙ stands 0 p n h)

  -- two sections of one struct with other members
  pub unlike : (code : ℕ) (span : Span) (j : ℕ) (x : List Member) → code ≡ 204 → KeepsFrom parents tables 0 whole j x → DiffersFrom parents tables 0 whole span j x → AreUnnamed docs code span
  unlike code span j x e k d = record { named = whole; same = same; fault_is = inr (e, fault_is); none = none }
    where
      a : (o : IsOf parents tables whole 0 j) × (x ≡ members_of (stand_in o.doc.structs) o.section)
      a = keeps_from parents tables 0 whole j x k

      b : (o : IsOf parents tables whole 0 j) × (x ≢ members_of (stand_in o.doc.structs) o.section) × (span ≡ o.section.name.span)
      b = differs_from parents tables 0 whole span j x d

      zero_ : (y : ℕ) → 0 + y ≡ y
      zero_ y = omega arith

      leads : (o : IsOf parents tables whole 0 j) → LeadsTo parents (start tables o.number) (names_of tables o.number) o.section.name.name j
      leads o = subst (λ y. LeadsTo parents (start tables y) (names_of tables y) o.section.name.name j) (zero_ o.number) o.leads

      one : (label : Labels) → agrees label whole ≡ true → label a.0.number a.0.section.name.name ≡ label b.0.number b.0.section.name.name
      one label f =
          let p = leads a.0 in let q = leads b.0 in
          one_class docs tables starts parents linked reached s c label a.0.number b.0.number p.0 q.0 a.0.section.name.name b.0.section.name.name
          (sym (agrees_named docs tables starts parents linked reached s c label) ∙ f) p.1 q.1 (sym p.2 ∙ q.2)

      stand_is : (o : IsOf parents tables whole 0 j) → stand_at whole o.number ≡ stand_in o.doc.structs
      stand_is o = ap (λ (y : Option Doc). stand_in (structs_of y)) o.at

      differ : members_of (stand_at whole a.0.number) a.0.section ≢ members_of (stand_at whole b.0.number) b.0.section
      differ f = b.1 (a.1 ∙ ap (λ (g : List ℕ → List ℕ). members_of g a.0.section) (sym (stand_is a.0)) ∙ f ∙ ap (λ (g : List ℕ → List ℕ). members_of g b.0.section) (stand_is b.0))

      fault_is : AreUnlike whole span
      fault_is = record {
        stood = stood;
        first_number = a.0.number;
        first = a.0.section;
        is_first = record { doc = a.0.doc; at = a.0.at; declared = contains_at (sections_of a.0.doc.document) a.0.place a.0.section a.0.there };
        second_number = b.0.number;
        second = b.0.section;
        is_second = record { doc = b.0.doc; at = b.0.at; declared = contains_at (sections_of b.0.doc.document) b.0.place b.0.section b.0.there };
        same = one;
        differ = differ;
        place = b.2;
      }

      none : (others : List Doc) (structs : List StructDef) → AreNamed docs others structs → ⊥
      none others structs n =
          let h = n.structs_are in
          let there : AreStood others = record { named = h.named; agreeing = h.agreeing; first = h.first; joined = h.joined } in
          let is : whole ≡ others = one_stood whole others (sym same ∙ n.same) (sym (same_linked docs whole same) ∙ linked) (sym (same_circle docs whole same) ∙ ends) (same_reached docs whole same reached) stood there in
          let have : HaveSections structs whole = subst (λ (ds : List Doc). HaveSections structs ds) (sym is) h.sections in
          let f = have_section structs whole a.0.number a.0.doc a.0.place a.0.section have a.0.at a.0.there in
          let g = have_section structs whole b.0.number b.0.doc b.0.place b.0.section have b.0.at b.0.there in
          let names : stand_in a.0.doc.structs a.0.section.name.name ≡ stand_in b.0.doc.structs b.0.section.name.name =
          ap (λ (y : List ℕ → List ℕ). y a.0.section.name.name) (sym (stand_is a.0)) ∙ one (stand_at whole) stood.agreeing ∙ ap (λ (y : List ℕ → List ℕ). y b.0.section.name.name) (stand_is b.0) in
          b.1 (a.1 ∙ some_list _ _ (sym f ∙ ap (members_at structs) names ∙ g))
        where
          some_list : (ms ns : List Member) → Some ms ≡ Some ns → ms ≡ ns
          some_list ms ns q = cc

  pub kept_fault : (e : LinkFault) → KeepsAll (KeepsFrom parents tables 0 whole) (DiffersFrom parents tables 0 whole) (Err e) → IsAnswer docs (Err e)
  kept_fault (fault.Bad code span) h = unlike code span h.1.0 h.1.1 h.0 h.1.2 h.1.3
  kept_fault fault.NoMemory h = tt

  pub stood_is : whole ≡ stood_by docs tables parents
  stood_is = named_is docs tables starts parents linked reached s c

  pub all_full : IsFull whole tables parents
  all_full kept has = full kept has

  pub answered : (structs : List StructDef) → all_know (names_of tables) docs ≡ true → HasStructsBy whole tables parents (Ok structs)
      → AreNamed docs whole structs
  answered structs known h = all_named h.0 h.1 structs known h.2
