-- The names that documents see, where those that imported documents see are found first.
use Rattle.std.proofs.Common.{◌≡◌, ◌⊎◌, ℕ, zero, suc, ◌<◌, Bool, true, false, not, ◌&&◌, List, [], ◌∷◌, ◌++◌, length, slice_get, slice_set, Option, Some, None, refl, sym, ap, ◌∙◌, subst, arith, inl, inr}
use Rattle.std.specs.List.{list_all}
use Rattle.std.specs.Str.{bytes_eq}
use Rattle.std.proofs.lemmas.Bool.{true≢false, false≢true, and_parts, and_from, not-true, cases_eq, cases_Bool}
use Rattle.std.proofs.lemmas.List.{length-set}
use Rattle.std.proofs.lemmas.Option.{same_Some}
use Rattle.wdl_ast.specs.declared.document.Import.{Import}
use Rattle.wdl_library.specs.declared.doc.Doc.{Doc}
use Rattle.wdl_library.specs.declared.doc.Link.{Link}
use Rattle.wdl_library.specs.Imports.{uri_of, namespace_of}
use Rattle.wdl_library.specs.Sections.{imports_of}
use Rattle.wdl_library.specs.Links.{is_at, are_links, has_links, links_in, links_at, ends_within, each_ends, has_no_circle}
use Rattle.wdl_library.specs.Names.{once, given, own_names}
use Rattle.wdl_paths.specs.Resolve.{resolve}
use Rattle.wdl_links.specs.Circles.{is_marked, all_marked, is_next, NoneIsNext}
use Rattle.wdl_links.proofs.CircleLemmas.{set_keeps as marked_kept, at_some, not_and}
use Rattle.wdl_structs.specs.Tables.{Names, NamesAt, names_or, names_of, imported_by, seen_by, AreSeen}
use Rattle.wdl_base.proofs.Options.{item_there, all_at}

-- ---- one table more

pub get_set_same : {A : Type 0} (xs : List A) (k : ℕ) (x : A) → k < length xs → slice_get (slice_set xs k x) k ≡ Some x
get_set_same [] k x h = absurd (omega arith)
get_set_same (y ∷ ys) zero x h = refl
get_set_same (y ∷ ys) (suc k) x h = get_set_same ys k x (omega arith)

pub get_set_other : {A : Type 0} (xs : List A) (k j : ℕ) (x : A) → (j ≡ k → ⊥) → slice_get (slice_set xs k x) j ≡ slice_get xs j
get_set_other [] k j x ne = refl
get_set_other (y ∷ ys) zero zero x ne = absurd (ne refl)
get_set_other (y ∷ ys) zero (suc j) x ne = refl
get_set_other (y ∷ ys) (suc k) zero x ne = refl
get_set_other (y ∷ ys) (suc k) (suc j) x ne = get_set_other ys k j x (λ e. ne (ap suc e))

marked_set_other : (marks : List Bool) (k j : ℕ) → (j ≡ k → ⊥) → is_marked (slice_set marks k true) j ≡ is_marked marks j
marked_set_other [] k j ne = refl
marked_set_other (b ∷ bs) zero zero ne = absurd (ne refl)
marked_set_other (b ∷ bs) zero (suc j) ne = refl
marked_set_other (b ∷ bs) (suc k) zero ne = refl
marked_set_other (b ∷ bs) (suc k) (suc j) ne = marked_set_other bs k j (λ e. ne (ap suc e))

all_kept : (marks : List Bool) (k : ℕ) (ls : List Link) → all_marked marks ls ≡ true → all_marked (slice_set marks k true) ls ≡ true
all_kept marks k [] h = refl
all_kept marks k (l ∷ ls) h =
    let p = and_parts (is_marked marks l.doc) (all_marked marks ls) h in
    and_from (is_marked (slice_set marks k true) l.doc) (all_marked (slice_set marks k true) ls) (marked_kept marks k l.doc p.0) (all_kept marks k ls p.1)

-- names of documents that are marked stay
imported_same : (f h : NamesAt) (marks : List Bool) (is : List Import) (ls : List Link) → ((j : ℕ) → is_marked marks j ≡ true → f j ≡ h j)
    → all_marked marks ls ≡ true → imported_by f is ls ≡ imported_by h is ls
imported_same f h marks [] ls same m = refl
imported_same f h marks (i ∷ is) [] same m = refl
imported_same f h marks (i ∷ is) (l ∷ ls) same m =
    let p = and_parts (is_marked marks l.doc) (all_marked marks ls) m in
    ap (λ ns. given i.aliases ns ++ imported_by f is ls) (same l.doc p.0) ∙ ap (λ r. given i.aliases (h l.doc) ++ r) (imported_same f h marks is ls same p.1)

seen_same : (f h : NamesAt) (marks : List Bool) (d : Doc) → ((j : ℕ) → is_marked marks j ≡ true → f j ≡ h j) → all_marked marks d.imports ≡ true → seen_by f d ≡ seen_by h d
seen_same f h marks d same m = ap (λ r. once (own_names d ++ r)) (imported_same f h marks (imports_of d.document) d.imports same m)

-- ---- the tables of marked documents

-- the documents that are marked have the names that they see, and import marked ones
pub record AreFound (docs : List Doc) (tables : List Names) (marks : List Bool) : Type 0 where
  pub tables_len : length tables ≡ length docs
  pub marks_len : length marks ≡ length docs
  pub seen : (k : ℕ) (d : Doc) → slice_get docs k ≡ Some d → is_marked marks k ≡ true → (names_of tables k ≡ seen_by (names_of tables) d) × (all_marked marks d.imports ≡ true)

pub none_found : (docs : List Doc) (tables : List Names) (marks : List Bool) → length tables ≡ length docs → length marks ≡ length docs → ((k : ℕ) → is_marked marks k ≡ false)
    → AreFound docs tables marks
none_found docs tables marks t m none = record {
  tables_len = t;
  marks_len = m;
  seen = λ k d at h. absurd (true≢false (sym h ∙ none k));
}

pub found_more : (docs : List Doc) (tables : List Names) (marks : List Bool) (k : ℕ) (d : Doc) (t : Names) → AreFound docs tables marks → slice_get docs k ≡ Some d
    → k < length docs → is_next docs marks k ≡ true → t ≡ seen_by (names_of tables) d → AreFound docs (slice_set tables k t) (slice_set marks k true)
found_more docs tables marks k d t f at within next is = record {
  tables_len = length-set tables k t ∙ f.tables_len;
  marks_len = length-set marks k true ∙ f.marks_len;
  seen = seen;
}
  where
    parts : (not (is_marked marks k) ≡ true) × (all_marked marks (links_at docs k) ≡ true)
    parts = and_parts (not (is_marked marks k)) (all_marked marks (links_at docs k)) next

    open_ : is_marked marks k ≡ false
    open_ = not-true (is_marked marks k) parts.0

    links : all_marked marks d.imports ≡ true
    links = subst (λ (o : Option Doc). all_marked marks (links_in o) ≡ true) at parts.1

    kept : (j : ℕ) → is_marked marks j ≡ true → names_of (slice_set tables k t) j ≡ names_of tables j
    kept j m = ap names_or (get_set_other tables k j t (λ e. true≢false (sym m ∙ ap (is_marked marks) e ∙ open_)))

    seen : (j : ℕ) (e : Doc) → slice_get docs j ≡ Some e → is_marked (slice_set marks k true) j ≡ true
        → (names_of (slice_set tables k t) j ≡ seen_by (names_of (slice_set tables k t)) e) × (all_marked (slice_set marks k true) e.imports ≡ true)
    seen j e there m = elim (cases_eq j k) as (λ c. (names_of (slice_set tables k t) j ≡ seen_by (names_of (slice_set tables k t)) e) × (all_marked (slice_set marks k true) e.imports ≡ true)) [
      | inl i ↦
          let one : d ≡ e = same_Some d e (sym at ∙ sym (ap (slice_get docs) i) ∙ there) in
          subst (λ (x : Doc). (names_of (slice_set tables k t) j ≡ seen_by (names_of (slice_set tables k t)) x) × (all_marked (slice_set marks k true) x.imports ≡ true)) one (
            ap (names_of (slice_set tables k t)) i ∙ ap names_or (get_set_same tables k t (subst (λ n. k < n) (sym f.tables_len) within)) ∙ is
                ∙ sym (seen_same (names_of (slice_set tables k t)) (names_of tables) marks d kept links),
            all_kept marks k d.imports links,
          )
      | inr ne ↦
          let old : is_marked marks j ≡ true = sym (marked_set_other marks k j ne) ∙ m in
          let s = f.seen j e there old in (
            kept j old ∙ s.0 ∙ sym (seen_same (names_of (slice_set tables k t)) (names_of tables) marks e kept s.1),
            all_kept marks k e.imports s.1,
          )
    ]

-- ---- in the end all are marked

pub get_within : {A : Type 0} (xs : List A) (j : ℕ) → (slice_get xs j ≡ None → ⊥) → j < length xs
get_within [] j h = absurd (h refl)
get_within (d ∷ ds) zero h = omega arith
get_within (d ∷ ds) (suc j) h = let r = get_within ds j h in omega (arith, r)

-- each link leads to a document of the list
pub link_within : (docs : List Doc) (base : List ℕ) (is : List Import) (ls : List Link) (k : ℕ) (l : Link) → are_links docs base is ls ≡ true → slice_get ls k ≡ Some l
    → l.doc < length docs
link_within docs base [] [] k l h at = absurd (none_some_link at)
  where
    none_some_link : None ≡ Some l → ⊥
    none_some_link e = cc
link_within docs base [] (m ∷ ls) k l h at = absurd (false≢true h)
link_within docs base (i ∷ is) [] k l h at = absurd (false≢true h)
link_within docs base (i ∷ is) (m ∷ ls) zero l h at =
    let p = and_parts (bytes_eq m.namespace (namespace_of i) && is_at (slice_get docs m.doc) (resolve base (uri_of i))) (are_links docs base is ls) h in
    let q = and_parts (bytes_eq m.namespace (namespace_of i)) (is_at (slice_get docs m.doc) (resolve base (uri_of i))) p.0 in
    subst (λ (x : Link). x.doc < length docs) (same_Some m l at) (get_within docs m.doc (at_some (slice_get docs m.doc) (resolve base (uri_of i)) q.1))
link_within docs base (i ∷ is) (m ∷ ls) (suc k) l h at =
    let p = and_parts (bytes_eq m.namespace (namespace_of i) && is_at (slice_get docs m.doc) (resolve base (uri_of i))) (are_links docs base is ls) h in
    link_within docs base is ls k l p.1 at

-- a link without a mark
open_at : (marks : List Bool) (ls : List Link) → all_marked marks ls ≡ false → (k : ℕ) × (l : Link) × (slice_get ls k ≡ Some l) × (is_marked marks l.doc ≡ false)
open_at marks [] h = absurd (true≢false h)
open_at marks (l ∷ ls) h = on (λ g. open_at marks ls g) (is_marked marks l.doc) refl h
  where
    on : (all_marked marks ls ≡ false → (k : ℕ) × (m : Link) × (slice_get ls k ≡ Some m) × (is_marked marks m.doc ≡ false)) → (b : Bool) → is_marked marks l.doc ≡ b → b && all_marked marks ls ≡ false → (k : ℕ) × (m : Link) × (slice_get (l ∷ ls) k ≡ Some m) × (is_marked marks m.doc ≡ false)
    on more true e g = let r = more g in (suc r.0, r.1, r.2, r.3)
    on more false e g = (0, l, refl, e)

-- walks from a document without a mark go on
goes_on : (n : ℕ) (docs : List Doc) (marks : List Bool) (k : ℕ) → list_all (has_links docs) docs ≡ true → NoneIsNext docs marks → k < length docs → is_marked marks k ≡ false
    → ends_within n docs k ≡ true → ⊥
goes_on zero docs marks k linked none within open_ h = false≢true h
goes_on (suc n) docs marks k linked none within open_ h =
    let there = item_there docs k within in
    let d = there.0 in
    let some : all_marked marks d.imports ≡ false = subst (λ (o : Option Doc). all_marked marks (links_in o) ≡ false) there.1
    (not_and (is_marked marks k) (all_marked marks (links_at docs k)) open_ (none k within)) in
    let ends : list_all (λ (l : Link). ends_within n docs l.doc) d.imports ≡ true = subst (λ (o : Option Doc). list_all (λ (l : Link). ends_within n docs l.doc) (links_in o) ≡ true) there.1 h in
    let o = open_at marks d.imports some in
    goes_on n docs marks o.1.doc linked none
    (link_within docs d.path (imports_of d.document) d.imports o.0 o.1 (all_at (has_links docs) docs k d linked there.1) o.2)
    o.3 (all_at (λ (l : Link). ends_within n docs l.doc) d.imports o.0 o.1 ends o.2)

pub ends_at : (n : ℕ) (docs : List Doc) (m k : ℕ) → each_ends n docs m ≡ true → k < m → ends_within n docs k ≡ true
ends_at n docs zero k h below = absurd (omega arith)
ends_at n docs (suc m) k h below = elim (cases_eq k m) as (λ c. ends_within n docs k ≡ true) [
  | inl e ↦ ap (ends_within n docs) e ∙ (and_parts (ends_within n docs m) (each_ends n docs m) h).0
  | inr ne ↦ ends_at n docs m k (and_parts (ends_within n docs m) (each_ends n docs m) h).1 (under k m below ne)
]
  where
    under : (k m : ℕ) → k < suc m → (k ≡ m → ⊥) → k < m
    under k m below ne = omega (arith, below, ne)

pub all_found : (docs : List Doc) (tables : List Names) (marks : List Bool) → list_all (has_links docs) docs ≡ true → has_no_circle docs ≡ true → NoneIsNext docs marks
    → AreFound docs tables marks → AreSeen docs tables
all_found docs tables marks linked ends none f = (f.tables_len, λ k d at. (f.seen k d at (marked k d at (cases_Bool (is_marked marks k)))).0)
  where
    none_some_doc : (d : Doc) → None ≡ Some d → ⊥
    none_some_doc d e = cc

    marked : (k : ℕ) (d : Doc) → slice_get docs k ≡ Some d → (is_marked marks k ≡ true) ⊎ (is_marked marks k ≡ false) → is_marked marks k ≡ true
    marked k d at (inl m) = m
    marked k d at (inr m) =
        let within = get_within docs k (λ e. none_some_doc d (sym e ∙ at)) in
        absurd (goes_on (length docs) docs marks k linked none within m (ends_at (length docs) docs (length docs) k ends within))
