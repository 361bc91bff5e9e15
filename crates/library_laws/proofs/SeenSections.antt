-- The sections that a document sees under a name.
use Rattle.std.proofs.Common.{◌≡◌, ℕ, zero, suc, ◌+◌, ◌<◌, ◌≤◌, true, ◌||◌, List, [], ◌∷◌, ◌++◌, length, Option, refl, sym, ap, ◌∙◌, subst, arith, inl, inr}
use Rattle.std.specs.List.{list_all}
use Rattle.std.specs.Str.{bytes_eq}
use Rattle.std.proofs.lemmas.Bool.{false≢true, or_cases, or_left, or_right, cases_lt}
use Rattle.std.proofs.lemmas.Slice.Eq.{bytes_eq-Decides}
use Rattle.std.proofs.lemmas.Option.{none-some}
use Rattle.wdl_base.specs.Names.{is_among}
use Rattle.wdl_ast.specs.declared.document.Alias.{Alias}
use Rattle.wdl_ast.specs.declared.document.StructSection.{StructSection}
use Rattle.wdl_library.specs.declared.doc.Doc.{Doc}
use Rattle.wdl_library.specs.declared.doc.Link.{Link}
use Rattle.wdl_library.specs.Sections.{imports_of, sections_of}
use Rattle.wdl_library.specs.Links.{ends_within, has_no_circle, links_in}
use Rattle.wdl_library.specs.Names.{given, given_for, has_names, names_at, names_in, own_names, structs_of}
use Rattle.wdl_library.specs.Structs.{Labels, IsSameStruct}
use Rattle.wdl_structs.specs.Faults.{IsSection}
use Rattle.wdl_structs.specs.Nodes.{all_among, along_by, from_by}
use Rattle.wdl_structs.specs.Tables.{Names, imported_by, seen_by}
use Rattle.wdl_structs.proofs.FinalLaws.{contains_at}
use Rattle.wdl_structs.proofs.IdentityLaws.{agrees_at, along_at, contained, from_at, given_by}
use Rattle.wdl_structs.proofs.NameLaws.{among_append, among_place}
use Rattle.wdl_structs.proofs.SeenLaws.{ends_at, get_within}
use Rattle.wdl_structs.proofs.StandLaws.{from_is, seen_imported, seen_own}
use Rattle.wdl_structs.proofs.StructLaws.{have_at, imported_name, once_among, own_section}
use Rattle.wdl_structs.proofs.UniqueLaws.{past, seen_at}
use Rattle.library_laws.specs.Relations.{Sees, SeesOver}
use Rattle.wdl_base.proofs.Options.{map_there, item_there, all_at}

-- ---- lists of names

all_have_it : (ns ms : Names) (n : List ℕ) → all_among ns ms ≡ true → is_among n ms ≡ true → is_among n ns ≡ true
all_have_it ns ms n a h = let p = among_place n ms h in all_at (λ m. is_among m ns) ms p.0 n a p.1

given_has : (aliases : List Alias) (ns : Names) (m n : List ℕ) → is_among m ns ≡ true → is_among n (given_for aliases m) ≡ true → is_among n (given aliases ns) ≡ true
given_has aliases [] m n h g = absurd (false≢true h)
given_has aliases (k ∷ ns) m n h g =
    among_append n (given_for aliases k) (given aliases ns)
    ∙ elim (or_cases (bytes_eq k m) (is_among m ns) h) as (λ c. is_among n (given_for aliases k) || is_among n (given aliases ns) ≡ true) [
      | inl e ↦ or_left (is_among n (given_for aliases k)) (is_among n (given aliases ns)) (ap (λ x. is_among n (given_for aliases x)) ((bytes_eq-Decides k m).0 e) ∙ g)
      | inr e ↦ or_right (is_among n (given_for aliases k)) (is_among n (given aliases ns)) (given_has aliases ns m n e g)
    ]

pub section_within : (docs : List Doc) (k : ℕ) (s : StructSection) → IsSection docs k s → k < length docs
section_within docs k s h = get_within docs k (λ e. none-some h.doc (sym e ∙ h.at))

pub sees_section : (docs : List Doc) (p : ℕ) (s : StructSection) (steps k : ℕ) (n : List ℕ) → SeesOver docs p s steps k n → IsSection docs p s
sees_section docs p s zero k n h = h.2
sees_section docs p s (suc steps) k n h = sees_section docs p s steps h.link.doc h.name h.there

module _ (docs : List Doc) (named : list_all (has_names docs) docs ≡ true) where
  -- ---- a section is seen under a name that stands for it

  pub own_among : (k : ℕ) (s : StructSection) → IsSection docs k s → is_among s.name.name (names_at docs k) ≡ true
  own_among k s h =
      let q = contained (sections_of h.doc.document) s h.declared in
      ap (is_among s.name.name) (seen_at docs k h.doc named h.at)
      ∙ all_at (λ m. is_among m (seen_by (names_at docs) h.doc)) (own_names h.doc) q.0 s.name.name (seen_own (names_at docs) h.doc)
      (map_there (λ (x : StructSection). x.name.name) (sections_of h.doc.document) q.0 s q.1)

  sees_among : (p : ℕ) (s : StructSection) (steps k : ℕ) (n : List ℕ) → SeesOver docs p s steps k n → is_among n (names_at docs k) ≡ true
  sees_among p s zero k n h = ap (λ j. is_among n (names_at docs j)) h.0 ∙ ap (λ m. is_among m (names_at docs p)) (sym h.1) ∙ own_among p s h.2
  sees_among p s (suc steps) k n h =
      let among = sees_among p s steps h.link.doc h.name h.there in
      let ns = seen_by (names_at docs) h.doc in
      let all = given_by (names_at docs) ns (imports_of h.doc.document) h.doc.imports h.place h.import h.link (seen_imported (names_at docs) h.doc) h.is_import h.is_link in
      ap (is_among n) (seen_at docs k h.doc named h.at)
      ∙ all_have_it ns (given h.import.aliases (names_at docs h.link.doc)) n all (given_has h.import.aliases (names_at docs h.link.doc) h.name n among h.gives)

  sees_over_same : (p : ℕ) (s : StructSection) (steps k : ℕ) (n : List ℕ) → SeesOver docs p s steps k n → (label : Labels) → from_by label (names_at docs) 0 docs ≡ true
      → label k n ≡ label p s.name.name
  sees_over_same p s zero k n h label f = ap (λ j. label j n) h.0 ∙ ap (label p) (sym h.1)
  sees_over_same p s (suc steps) k n h label f =
      let z : 0 + k ≡ k = omega arith in
      let is = imports_of h.doc.document in
      let ls = h.doc.imports in
      let names = names_at docs in
      let among = sees_among p s steps h.link.doc h.name h.there in
      let along : along_by label names k is ls ≡ true = ap (λ x. along_by label names x is ls) (sym z) ∙ from_at label names 0 k docs h.doc f h.at in
      have_at (label k) (label h.link.doc h.name) (given_for h.import.aliases h.name) n
      (agrees_at label k h.link.doc h.import.aliases (names h.link.doc) h.name (along_at label names k h.place is ls h.import h.link along h.is_import h.is_link) among) h.gives
      ∙ sees_over_same p s steps h.link.doc h.name h.there label f

  pub sees_same : (k : ℕ) (n : List ℕ) (p : ℕ) (s : StructSection) → Sees docs k n p s → IsSameStruct docs k n p s.name.name
  sees_same k n p s h label g = sees_over_same p s h.0 k n h.1 label (sym (from_is label docs 0 docs) ∙ g)

  -- ---- each name is that of a section which is seen

  abbrev SeesSome : ℕ → List ℕ → Type 0
  SeesSome k n = (p : ℕ) × (s : StructSection) × Sees docs k n p s

  seen_within : (m k : ℕ) (n : List ℕ) → ends_within m docs k ≡ true → is_among n (names_at docs k) ≡ true → SeesSome k n
  seen_within zero k n ends h = absurd (false≢true ends)
  seen_within (suc m) k n ends h = elim (cases_lt k (length docs)) as (λ c. SeesSome k n) [
    | inl w ↦
        let d = item_there docs k w in
        let is = imports_of d.0.document in
        let ls = d.0.imports in
        let names = names_at docs in
        let a : is_among n (own_names d.0 ++ imported_by names is ls) ≡ true = once_among n (own_names d.0 ++ imported_by names is ls) (ap (is_among n) (sym (seen_at docs k d.0 named d.1)) ∙ h) in
        elim (or_cases (is_among n (own_names d.0)) (is_among n (imported_by names is ls)) (sym (among_append n (own_names d.0) (imported_by names is ls)) ∙ a)) as (λ c. SeesSome k n) [
          | inl o ↦
              let t = own_section (sections_of d.0.document) n o in
              (k, t.1, (0, (refl, t.3, record { doc = d.0; at = d.1; declared = contains_at (sections_of d.0.document) t.0 t.1 t.2 })))
          | inr o ↦
              let g = imported_name names is ls n o in
              let walk : list_all (λ (x : Link). ends_within m docs x.doc) ls ≡ true = subst (λ (x : Option Doc). list_all (λ (y : Link). ends_within m docs y.doc) (links_in x) ≡ true) d.1 ends in
              let r = seen_within m g.2.doc g.3 (all_at (λ (x : Link). ends_within m docs x.doc) ls g.0 g.2 walk g.5) g.6 in
              (r.0, r.1, (suc r.2.0, record { doc = d.0; at = d.1; place = g.0; import = g.1; link = g.2; is_import = g.4; is_link = g.5; name = g.3; gives = g.7; there = r.2.1 }))
        ]
    | inr g ↦ absurd (false≢true (sym (ap (is_among n) (nothing g)) ∙ h))
  ]
    where
      nothing : length docs ≤ k → names_at docs k ≡ []
      nothing g = ap (λ (o : Option Doc). names_in (structs_of o)) (past docs k (λ w. omega (arith, w, g)))

  pub is_seen : has_no_circle docs ≡ true → (k : ℕ) (n : List ℕ) → k < length docs → is_among n (names_at docs k) ≡ true → SeesSome k n
  is_seen ends k n w h = seen_within (length docs) k n (ends_at (length docs) docs (length docs) k ends w) h
