-- Where links form a circle no walk along them ends.
use Rattle.std.proofs.Common.{◌≡◌, ℕ, zero, suc, true, List, [], ◌∷◌, length, slice_get, Option, Some, None, refl, sym, ap, ◌∙◌, subst}
use Rattle.std.specs.List.{list_all}
use Rattle.std.proofs.lemmas.Bool.{false≢true}
use Rattle.std.proofs.lemmas.Option.{same_Some, none-some}
use Rattle.wdl_base.specs.declared.span.Span.{Span}
use Rattle.wdl_ast.specs.declared.document.Import.{Import}
use Rattle.wdl_library.specs.declared.doc.Doc.{Doc}
use Rattle.wdl_library.specs.declared.doc.Link.{Link}
use Rattle.wdl_library.specs.Sections.{imports_of}
use Rattle.wdl_library.specs.Links.{links_in, ends_within, has_no_circle}
use Rattle.wdl_links.specs.Circles.{places, places_of, places_at, LeadsAt, Leads, IsCircle}
use Rattle.wdl_links.specs.Wants.{span_of}
use Rattle.wdl_imports.specs.Numbers.{ImportsOf, SectionsOf}
use Rattle.wdl_structs.proofs.IdentityLaws.{contained}
use Rattle.wdl_structs.proofs.SeenLaws.{ends_at, get_within}
use Rattle.wdl_base.proofs.Options.{all_at}

-- the import and the link of a place
place_at : (is : List Import) (ls : List Link) (q : ℕ) (p : ℕ × Span) → slice_get (places is ls) q ≡ Some p → (i : Import) × (l : Link) × (slice_get is q ≡ Some i) × (slice_get ls q ≡ Some l) × ((l.doc, span_of i) ≡ p)
place_at [] ls q p h = absurd (none-some p h)
place_at (i ∷ is) [] q p h = absurd (none-some p h)
place_at (i ∷ is) (l ∷ ls) zero p h = (i, l, refl, refl, same_Some (l.doc, span_of i) p h)
place_at (i ∷ is) (l ∷ ls) (suc q) p h = place_at is ls q p h

-- the document that has the place
place_doc : (docs : List Doc) (k q : ℕ) (p : ℕ × Span) → slice_get (places_at docs k) q ≡ Some p → (d : Doc) × (slice_get docs k ≡ Some d) × (slice_get (places (imports_of d.document) d.imports) q ≡ Some p)
place_doc docs k q p h = on (slice_get docs k) refl h
  where
    on : (o : Option Doc) → slice_get docs k ≡ o → slice_get (places_of o) q ≡ Some p → (d : Doc) × (slice_get docs k ≡ Some d) × (slice_get (places (imports_of d.document) d.imports) q ≡ Some p)
    on None e g = absurd (none-some p g)
    on (Some d) e g = (d, e, g)

pub led : (docs : List Doc) (k j : ℕ) (s : Span) → LeadsAt docs k s j
    → (d : Doc) × (i : Import) × (l : Link) × (q : ℕ) × (slice_get docs k ≡ Some d) × (slice_get (imports_of d.document) q ≡ Some i) × (slice_get d.imports q ≡ Some l) × (l.doc ≡ j) × (span_of i ≡ s)
led docs k j s h =
    let c = contained (places_at docs k) (j, s) h in
    let d = place_doc docs k c.0 (j, s) c.1 in
    let r = place_at (imports_of d.0.document) d.0.imports c.0 (j, s) d.2 in
    (d.0, r.0, r.1, c.0, d.1, r.2, r.3, ap (λ (p : ℕ × Span). p.0) r.4, ap (λ (p : ℕ × Span). p.1) r.4)

step_on : (n : ℕ) (docs : List Doc) (k j : ℕ) (s : Span) → LeadsAt docs k s j → ends_within (suc n) docs k ≡ true → ends_within n docs j ≡ true
step_on n docs k j s h ends =
    let r = led docs k j s h in
    let all : list_all (λ (l : Link). ends_within n docs l.doc) r.0.imports ≡ true = subst (λ (o : Option Doc). list_all (λ (l : Link). ends_within n docs l.doc) (links_in o) ≡ true) r.4 ends in
    subst (λ m. ends_within n docs m ≡ true) r.7 (all_at (λ (l : Link). ends_within n docs l.doc) r.0.imports r.3 r.2 all r.6)

goes_round : (n : ℕ) (docs : List Doc) (k j : ℕ) (s : Span) → LeadsAt docs k s j → Leads docs j k → (x : ℕ) → Leads docs x k → ends_within n docs x ≡ true → ⊥
goes_round zero docs k j s h back x l ends = false≢true ends
goes_round (suc n) docs k j s h back x ([], c) ends =
    goes_round n docs k j s h back j back (step_on n docs k j s h (subst (λ m. ends_within (suc n) docs m ≡ true) c ends))
goes_round (suc n) docs k j s h back x (y ∷ ys, c) ends = goes_round n docs k j s h back y (ys, c.1) (step_on n docs x y c.0.0 c.0.1 ends)

pub circle_goes_on : (docs : List Doc) (s : Span) → IsCircle docs s → has_no_circle docs ≡ true → ⊥
circle_goes_on docs s c ends =
    let r = led docs c.importing c.imported s c.leads_there in
    let within = get_within docs c.importing (λ e. none-some r.0 (sym e ∙ r.4)) in
    goes_round (length docs) docs c.importing c.imported s c.leads_there c.leads_back c.importing ([], refl) (ends_at (length docs) docs (length docs) c.importing ends within)

imports_at : (number : ℕ) (is : List Import) (q : ℕ) (i : Import) → ImportsOf number is → slice_get is q ≡ Some i → i.keyword.doc ≡ number
imports_at number [] q i a h = absurd (none-some i h)
imports_at number (x ∷ is) zero i a h = ap (λ (y : Import). y.keyword.doc) (sym (same_Some x i h)) ∙ a.0
imports_at number (x ∷ is) (suc q) i a h = imports_at number is q i a.1.1 h

-- the span of a circle is of the importing document
pub circle_placed : (docs : List Doc) (s : Span) → ((k : ℕ) (d : Doc) → slice_get docs k ≡ Some d → SectionsOf k d.document.sections) → IsCircle docs s
    → (d : Doc) × (slice_get docs s.doc ≡ Some d)
circle_placed docs s numbered c =
    let r = led docs c.importing c.imported s c.leads_there in
    let e : c.importing ≡ s.doc = sym (imports_at c.importing (imports_of r.0.document) r.3 r.1 (numbered c.importing r.0 r.4).0 r.5) ∙ ap (λ (x : Span). x.doc) r.8 in
    (r.0, subst (λ k. slice_get docs k ≡ Some r.0) e r.4)
