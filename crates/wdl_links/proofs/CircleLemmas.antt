-- Marks of documents, and circles of their links.
use Rattle.std.proofs.Common.{◌≡◌, ◌⊎◌, ℕ, zero, suc, ◌+◌, ◌-◌, ◌<◌, ◌≤◌, Bool, true, false, not, ◌&&◌, List, [], ◌∷◌, ◌++◌, length, get_or, slice_get, slice_set, slice_index_or, refl, sym, ap, ◌∙◌, subst, arith, inl, inr, Option, Some, None}
use Rattle.std.proofs.lemmas.Bool.{true≢false, false≢true, and_parts, and_from, not-true, cases_eq}
use Rattle.std.proofs.lemmas.Option.{slice_get_within, same_Some}
use Rattle.std.proofs.lemmas.List.{length-set}
use Rattle.std.specs.Prelude.{Contains, if◌then◌else◌}
use Rattle.std.specs.List.{list_all}
use Rattle.std.specs.Str.{bytes_eq}
use Rattle.wdl_base.specs.declared.span.Span.{Span}
use Rattle.wdl_ast.specs.declared.document.Import.{Import}
use Rattle.wdl_library.specs.declared.doc.Doc.{Doc}
use Rattle.wdl_library.specs.declared.doc.Link.{Link}
use Rattle.wdl_library.specs.Imports.{namespace_of, uri_of}
use Rattle.wdl_library.specs.Sections.{imports_of}
use Rattle.wdl_library.specs.Links.{is_at, are_links, has_links, links_in, links_at, ends_within, each_ends, has_no_circle}
use Rattle.wdl_paths.specs.Resolve.{resolve}
use Rattle.wdl_links.specs.Circles.{is_set, is_marked, all_marked, marked, unmarked, is_next, AreEnds, places, places_of, LeadsAt, IsChain, Leads, IsCircle, AreReached, AreBeingRead, first_endless, HasMarks, IsNextOpen, open_link}
use Rattle.wdl_links.specs.Wants.{span_of}
use Rattle.wdl_base.proofs.Options.{all_at}

-- ---- marks

is_marked-set : (marks : List Bool) (k j : ℕ) → is_marked (slice_set marks k true) j ≡ true → (j ≡ k) ⊎ (is_marked marks j ≡ true)
is_marked-set [] k j h = inr h
is_marked-set (b ∷ bs) zero zero h = inl refl
is_marked-set (b ∷ bs) zero (suc j) h = inr h
is_marked-set (b ∷ bs) (suc k) zero h = inr h
is_marked-set (b ∷ bs) (suc k) (suc j) h =
    elim (is_marked-set bs k j h) as (λ s. (suc j ≡ suc k) ⊎ (is_marked (b ∷ bs) (suc j) ≡ true)) [ inl e ↦ inl (ap suc e) | inr m ↦ inr m ]

marked-set : (marks : List Bool) (k : ℕ) → k < length marks → is_marked marks k ≡ false → marked (slice_set marks k true) ≡ suc (marked marks)
marked-set [] k below h = absurd (omega arith)
marked-set (true ∷ bs) zero below h = absurd (true≢false h)
marked-set (false ∷ bs) zero below h = omega arith
marked-set (true ∷ bs) (suc k) below h = let r = marked-set bs k (omega arith) h in omega (arith, r)
marked-set (false ∷ bs) (suc k) below h = let r = marked-set bs k (omega arith) h in omega (arith, r)

pub unmarked-set : (marks : List Bool) (k : ℕ) → k < length marks → is_marked marks k ≡ false → unmarked (slice_set marks k true) < unmarked marks
unmarked-set [] k below h = absurd (omega arith)
unmarked-set (true ∷ bs) zero below h = absurd (true≢false h)
unmarked-set (false ∷ bs) zero below h = omega arith
unmarked-set (true ∷ bs) (suc k) below h = let r = unmarked-set bs k (omega arith) h in omega (arith, r)
unmarked-set (false ∷ bs) (suc k) below h = let r = unmarked-set bs k (omega arith) h in omega (arith, r)

marked-most : (marks : List Bool) → marked marks ≤ length marks
marked-most [] = omega arith
marked-most (true ∷ bs) = let r = marked-most bs in omega (arith, r)
marked-most (false ∷ bs) = let r = marked-most bs in omega (arith, r)

set_there : (marks : List Bool) (k : ℕ) → k < length marks → is_marked (slice_set marks k true) k ≡ true
set_there [] k below = absurd (omega arith)
set_there (b ∷ bs) zero below = refl
set_there (b ∷ bs) (suc k) below = set_there bs k (omega arith)

pub set_keeps : (marks : List Bool) (k j : ℕ) → is_marked marks j ≡ true → is_marked (slice_set marks k true) j ≡ true
set_keeps [] k j h = h
set_keeps (b ∷ bs) zero zero h = refl
set_keeps (b ∷ bs) zero (suc j) h = h
set_keeps (b ∷ bs) (suc k) zero h = h
set_keeps (b ∷ bs) (suc k) (suc j) h = set_keeps bs k j h

pub is_marked-push : (marks : List Bool) → ((k : ℕ) → is_marked marks k ≡ false) → (k : ℕ) → is_marked (marks ++ false ∷ []) k ≡ false
is_marked-push [] h zero = refl
is_marked-push [] h (suc k) = refl
is_marked-push (b ∷ bs) h zero = h zero
is_marked-push (b ∷ bs) h (suc k) = is_marked-push bs (λ j. h (suc j)) k

-- ---- walks that end

list_all-more : {A : Type 0} (p q : A → Bool) (xs : List A) → ((x : A) → p x ≡ true → q x ≡ true) → list_all p xs ≡ true → list_all q xs ≡ true
list_all-more p q [] f h = refl
list_all-more p q (x ∷ xs) f h =
    let k = and_parts (p x) (list_all p xs) h in
    and_from (q x) (list_all q xs) (f x k.0) (list_all-more p q xs f k.1)

ends_longer : (n : ℕ) (docs : List Doc) (k : ℕ) → ends_within n docs k ≡ true → ends_within (suc n) docs k ≡ true
ends_longer zero docs k h = absurd (false≢true h)
ends_longer (suc n) docs k h =
    list_all-more (λ (l : Link). ends_within n docs l.doc) (λ l. ends_within (suc n) docs l.doc) (links_at docs k) (λ l. ends_longer n docs l.doc) h

ends_by : (d n : ℕ) (docs : List Doc) (k : ℕ) → ends_within n docs k ≡ true → ends_within (d + n) docs k ≡ true
ends_by zero n docs k h = let e : n ≡ 0 + n = omega arith in subst (λ m. ends_within m docs k ≡ true) e h
ends_by (suc d) n docs k h =
    let e : suc (d + n) ≡ suc d + n = omega arith in
    subst (λ m. ends_within m docs k ≡ true) e (ends_longer (d + n) docs k (ends_by d n docs k h))

pub next_ends : (docs : List Doc) (marks : List Bool) (k : ℕ) → k < length marks → is_next docs marks k ≡ true
    → AreEnds (marked marks) docs marks → AreEnds (marked (slice_set marks k true)) docs (slice_set marks k true)
next_ends docs marks k below h ends j m =
    let p = and_parts (not (is_marked marks k)) (all_marked marks (links_at docs k)) h in
    let e = marked-set marks k below (not-true (is_marked marks k) p.0) in
    subst (λ n. ends_within n docs j ≡ true) (sym e)
    (elim (is_marked-set marks k j m) as (λ s. ends_within (suc (marked marks)) docs j ≡ true) [
      | inl i ↦ subst (λ x. ends_within (suc (marked marks)) docs x ≡ true) (sym i)
          (list_all-more (λ (l : Link). is_marked marks l.doc) (λ l. ends_within (marked marks) docs l.doc) (links_at docs k) (λ l. ends l.doc) p.1)
      | inr old ↦ ends_longer (marked marks) docs j (ends j old)
    ])

pub no_ends : (docs : List Doc) (marks : List Bool) → ((k : ℕ) → is_marked marks k ≡ false) → AreEnds (marked marks) docs marks
no_ends docs marks h k m = absurd (true≢false (sym m ∙ h k))

pub all_ends : (docs : List Doc) (marks : List Bool) → length marks ≡ length docs → AreEnds (marked marks) docs marks → AreEnds (length docs) docs marks
all_ends docs marks e ends k m =
    let most = marked-most marks in
    let r = ends_by (length docs - marked marks) (marked marks) docs k (ends k m) in
    let i : length docs - marked marks + marked marks ≡ length docs = omega (arith, most, e) in
    subst (λ n. ends_within n docs k ≡ true) i r

each_from : (n : ℕ) (docs : List Doc) (k : ℕ) → ((j : ℕ) → j < k → ends_within n docs j ≡ true) → each_ends n docs k ≡ true
each_from n docs zero h = refl
each_from n docs (suc k) h = and_from (ends_within n docs k) (each_ends n docs k) (h k (omega arith)) (each_from n docs k (λ j b. h j (omega (arith, b))))

-- What document 0 leads to ends where its walks end.
leads_end : (n : ℕ) (docs : List Doc) (j k : ℕ) (l : Link) → Contains (links_at docs j) l → l.doc ≡ k → ends_within n docs j ≡ true → ends_within n docs k ≡ true
leads_end zero docs j k l c e h = absurd (false≢true h)
leads_end (suc n) docs j k l c e h =
    ends_longer n docs k (subst (λ x. ends_within n docs x ≡ true) e (all_contained (λ (y : Link). ends_within n docs y.doc) (links_at docs j) l c h))
  where
    all_contained : (p : Link → Bool) (xs : List Link) (x : Link) → Contains xs x → list_all p xs ≡ true → p x ≡ true
    all_contained p [] x (q, below, at) a = absurd (omega (arith, below))
    all_contained p (y ∷ ys) x (zero, below, at) a = subst (λ z. p z ≡ true) at (and_parts (p y) (list_all p ys) a).0
    all_contained p (y ∷ ys) x (suc q, below, at) a = all_contained p ys x (q, omega (arith, below), at) (and_parts (p y) (list_all p ys) a).1

reached_end : (n : ℕ) (docs : List Doc) → AreReached docs → ends_within n docs 0 ≡ true → (b k : ℕ) → k < b → k < length docs → ends_within n docs k ≡ true
reached_end n docs r h zero k below within = absurd (omega (arith, below))
reached_end n docs r h (suc b) zero below within = h
reached_end n docs r h (suc b) (suc k) below within =
    let p = r (suc k) (omega arith) within in
    leads_end n docs p.0 (suc k) p.2.0 p.2.1 p.2.2 (reached_end n docs r h b p.0 (omega (arith, below, p.1)) (omega (arith, within, p.1)))

pub no_circle : (docs : List Doc) (marks : List Bool) → AreReached docs → is_marked marks 0 ≡ true → AreEnds (length docs) docs marks → has_no_circle docs ≡ true
no_circle docs marks r m ends = each_from (length docs) docs (length docs) (λ k b. reached_end (length docs) docs r (ends 0 m) (length docs) k b b)

-- ---- what is found in lists

pub at_index : {A : Type 0} (xs : List A) (k : ℕ) (x : A) → k < length xs → x ≡ get_or xs k x → slice_get xs k ≡ Some x
at_index [] k x below e = absurd (omega arith)
at_index (y ∷ ys) zero x below e = ap Some (sym e)
at_index (y ∷ ys) (suc k) x below e = at_index ys k x (omega arith) e

-- no document before the next one is such
pub none_more : (docs : List Doc) (marks : List Bool) (n : ℕ) → ((k : ℕ) → k < n → is_next docs marks k ≡ false) → is_next docs marks n ≡ false
    → (k : ℕ) → k < n + 1 → is_next docs marks k ≡ false
none_more docs marks n before at k below =
    elim (cases_eq k n) as (λ s. is_next docs marks k ≡ false) [
      | inl e ↦ subst (λ j. is_next docs marks j ≡ false) (sym e) at
      | inr ne ↦ before k (under k n below ne)
    ]
  where
    under : (k n : ℕ) → k < n + 1 → (k ≡ n → ⊥) → k < n
    under k n below ne = omega (arith, ne)

-- ---- chains

pub chain_more : (docs : List Doc) (j : ℕ) (xs : List ℕ) (k e : ℕ) (s : Span) → IsChain docs j xs k → LeadsAt docs k s e → IsChain docs j (xs ++ e ∷ []) e
chain_more docs j [] k e s c h = ((s, subst (λ (x : ℕ). LeadsAt docs x s e) (sym c) h), refl)
chain_more docs j (x ∷ xs) k e s c h = (c.0, chain_more docs x xs k e s c.1 h)

pub leads_more : (docs : List Doc) (j k e : ℕ) (s : Span) → Leads docs j k → LeadsAt docs k s e → Leads docs j e
leads_more docs j k e s l h = (l.0 ++ e ∷ [], chain_more docs j l.0 k e s l.1 h)

contains_later : {A : Type 0} (x y : A) (ys : List A) → Contains ys x → Contains (y ∷ ys) x
contains_later x y ys h = (suc h.0, omega (arith, h.1), h.2)

-- ---- the first link to a document without a mark

open_from : (b : Bool) (o p : Option (ℕ × Span)) (x : ℕ × Span) → (if b then o else p) ≡ Some x → ((b ≡ true) × (o ≡ Some x)) ⊎ ((b ≡ false) × (p ≡ Some x))
open_from true o p x h = inl (refl, h)
open_from false o p x h = inr (refl, h)

none_some : (x : ℕ × Span) → None ≡ Some x → ⊥
none_some x e = cc

pub open_place : (marks : List Bool) (is : List Import) (ls : List Link) (x : ℕ × Span) → open_link marks is ls ≡ Some x
    → (is_marked marks x.0 ≡ false) × Contains (places is ls) x
open_place marks [] ls x h = absurd (none_some x h)
open_place marks (i ∷ is) [] x h = absurd (none_some x h)
open_place marks (i ∷ is) (l ∷ ls) x h =
    let first : ℕ × Span = (l.doc, span_of i) in
    elim (open_from (is_marked marks l.doc) (open_link marks is ls) (Some first) x h)
    as (λ c. (is_marked marks x.0 ≡ false) × Contains (places (i ∷ is) (l ∷ ls)) x) [
      | inl p ↦ let r = open_place marks is ls x p.1 in (r.0, contains_later x first (places is ls) r.1)
      | inr p ↦ let e = same_Some first x p.1 in (subst (λ (y : ℕ × Span). is_marked marks y.0 ≡ false) e p.0, (0, omega arith, e))
    ]

open_none_on : (marks : List Bool) (l : Link) (ls : List Link) (o : Option (ℕ × Span)) (x : ℕ × Span) (b : Bool) → is_marked marks l.doc ≡ b
    → (if b then o else Some x) ≡ None → (o ≡ None → all_marked marks ls ≡ true) → all_marked marks (l ∷ ls) ≡ true
open_none_on marks l ls o x true e g rest = and_from (is_marked marks l.doc) (all_marked marks ls) e (rest g)
open_none_on marks l ls o x false e g rest = absurd (none_some x (sym g))

pub open_none : (docs : List Doc) (base : List ℕ) (marks : List Bool) (is : List Import) (ls : List Link)
    → open_link marks is ls ≡ None → are_links docs base is ls ≡ true → all_marked marks ls ≡ true
open_none docs base marks [] [] h k = refl
open_none docs base marks [] (l ∷ ls) h k = absurd (false≢true k)
open_none docs base marks (i ∷ is) [] h k = absurd (false≢true k)
open_none docs base marks (i ∷ is) (l ∷ ls) h k =
    let p = and_parts (bytes_eq l.namespace (namespace_of i) && is_at (slice_get docs l.doc) (resolve base (uri_of i))) (are_links docs base is ls) k in
    open_none_on marks l ls (open_link marks is ls) (l.doc, span_of i) (is_marked marks l.doc) refl h (λ e. open_none docs base marks is ls e p.1)

-- ---- links lead to documents of the list

pub at_some : (o : Option Doc) (p : Option (List ℕ)) → is_at o p ≡ true → o ≡ None → ⊥
at_some None p h e = false≢true h
at_some (Some d) p h e = none_some_doc (sym e)
  where
    none_some_doc : None ≡ Some d → ⊥
    none_some_doc e = cc

get_within : (docs : List Doc) (j : ℕ) → (slice_get docs j ≡ None → ⊥) → j < length docs
get_within [] j h = absurd (h refl)
get_within (d ∷ ds) zero h = omega arith
get_within (d ∷ ds) (suc j) h = let r = get_within ds j h in omega (arith, r)

pub place_within : (docs : List Doc) (base : List ℕ) (is : List Import) (ls : List Link) (k : ℕ) (x : ℕ × Span)
    → are_links docs base is ls ≡ true → k < length (places is ls) → slice_index_or (places is ls) k x ≡ x → x.0 < length docs
place_within docs base [] ls k x h below at = absurd (omega arith)
place_within docs base (i ∷ is) [] k x h below at = absurd (omega arith)
place_within docs base (i ∷ is) (l ∷ ls) zero x h below at =
    let p = and_parts (bytes_eq l.namespace (namespace_of i) && is_at (slice_get docs l.doc) (resolve base (uri_of i))) (are_links docs base is ls) h in
    let q = and_parts (bytes_eq l.namespace (namespace_of i)) (is_at (slice_get docs l.doc) (resolve base (uri_of i))) p.0 in
    subst (λ (y : ℕ × Span). y.0 < length docs) at (get_within docs l.doc (at_some (slice_get docs l.doc) (resolve base (uri_of i)) q.1))
place_within docs base (i ∷ is) (l ∷ ls) (suc k) x h below at =
    let p = and_parts (bytes_eq l.namespace (namespace_of i) && is_at (slice_get docs l.doc) (resolve base (uri_of i))) (are_links docs base is ls) h in
    place_within docs base is ls k x p.1 (omega arith) at

-- ---- the next document of a chain

get_marked : (marks : List Bool) (j : ℕ) → j < length marks → is_marked marks j ≡ false → slice_get marks j ≡ Some false
get_marked [] j below h = absurd (omega arith)
get_marked (b ∷ bs) zero below h = ap Some h
get_marked (b ∷ bs) (suc j) below h = get_marked bs j (omega arith) h

pub marked_get : (marks : List Bool) (j : ℕ) → slice_get marks j ≡ Some false → is_marked marks j ≡ false
marked_get marks j h = ap is_set h

pub not_and : (a b : Bool) → a ≡ false → not a && b ≡ false → b ≡ false
not_and true b e h = absurd (true≢false e)
not_and false b e h = h

pub some_open : (docs : List Doc) (marks : List Bool) (k : ℕ) (d : Doc) → HasMarks docs marks → slice_get docs k ≡ Some d → slice_get marks k ≡ Some false
    → open_link marks (imports_of d.document) d.imports ≡ None → ⊥
some_open docs marks k d h at m o =
    let below = slice_get_within docs k d at in
    let n = not_and (is_marked marks k) (all_marked marks (links_at docs k)) (marked_get marks k m) (h.none k below) in
    let e = open_none docs d.path marks (imports_of d.document) d.imports o (all_at (has_links docs) docs k d h.linked at) in
    false≢true (sym n ∙ ap (λ l. all_marked marks (links_in l)) at ∙ e)

-- ---- walks from documents without a mark go on for ever

no_and : (a b : Bool) → b ≡ false → a && b ≡ false
no_and true b h = h
no_and false b h = refl

-- The test fails for the links, where it does for the one that is found.
open_stops : (test : ℕ → Bool) (marks : List Bool) (is : List Import) (ls : List Link) (x : ℕ × Span) → open_link marks is ls ≡ Some x → test x.0 ≡ false
    → list_all (λ (l : Link). test l.doc) ls ≡ false
open_stops test marks [] ls x h f = absurd (none_some x h)
open_stops test marks (i ∷ is) [] x h f = absurd (none_some x h)
open_stops test marks (i ∷ is) (l ∷ ls) x h f =
    elim (open_from (is_marked marks l.doc) (open_link marks is ls) (Some (l.doc, span_of i)) x h) as (λ c. list_all (λ (y : Link). test y.doc) (l ∷ ls) ≡ false) [
      | inl p ↦ no_and (test l.doc) (list_all (λ (y : Link). test y.doc) ls) (open_stops test marks is ls x p.1 f)
      | inr p ↦ ap (λ b. b && list_all (λ (y : Link). test y.doc) ls) (ap (λ (y : ℕ × Span). test y.0) (same_Some (l.doc, span_of i) x p.1) ∙ f)
    ]

open_next : (docs : List Doc) (marks : List Bool) (k : ℕ) (d : Doc) (x : ℕ × Span) → HasMarks docs marks → slice_get docs k ≡ Some d
    → open_link marks (imports_of d.document) d.imports ≡ Some x → slice_get marks x.0 ≡ Some false
open_next docs marks k d x h at o =
    let p = open_place marks (imports_of d.document) d.imports x o in
    let within = place_within docs d.path (imports_of d.document) d.imports p.1.0 x (all_at (has_links docs) docs k d h.linked at) p.1.1 p.1.2 in
    get_marked marks x.0 (omega (arith, within, h.len)) p.0

doc_at : (docs : List Doc) (k : ℕ) → k < length docs → (d : Doc) × (slice_get docs k ≡ Some d)
doc_at [] k below = absurd (omega (arith, below))
doc_at (d ∷ ds) zero below = (d, refl)
doc_at (d ∷ ds) (suc k) below = doc_at ds k (omega (arith, below))

endless : (docs : List Doc) (marks : List Bool) → HasMarks docs marks → (n k : ℕ) → k < length docs → slice_get marks k ≡ Some false → ends_within n docs k ≡ false
endless docs marks h zero k below m = refl
endless docs marks h (suc n) k below m =
    let d = doc_at docs k below in
    ap (λ o. list_all (λ (l : Link). ends_within n docs l.doc) (links_in o)) d.1
    ∙ by_link (endless docs marks h n) d.0 d.1 (open_link marks (imports_of d.0.document) d.0.imports) refl
  where
    by_link : ((j : ℕ) → j < length docs → slice_get marks j ≡ Some false → ends_within n docs j ≡ false) → (d : Doc) → slice_get docs k ≡ Some d → (o : Option (ℕ × Span)) → open_link marks (imports_of d.document) d.imports ≡ o
        → list_all (λ (l : Link). ends_within n docs l.doc) d.imports ≡ false
    by_link shorter d at None e = absurd (some_open docs marks k d h at m e)
    by_link shorter d at (Some x) e =
        let u = open_next docs marks k d x h at e in
        let within = slice_get_within marks x.0 false u in
        open_stops (ends_within n docs) marks (imports_of d.document) d.imports x e (shorter x.0 (omega (arith, within, h.len)) u)

-- The marks are those of the documents whose walks end.
mark_is_end : (docs : List Doc) (marks : List Bool) → HasMarks docs marks → (k : ℕ) → k < length docs → is_marked marks k ≡ ends_within (length docs) docs k
mark_is_end docs marks h k below = on (is_marked marks k) refl
  where
    on : (b : Bool) → is_marked marks k ≡ b → is_marked marks k ≡ ends_within (length docs) docs k
    on true e = e ∙ sym (h.ends k e)
    on false e = e ∙ sym (endless docs marks h (length docs) k below (get_marked marks k (omega (arith, below, h.len)) e))

link_within : (docs : List Doc) (l : Link) (p : Option (List ℕ)) → is_at (slice_get docs l.doc) p ≡ true → l.doc < length docs
link_within docs l p h = get_within docs l.doc (at_some (slice_get docs l.doc) p h)

open_is_first : (docs : List Doc) (base : List ℕ) (marks : List Bool) → HasMarks docs marks → (is : List Import) (ls : List Link) (x : ℕ × Span) → are_links docs base is ls ≡ true
    → open_link marks is ls ≡ Some x → first_endless docs (places is ls) ≡ Some x
open_is_first docs base marks h [] ls x k o = absurd (none_some x o)
open_is_first docs base marks h (i ∷ is) [] x k o = absurd (none_some x o)
open_is_first docs base marks h (i ∷ is) (l ∷ ls) x k o =
    let p = and_parts (bytes_eq l.namespace (namespace_of i) && is_at (slice_get docs l.doc) (resolve base (uri_of i))) (are_links docs base is ls) k in
    let q = and_parts (bytes_eq l.namespace (namespace_of i)) (is_at (slice_get docs l.doc) (resolve base (uri_of i))) p.0 in
    let same = mark_is_end docs marks h l.doc (link_within docs l (resolve base (uri_of i)) q.1) in
    subst (λ b. (if b then first_endless docs (places is ls) else Some (l.doc, span_of i)) ≡ Some x) same
    (on (is_marked marks l.doc) (open_link marks is ls) (first_endless docs (places is ls)) o (λ e. open_is_first docs base marks h is ls x p.1 e))
  where
    on : (b : Bool) (u v : Option (ℕ × Span)) → (if b then u else Some (l.doc, span_of i)) ≡ Some x → (u ≡ Some x → v ≡ Some x) → (if b then v else Some (l.doc, span_of i)) ≡ Some x
    on true u v e f = f e
    on false u v e f = e

pub next_open : (docs : List Doc) (marks : List Bool) (k : ℕ) (d : Doc) (x : ℕ × Span) → HasMarks docs marks → slice_get docs k ≡ Some d
    → open_link marks (imports_of d.document) d.imports ≡ Some x → IsNextOpen docs marks k x
next_open docs marks k d x h at o =
    let p = open_place marks (imports_of d.document) d.imports x o in
    record {
      leads = subst (λ (l : Option Doc). Contains (places_of l) x) (sym at) p.1;
      first = ap (λ (l : Option Doc). first_endless docs (places_of l)) at ∙ open_is_first docs d.path marks h (imports_of d.document) d.imports x (all_at (has_links docs) docs k d h.linked at) o;
      unmarked = open_next docs marks k d x h at o;
    }

-- ---- what the walk along open links has seen

contains_first : (k : ℕ) (ks : List ℕ) (v : ℕ) → v ≡ k → Contains (k ∷ ks) v
contains_first k ks v e = (0, omega arith, sym e)

contains_or : (k : ℕ) (ks : List ℕ) (v : ℕ) → Contains (k ∷ ks) v → (v ≡ k) ⊎ Contains ks v
contains_or k ks v (zero, below, e) = inl (sym e)
contains_or k ks v (suc q, below, e) = inr (q, omega (arith, below), e)

pub record HasSeen (docs : List Doc) (marks seen : List Bool) (at : ℕ) : Type 0 where
  pub len : length seen ≡ length docs
  pub unmarked_at : slice_get marks at ≡ Some false
  pub fresh : is_marked seen at ≡ false
  pub leads : (v : ℕ) → is_marked seen v ≡ true → Leads docs v at
  pub outer : List ℕ
  pub reading : AreBeingRead docs (at ∷ outer)
  pub seen_are : (v : ℕ) → is_marked seen v ≡ true → Contains outer v
  pub are_seen : (v : ℕ) → Contains outer v → is_marked seen v ≡ true

pub seen_first : (docs : List Doc) (marks seen : List Bool) → length seen ≡ length docs → ((k : ℕ) → is_marked seen k ≡ false)
    → slice_get marks 0 ≡ Some false → HasSeen docs marks seen 0
seen_first docs marks seen len none at = record {
  len = len;
  unmarked_at = at;
  fresh = none 0;
  leads = λ v h. absurd (true≢false (sym h ∙ none v));
  outer = [];
  reading = refl;
  seen_are = λ v h. absurd (true≢false (sym h ∙ none v));
  are_seen = λ v h. absurd (nothing_in v h);
}
  where
    nothing_in : (v : ℕ) → Contains [] v → ⊥
    nothing_in v h = omega (arith, h.1)

-- all that was seen leads to where the walk stands
pub seen_leads : (docs : List Doc) (marks seen : List Bool) (at : ℕ) → HasSeen docs marks seen at
    → (v : ℕ) → is_marked (slice_set seen at true) v ≡ true → Leads docs v at
seen_leads docs marks seen at h v m =
    elim (is_marked-set seen at v m) as (λ s. Leads docs v at) [ inl e ↦ ([], e) | inr old ↦ h.leads v old ]

-- and is being read
seen_again : (docs : List Doc) (marks seen : List Bool) (at : ℕ) (h : HasSeen docs marks seen at)
    → (v : ℕ) → is_marked (slice_set seen at true) v ≡ true → Contains (at ∷ h.outer) v
seen_again docs marks seen at h v m =
    elim (is_marked-set seen at v m) as (λ s. Contains (at ∷ h.outer) v) [
      | inl e ↦ contains_first at h.outer v e
      | inr old ↦ contains_later v at h.outer (h.seen_are v old)
    ]

pub at_within : (docs : List Doc) (marks seen : List Bool) (at : ℕ) → length marks ≡ length docs → HasSeen docs marks seen at → at < length docs
at_within docs marks seen at e h = let r = slice_get_within marks at false h.unmarked_at in omega (arith, r, e)

again_seen : (docs : List Doc) (marks seen : List Bool) (at : ℕ) (h : HasSeen docs marks seen at) → length marks ≡ length docs
    → (v : ℕ) → Contains (at ∷ h.outer) v → is_marked (slice_set seen at true) v ≡ true
again_seen docs marks seen at h len v c =
    let within = at_within docs marks seen at len h in
    elim (contains_or at h.outer v c) as (λ s. is_marked (slice_set seen at true) v ≡ true) [
      | inl e ↦ subst (λ x. is_marked (slice_set seen at true) x ≡ true) (sym e) (set_there seen at (omega (arith, within, h.len)))
      | inr old ↦ set_keeps seen at v (h.are_seen v old)
    ]

pub seen_more : (docs : List Doc) (marks seen : List Bool) (at : ℕ) (x : ℕ × Span) → length marks ≡ length docs → HasSeen docs marks seen at → IsNextOpen docs marks at x
    → is_marked (slice_set seen at true) x.0 ≡ false → HasSeen docs marks (slice_set seen at true) x.0
seen_more docs marks seen at x len h n fresh = record {
  len = length-set seen at true ∙ h.len;
  unmarked_at = n.unmarked;
  fresh = fresh;
  leads = λ v m. leads_more docs v at x.0 x.1 (seen_leads docs marks seen at h v m) n.leads;
  outer = at ∷ h.outer;
  reading = ((x.1, n.first), (λ c. true≢false (sym (again_seen docs marks seen at h len x.0 c) ∙ fresh)), h.reading);
  seen_are = seen_again docs marks seen at h;
  are_seen = again_seen docs marks seen at h len;
}

pub closes : (docs : List Doc) (marks seen : List Bool) (at : ℕ) (x : ℕ × Span) → HasSeen docs marks seen at → IsNextOpen docs marks at x
    → is_marked (slice_set seen at true) x.0 ≡ true → IsCircle docs x.1
closes docs marks seen at x h n m = record {
  importing = at;
  imported = x.0;
  outer = h.outer;
  reading = h.reading;
  next = n.first;
  again = seen_again docs marks seen at h x.0 m;
  leads_there = n.leads;
  leads_back = seen_leads docs marks seen at h x.0 m;
}

pub marked_none : (docs : List Doc) (marks : List Bool) → length marks ≡ length docs → 0 < length docs → is_marked marks 0 ≡ false → slice_get marks 0 ≡ Some false
marked_none docs marks len some h = get_marked marks 0 (omega (arith, len, some)) h
