-- Each name under which a document sees a struct is that of a struct section of a document.
use Rattle.std.proofs.Common.{◌≡◌, ◌⊎◌, inl, inr, ℕ, zero, suc, ◌+◌, ◌<◌, Bool, true, false, not, cond, List, [], ◌∷◌, ◌++◌, Option, Some, None, length, map, slice_get, refl, sym, ap, subst, ◌∙◌, arith}
use Rattle.std.specs.Prelude.{filter}
use Rattle.std.specs.List.{list_all}
use Rattle.std.specs.Str.{bytes_eq}
use Rattle.std.proofs.lemmas.Bool.{and_parts, cases_lt, false≢true}
use Rattle.wdl_ast.specs.declared.document.Alias.{Alias}
use Rattle.wdl_ast.specs.declared.document.Import.{Import}
use Rattle.wdl_ast.specs.declared.document.StructSection.{StructSection}
use Rattle.wdl_library.specs.declared.doc.Doc.{Doc}
use Rattle.wdl_library.specs.declared.doc.Link.{Link}
use Rattle.wdl_library.specs.Links.{each_ends, ends_within, has_no_circle, links_in}
use Rattle.wdl_library.specs.Names.{given, given_for, has_names, imported, names_at, names_eq, names_in, once, own_names, seen, structs_of}
use Rattle.wdl_library.specs.Sections.{imports_of, sections_of}
use Rattle.wdl_library.specs.Structs.{Labels, agrees, agrees_along, agrees_from, agrees_on, all_have, stand_at, stand_in}
use Rattle.wdl_base.proofs.Options.{all_at}
use Rattle.wdl_check_task.proofs.Distinct.{is_same}

abbrev pub In : {A : Type 0} → A → List A → Type 0
In x [] = ⊥
In x (y ∷ ys) = (x ≡ y) ⊎ In x ys

-- ---- lists

pub same_names : (ns ms : List (List ℕ)) → names_eq ns ms ≡ true → ns ≡ ms
same_names [] [] h = refl
same_names [] (m ∷ ms) h = absurd (false≢true h)
same_names (n ∷ ns) [] h = absurd (false≢true h)
same_names (n ∷ ns) (m ∷ ms) h =
    let p = and_parts (bytes_eq n m) (names_eq ns ms) h in
    ap (λ (x : List ℕ). x ∷ ns) (is_same n m p.0) ∙ ap (λ (xs : List (List ℕ)). m ∷ xs) (same_names ns ms p.1)

pub in_filter : {A : Type 0} (test : A → Bool) (x : A) (ys : List A) → In x (filter test ys) → In x ys
in_filter test x [] h = h
in_filter {A} test x (y ∷ ys) h = by_test (test y) (in_filter test x ys) h
  where
    by_test : (b : Bool) → (In x (filter test ys) → In x ys) → In x (cond b (y ∷ filter test ys) (filter test ys)) → In x (y ∷ ys)
    by_test true f (inl e) = inl e
    by_test true f (inr k) = inr (f k)
    by_test false f k = inr (f k)

in_once : (n : List ℕ) (ns : List (List ℕ)) → In n (once ns) → In n ns
in_once n [] h = h
in_once n (m ∷ ms) (inl e) = inl e
in_once n (m ∷ ms) (inr k) = inr (in_once n ms (in_filter (λ (x : List ℕ). not (bytes_eq x m)) n (once ms) k))

in_either : {A : Type 0} (x : A) (ys zs : List A) → In x (ys ++ zs) → In x ys ⊎ In x zs
in_either x [] zs h = inr h
in_either x (y ∷ ys) zs (inl e) = inl (inl e)
in_either x (y ∷ ys) zs (inr h) = elim (in_either x ys zs h) [ inl k ↦ inl (inr k) | inr k ↦ inr k ]

pub in_map : {A B : Type 0} (f : A → B) (y : B) (xs : List A) → In y (map f xs) → (x : A) × In x xs × (y ≡ f x)
in_map f y [] h = absurd h
in_map f y (x ∷ xs) (inl e) = (x, inl refl, e)
in_map f y (x ∷ xs) (inr h) = let r = in_map f y xs h in (r.0, inr r.1, r.2)

pub in_all_true : {A : Type 0} (test : A → Bool) (xs : List A) (x : A) → list_all test xs ≡ true → In x xs → test x ≡ true
in_all_true test [] x h k = absurd k
in_all_true test (y ∷ ys) x h (inl e) = ap test e ∙ (and_parts (test y) (list_all test ys) h).0
in_all_true test (y ∷ ys) x h (inr k) = in_all_true test ys x (and_parts (test y) (list_all test ys) h).1 k

-- ---- imports

in_given : (n : List ℕ) (aliases : List Alias) (ns : List (List ℕ)) → In n (given aliases ns) → (m : List ℕ) × In m ns × In n (given_for aliases m)
in_given n aliases [] h = absurd h
in_given n aliases (m ∷ ms) h =
    elim (in_either n (given_for aliases m) (given aliases ms) h) [
      | inl k ↦ (m, inl refl, k)
      | inr k ↦ let r = in_given n aliases ms k in (r.0, inr r.1, r.2)
    ]

has_label : (f : List ℕ → List ℕ) (x : List ℕ) (ns : List (List ℕ)) (n : List ℕ) → all_have f x ns ≡ true → In n ns → f n ≡ x
has_label f x [] n h k = absurd k
has_label f x (m ∷ ms) n h (inl e) = ap f e ∙ is_same (f m) x (and_parts (bytes_eq (f m) x) (all_have f x ms) h).0
has_label f x (m ∷ ms) n h (inr k) = has_label f x ms n (and_parts (bytes_eq (f m) x) (all_have f x ms) h).1 k

agrees_at : (label : Labels) (k j : ℕ) (aliases : List Alias) (ns : List (List ℕ)) (n m : List ℕ)
    → agrees_on label k j aliases ns ≡ true → In m ns → In n (given_for aliases m) → label k n ≡ label j m
agrees_at label k j aliases [] n m h i g = absurd i
agrees_at label k j aliases (x ∷ xs) n m h (inl e) g =
    let p = and_parts (all_have (label k) (label j x) (given_for aliases x)) (agrees_on label k j aliases xs) h in
    has_label (label k) (label j x) (given_for aliases x) n p.0 (subst (λ (y : List ℕ). In n (given_for aliases y)) e g) ∙ ap (label j) (sym e)
agrees_at label k j aliases (x ∷ xs) n m h (inr i) g =
    agrees_at label k j aliases xs n m (and_parts (all_have (label k) (label j x) (given_for aliases x)) (agrees_on label k j aliases xs) h).1 i g

module _ (docs : List Doc) where
  -- the name of an imported document for one that an import gives
  record Source (n : ℕ) (k : ℕ) (name : List ℕ) : Type 0 where
    doc : ℕ
    ends : ends_within n docs doc ≡ true
    known : List ℕ
    sees : In known (names_at docs doc)
    same : stand_at docs k name ≡ stand_at docs doc known

  source_of : (n k : ℕ) (is : List Import) (ls : List Link) (name : List ℕ)
      → agrees_along (stand_at docs) docs k is ls ≡ true → list_all (λ (l : Link). ends_within n docs l.doc) ls ≡ true → In name (imported docs is ls) → Source n k name
  source_of n k [] ls name a e h = absurd h
  source_of n k (i ∷ is) [] name a e h = absurd h
  source_of n k (i ∷ is) (l ∷ ls) name a e h =
      let p = and_parts (agrees_on (stand_at docs) k l.doc i.aliases (names_at docs l.doc)) (agrees_along (stand_at docs) docs k is ls) a in
      let q = and_parts (ends_within n docs l.doc) (list_all (λ (m : Link). ends_within n docs m.doc) ls) e in
      elim (in_either name (given i.aliases (names_at docs l.doc)) (imported docs is ls) h) [
        | inl g ↦
            let r = in_given name i.aliases (names_at docs l.doc) g in
            record { doc = l.doc; ends = q.0; known = r.0; sees = r.1; same = agrees_at (stand_at docs) k l.doc i.aliases (names_at docs l.doc) name r.0 p.0 r.1 r.2 }
        | inr g ↦ source_of n k is ls name p.1 q.1 g
      ]

  -- the section of a name
  pub record Origin (k : ℕ) (name : List ℕ) : Type 0 where
    pub number : ℕ
    pub doc : Doc
    pub at : slice_get docs number ≡ Some doc
    pub section : StructSection
    pub own : In section (sections_of doc.document)
    pub same : stand_at docs k name ≡ stand_in doc.structs section.name.name

  follow : (n k : ℕ) (name : List ℕ) (s : Source n k name) → Origin s.doc s.known → Origin k name
  follow n k name s r = record { number = r.number; doc = r.doc; at = r.at; section = r.section; own = r.own; same = s.same ∙ r.same }

  abbrev Agrees : ℕ → List Doc → Type 0
  Agrees k ds = (i : ℕ) (d : Doc) → slice_get ds i ≡ Some d → agrees_along (stand_at docs) docs (k + i) (imports_of d.document) d.imports ≡ true

  agrees_each : (k : ℕ) (ds : List Doc) → agrees_from (stand_at docs) docs k ds ≡ true → Agrees k ds
  agrees_each k [] h i d e = cc
  agrees_each k (x ∷ xs) h zero d e =
      let same : x ≡ d = cc in
      let here : k ≡ k + 0 = omega arith in
      let first = (and_parts (agrees_along (stand_at docs) docs k (imports_of x.document) x.imports) (agrees_from (stand_at docs) docs (suc k) xs) h).0 in
      subst (λ (m : ℕ). agrees_along (stand_at docs) docs m (imports_of d.document) d.imports ≡ true) here
      (subst (λ (y : Doc). agrees_along (stand_at docs) docs k (imports_of y.document) y.imports ≡ true) same first)
  agrees_each k (x ∷ xs) h (suc i) d e =
      let there : suc k + i ≡ k + suc i = omega arith in
      subst (λ (m : ℕ). agrees_along (stand_at docs) docs m (imports_of d.document) d.imports ≡ true) there
      (agrees_each (suc k) xs (and_parts (agrees_along (stand_at docs) docs k (imports_of x.document) x.imports) (agrees_from (stand_at docs) docs (suc k) xs) h).1 i d e)

  module _ (named : list_all (has_names docs) docs ≡ true) (agreeing : agrees (stand_at docs) docs ≡ true) where
    own_origin : (k : ℕ) (d : Doc) (name : List ℕ) → slice_get docs k ≡ Some d → In name (own_names d) → Origin k name
    own_origin k d name e h =
        let r = in_map (λ (s : StructSection). s.name.name) name (sections_of d.document) h in
        record {
          number = k;
          doc = d;
          at = e;
          section = r.0;
          own = r.1;
          same = ap (λ (o : Option Doc). stand_in (structs_of o) name) e ∙ ap (stand_in d.structs) r.2;
        }

    pub origin : (n k : ℕ) (name : List ℕ) → ends_within n docs k ≡ true → In name (names_at docs k) → Origin k name
    origin zero k name e h = absurd (false≢true e)
    origin (suc n) k name e h = by_doc (λ j m a b. origin n j m a b) (slice_get docs k) refl
      where
        by_doc : ((j : ℕ) (m : List ℕ) → ends_within n docs j ≡ true → In m (names_at docs j) → Origin j m) → (o : Option Doc) → slice_get docs k ≡ o → Origin k name
        by_doc before None g = absurd (subst (λ (o : Option Doc). In name (names_in (structs_of o))) g h)
        by_doc before (Some d) g =
            let sees = subst (λ (o : Option Doc). In name (names_in (structs_of o))) g h in
            let all = subst (In name) (same_names (names_in d.structs) (seen docs d) (all_at (has_names docs) docs k d named g)) sees in
            let ends = subst (λ (o : Option Doc). list_all (λ (l : Link). ends_within n docs l.doc) (links_in o) ≡ true) g e in
            elim (in_either name (own_names d) (imported docs (imports_of d.document) d.imports) (in_once name _ all)) [
              | inl i ↦ own_origin k d name g i
              | inr i ↦
                  let start : 0 + k ≡ k = omega arith in
                  let agreed = subst (λ (m : ℕ). agrees_along (stand_at docs) docs m (imports_of d.document) d.imports ≡ true) start (agrees_each 0 docs agreeing k d g) in
                  let s = source_of n k (imports_of d.document) d.imports name agreed ends i in
                  follow n k name s (before s.doc s.known s.ends s.sees)
            ]

    ends_each : (n m k : ℕ) → each_ends n docs m ≡ true → k < m → ends_within n docs k ≡ true
    ends_each n zero k e h = absurd (omega arith)
    ends_each n (suc m) k e h =
        let p = and_parts (ends_within n docs m) (each_ends n docs m) e in
        elim (cases_lt k m) [
          | inl l ↦ ends_each n m k p.1 l
          | inr l ↦ let same : m ≡ k = omega arith in subst (λ (i : ℕ). ends_within n docs i ≡ true) same p.0
        ]

    within_some : {A : Type 0} (xs : List A) (k : ℕ) (x : A) → slice_get xs k ≡ Some x → k < length xs
    within_some [] k x e = cc
    within_some (y ∷ ys) zero x e = omega arith
    within_some (y ∷ ys) (suc k) x e = let h = within_some ys k x e in omega (arith, h)

    pub origin_at : (k : ℕ) (d : Doc) (name : List ℕ) → has_no_circle docs ≡ true → slice_get docs k ≡ Some d → In name (names_in d.structs) → Origin k name
    origin_at k d name circle e h =
        origin (length docs) k name (ends_each (length docs) (length docs) k circle (within_some docs k d e))
        (subst (λ (o : Option Doc). In name (names_in (structs_of o))) (sym e) h)
