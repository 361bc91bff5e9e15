-- What is known of documents that were read.
use Rattle.std.proofs.Common.{◌≡◌, ◌⊎◌, ℕ, zero, suc, ◌+◌, ◌*◌, ◌<◌, ◌≤◌, Bool, true, false, ◌||◌, List, [], ◌∷◌, ◌++◌, map, length, slice_get, Option, Some, None, Ok, refl, sym, ap, ◌∙◌, subst, arith, inl, inr, length-append}
use Rattle.std.specs.Prelude.{Contains}
use Rattle.std.specs.List.{list_all}
use Rattle.std.specs.Str.{bytes_eq}
use Rattle.std.proofs.lemmas.Bool.{false≢true, and_parts, or_cases, lt-ltb}
use Rattle.std.proofs.lemmas.Slice.Eq.{bytes_eq-Decides}
use Rattle.std.proofs.lemmas.Option.{same_Some, none-some}
use Rattle.wdl_base.specs.Names.{is_among}
use Rattle.wdl_ast.specs.declared.document.Import.{Import}
use Rattle.wdl_ast.specs.DocumentWords.{document_words}
use Rattle.wdl_lex.specs.Limits.{max_document}
use Rattle.wdl_library.specs.declared.doc.Doc.{Doc}
use Rattle.wdl_library.specs.declared.doc.Link.{Link}
use Rattle.wdl_library.specs.Imports.{uri_of, namespace_of}
use Rattle.wdl_library.specs.Sections.{imports_of}
use Rattle.wdl_library.specs.Links.{is_countable, tokens_in, is_at, is_link, are_links, has_links, links_in, links_at}
use Rattle.wdl_paths.specs.Resolve.{resolve}
use Rattle.wdl_links.specs.declared.want.Want.{Want}
use Rattle.wdl_links.specs.Wants.{and_then, want_of, wants_of}
use Rattle.wdl_links.specs.Circles.{AreReached}
use Rattle.wdl_sources.specs.declared.source.Source.{Source}
use Rattle.wdl_sources.specs.declared.walk.Step.{Step}
use Rattle.wdl_sources.specs.Reading.{IsRead}
use Rattle.wdl_sources.specs.Walks.{Files, paths, unread, first_step, Walk, IsWhole, most_documents}
use Rattle.wdl_imports.specs.Libraries.{source_of}
use Rattle.wdl_imports.specs.LinksTo.{Paths, wants_at, named_by, AreNamed, AreDocs}
use Rattle.wdl_imports.specs.Checks.{AreNumbered, AreWhole, AreRead}
use Rattle.wdl_imports.proofs.TokenLaws.{few_words, spans_of}
use Rattle.wdl_imports.proofs.WalkPaths.{one_number, whole_named, whole_fresh, whole_reach, reached}
use Rattle.wdl_imports.proofs.LinkLaws.{ok_same, want_parts, then_parts}
use Rattle.wdl_structs.proofs.FinalLaws.{contains_at}
use Rattle.wdl_base.proofs.Options.{item_there, all_at}

-- ---- each document is read

walk_read : (files : Files) (read : Paths) (waiting : List Step) (ss : List Source) (rest : List Step) (k : ℕ) (s : Source) → Walk files read waiting ss rest → slice_get ss k ≡ Some s
    → IsRead (length read + k) (files s.path) s.document
walk_read files read waiting [] rest k s w h = absurd (none-some s h)
walk_read files read waiting (x ∷ ss) rest zero s w h =
    let e : length read ≡ length read + 0 = omega arith in
    subst (λ (y : Source). IsRead (length read + 0) (files y.path) y.document) (same_Some x s h) (subst (λ n. IsRead n (files x.path) x.document) e w.1.is_read)
walk_read files read waiting (x ∷ ss) rest (suc k) s w h =
    let l = length-append read (x.path ∷ []) in
    let e : length (read ++ x.path ∷ []) + k ≡ length read + suc k = omega (arith, l) in
    subst (λ n. IsRead n (files s.path) s.document) e (walk_read files (read ++ x.path ∷ []) w.0 ss rest k s w.2 h)

source_at : (docs : List Doc) (k : ℕ) (d : Doc) → slice_get docs k ≡ Some d → slice_get (map source_of docs) k ≡ Some (source_of d)
source_at [] k d h = absurd (none-some d h)
source_at (c ∷ docs) zero d h = ap (λ (x : Doc). Some (source_of x)) (same_Some c d h)
source_at (c ∷ docs) (suc k) d h = source_at docs k d h

doc_at : (docs : List Doc) (k : ℕ) (s : Source) → slice_get (map source_of docs) k ≡ Some s → (d : Doc) × (slice_get docs k ≡ Some d) × (source_of d ≡ s)
doc_at [] k s h = absurd (none-some s h)
doc_at (c ∷ docs) zero s h = (c, refl, same_Some (source_of c) s h)
doc_at (c ∷ docs) (suc k) s h = doc_at docs k s h

pub sources_length : (docs : List Doc) → length (map source_of docs) ≡ length docs
sources_length [] = refl
sources_length (d ∷ ds) = ap suc (sources_length ds)

paths_same : (docs : List Doc) → paths (map source_of docs) ≡ map (λ d. d.path) docs
paths_same [] = refl
paths_same (d ∷ ds) = ap (λ r. d.path ∷ r) (paths_same ds)

path_at : (docs : List Doc) (k : ℕ) (d : Doc) → slice_get docs k ≡ Some d → slice_get (paths (map source_of docs)) k ≡ Some d.path
path_at [] k d h = absurd (none-some d h)
path_at (c ∷ docs) zero d h = ap (λ (x : Doc). Some x.path) (same_Some c d h)
path_at (c ∷ docs) (suc k) d h = path_at docs k d h

tokens_few : (docs : List Doc) → ((k : ℕ) (d : Doc) → slice_get docs k ≡ Some d → length (document_words d.document) ≤ max_document) → tokens_in docs ≤ length docs * max_document
tokens_few [] h = omega arith
tokens_few (d ∷ ds) h =
    let a = h 0 d refl in
    let r = tokens_few ds (λ k c at. h (suc k) c at) in
    omega (arith, a, r)

module _ (files : Files) (root : List ℕ) (docs : List Doc) (whole : IsWhole files root (map source_of docs)) where
  read_at : (k : ℕ) (d : Doc) → slice_get docs k ≡ Some d → IsRead k (files d.path) d.document
  read_at k d h =
      let e : 0 + k ≡ k = omega arith in
      subst (λ n. IsRead n (files d.path) d.document) e (walk_read files [] (first_step root ∷ []) (map source_of docs) whole.rest k (source_of d) whole.front (source_at docs k d h))

  pub numbered : AreNumbered docs
  numbered k d h = spans_of k (files d.path) d.document (read_at k d h)

  pub countable : length docs ≤ most_documents → is_countable (tokens_in docs) ≡ true
  unfolding is_countable most_documents
  countable few =
      let t = tokens_few docs (λ k d h. few_words k (files d.path) d.document (read_at k d h)) in
      lt-ltb (tokens_in docs) 4294967296 (below (tokens_in docs) (length docs) t few)
    where
      below : (t n : ℕ) → t ≤ n * 1048576 → n ≤ 64 → t < 4294967296
      below t n h k = omega (arith, h, k)

  pub some : 0 < length docs
  some = on docs whole
    where
      on : (ds : List Doc) → IsWhole files root (map source_of ds) → 0 < length ds
      on [] w = absurd (none_left (ap (unread []) (sym w.front) ∙ w.whole))
        where
          none_left : first_step root ∷ [] ≡ [] → ⊥
          none_left q = cc
      on (d ∷ ds) w = omega arith

  -- a path has one number
  pub one_path : (j k : ℕ) (d e : Doc) → slice_get docs j ≡ Some d → slice_get docs k ≡ Some e → d.path ≡ e.path → j ≡ k
  one_path j k d e h g p =
      one_number [] (paths (map source_of docs)) j k e.path (whole_fresh files root (map source_of docs) whole) (path_at docs j d h ∙ ap (λ (x : List ℕ). Some x) p) (path_at docs k e g)

there_some : (o : Option Doc) (p : List ℕ) → is_at o (Some p) ≡ true → (e : Doc) × (o ≡ Some e) × (e.path ≡ p)
there_some None p h = absurd (false≢true h)
there_some (Some e) p h = (e, refl, (bytes_eq-Decides e.path p).0 h)

-- the link of an import that names a path
linked_at : (docs : List Doc) (base : List ℕ) (taken : Paths) (is : List Import) (ls : List Link) (ws : List Want) (p : List ℕ) → are_links docs base is ls ≡ true → wants_of base taken is ≡ Ok ws
    → is_among p (map (λ w. w.path) ws) ≡ true → (q : ℕ) × (l : Link) × (e : Doc) × (slice_get ls q ≡ Some l) × (slice_get docs l.doc ≡ Some e) × (e.path ≡ p)
linked_at docs base taken [] ls ws p a w h =
    absurd (false≢true (ap (λ (x : List Want). is_among p (map (λ y. y.path) x)) (ok_same [] ws w) ∙ h))
linked_at docs base taken (i ∷ is) [] ws p a w h = absurd (false≢true a)
linked_at docs base taken (i ∷ is) (l ∷ ls) ws p a w h =
    let x = then_parts (want_of base taken i) (λ v. and_then (wants_of base (taken ++ v.namespace ∷ []) is) (λ rest. Ok (v ∷ rest))) ws w in
    let y = then_parts (wants_of base (taken ++ x.0.namespace ∷ []) is) (λ rest. Ok (x.0 ∷ rest)) ws x.2 in
    let e = ok_same (x.0 ∷ y.0) ws y.2 in
    let b = and_parts (is_link docs base i l) (are_links docs base is ls) a in
    let c = and_parts (bytes_eq l.namespace (namespace_of i)) (is_at (slice_get docs l.doc) (resolve base (uri_of i))) b.0 in
    let m : bytes_eq x.0.path p || is_among p (map (λ v. v.path) y.0) ≡ true = ap (λ (z : List Want). is_among p (map (λ v. v.path) z)) e ∙ h in
    elim (or_cases (bytes_eq x.0.path p) (is_among p (map (λ v. v.path) y.0)) m) as (λ z. (q : ℕ) × (k : Link) × (d : Doc) × (slice_get (l ∷ ls) q ≡ Some k) × (slice_get docs k.doc ≡ Some d) × (d.path ≡ p)) [
      | inl f ↦
          let there = there_some (slice_get docs l.doc) x.0.path (ap (is_at (slice_get docs l.doc)) (sym (want_parts base taken i x.0 x.1).0) ∙ c.1) in
          (0, l, there.0, refl, there.1, there.2 ∙ (bytes_eq-Decides x.0.path p).0 f)
      | inr f ↦ let r = linked_at docs base (taken ++ x.0.namespace ∷ []) is ls y.0 p b.1 y.1 f in (suc r.0, r.1, r.2, r.3, r.4, r.5)
    ]

named_at : (all : Paths) (ss : List Source) (j : ℕ) (t : Source) → AreNamed all ss → slice_get ss j ≡ Some t → wants_of t.path [] (imports_of t.document) ≡ Ok (wants_at t)
named_at all [] j t a h = absurd (none-some t h)
named_at all (s ∷ ss) zero t a h = subst (λ (x : Source). wants_of x.path [] (imports_of x.document) ≡ Ok (wants_at x)) (same_Some s t h) a.0.1
named_at all (s ∷ ss) (suc j) t a h = named_at all ss j t a.1 h

first_path : (files : Files) (root : List ℕ) (docs : List Doc) (d : Doc) → IsWhole files root (map source_of docs) → slice_get docs 0 ≡ Some d → d.path ≡ root
first_path files root [] d w h = absurd (none-some d h)
first_path files root (c ∷ docs) d w h =
    ap (λ (x : Doc). x.path) (sym (same_Some c d h)) ∙ w.front.1.path ∙ ap (λ (x : Step). x.path) (sym (head w.front.1.step w.front.1.behind w.front.1.first))
  where
    head : (step : Step) (behind : List Step) → first_step root ∷ [] ≡ step ∷ behind → first_step root ≡ step
    head step behind q = cc

pub are_reached : (files : Files) (root : List ℕ) (docs : List Doc) → IsWhole files root (map source_of docs) → list_all (has_links docs) docs ≡ true → AreReached docs
are_reached files root docs whole linked k more within = on (reached (root ∷ []) (map source_of docs) k (source_of d.0) (whole_reach files root (map source_of docs) whole) (source_at docs k d.0 d.1))
  where
    d : (d : Doc) × (slice_get docs k ≡ Some d)
    d = item_there docs k within

    zero_at : (e : Doc) × (slice_get docs 0 ≡ Some e)
    zero_at = item_there docs 0 (omega (arith, more, within))

    no_false : (b : Bool) → b || false ≡ true → b ≡ true
    no_false true h = refl
    no_false false h = h

    on : (is_among d.0.path (root ∷ []) ≡ true) ⊎ ((j : ℕ) × (t : Source) × (j < k) × (slice_get (map source_of docs) j ≡ Some t) × (is_among d.0.path (named_by t) ≡ true))
        → (j : ℕ) × (j < k) × ((l : Link) × Contains (links_at docs j) l × (l.doc ≡ k))
    on (inl a) =
        let p : root ≡ d.0.path = (bytes_eq-Decides root d.0.path).0 (no_false (bytes_eq root d.0.path) a) in
        let same = one_path files root docs whole 0 k zero_at.0 d.0 zero_at.1 d.1 (first_path files root docs zero_at.0 whole zero_at.1 ∙ p) in
        absurd (omega (arith, more, same))
    on (inr r) =
        let e = doc_at docs r.0 r.1 r.3 in
        let links = all_at (has_links docs) docs r.0 e.0 linked e.1 in
        let wants : wants_of e.0.path [] (imports_of e.0.document) ≡ Ok (wants_at r.1) =
        ap (λ (x : Source). wants_of x.path [] (imports_of x.document)) e.2 ∙ named_at (paths (map source_of docs)) (map source_of docs) r.0 r.1 (whole_named files root (map source_of docs) whole) r.3 in
        let l = linked_at docs e.0.path [] (imports_of e.0.document) e.0.imports (wants_at r.1) d.0.path links wants r.4 in
        (r.0, r.2, (l.1, subst (λ (o : Option Doc). Contains (links_in o) l.1) (sym e.1) (contains_at e.0.imports l.0 l.1 l.3), one_path files root docs whole l.1.doc k l.2 d.0 l.4 d.1 l.5))

pub whole_docs : (ss : List Source) (docs : List Doc) → AreRead ss → AreDocs ss docs → AreWhole docs
whole_docs ss docs r a =
    let files = r.0.0 in
    let root = r.0.1 in
    let whole : IsWhole files root (map source_of docs) = subst (λ (x : List Source). IsWhole files root x) (sym a.sources) r.0.2 in
    let few : length docs ≤ most_documents = subst (λ n. n ≤ most_documents) (sym (sym (sources_length docs) ∙ ap length a.sources)) r.1 in
    record {
      links = a.links;
      some = some files root docs whole;
      countable = countable files root docs whole few;
      reached = are_reached files root docs whole a.links;
      numbered = numbered files root docs whole;
    }
