-- Libraries of documents that were read.
use Rattle.std.proofs.Common.{◌≡◌, ℕ, zero, suc, ◌<◌, ◌≤◌, Bool, true, false, ◌&&◌, List, [], ◌∷◌, map, length, slice_get, Option, Some, None, Result, Ok, Err, refl, sym, ap, ◌∙◌, subst, arith, inl, inr}
use Rattle.std.specs.Prelude.{nat_lt}
use Rattle.std.specs.List.{list_all}
use Rattle.std.specs.Str.{bytes_eq}
use Rattle.std.proofs.lemmas.Bool.{false≢true, and_parts, lt-ltb, ltb-true}
use Rattle.std.proofs.lemmas.Slice.Eq.{bytes_eq-Decides}
use Rattle.std.proofs.lemmas.Option.{same_Some, none-some}
use Rattle.wdl_base.specs.declared.span.Span.{Span}
use Rattle.wdl_ast.specs.declared.document.Alias.{Alias}
use Rattle.wdl_ast.specs.declared.document.Import.{Import}
use Rattle.wdl_ast.specs.declared.document.StructSection.{StructSection}
use Rattle.wdl_library.specs.declared.doc.Doc.{Doc}
use Rattle.wdl_library.specs.declared.doc.Link.{Link}
use Rattle.wdl_library.specs.declared.library.Library.{Library}
use Rattle.wdl_library.specs.Imports.{uri_of, namespace_of}
use Rattle.wdl_library.specs.Sections.{imports_of, sections_of}
use Rattle.wdl_library.specs.Links.{is_countable, tokens_in, is_at, is_link, are_links, has_links, has_no_circle, is_linked}
use Rattle.wdl_library.specs.Names.{names_at}
use Rattle.wdl_library.specs.Structs.{HasStructs}
use Rattle.wdl_paths.specs.Resolve.{resolve}
use Rattle.wdl_links.specs.declared.fault.LinkFault.{LinkFault}
use Rattle.wdl_links.specs.declared.fault.LinkFault.TheVariants as fault
use Rattle.wdl_links.specs.Circles.{IsCircle}
use Rattle.wdl_links.specs.Circles as circles
use Rattle.wdl_structs.specs.Faults.{bare, AreSameDocs, HasUnknown, ImportUnknown, HasNameFault, AreUnnamed, AreStood}
use Rattle.wdl_structs.specs.Faults as names
use Rattle.wdl_structs.proofs.IdentityLaws.{contained}
use Rattle.wdl_structs.proofs.SameLaws.{same_linked, same_circle, same_tokens}
use Rattle.wdl_structs.proofs.UniqueLaws.{same_get, same_length, one_stood}
use Rattle.wdl_structs.proofs.OneLaws.{one_structs}
use Rattle.wdl_sources.specs.declared.source.Source.{Source}
use Rattle.wdl_sources.specs.declared.fault.ImportFault.{ImportFault}
use Rattle.wdl_sources.specs.declared.fault.ImportFault.TheVariants as import
use Rattle.wdl_sources.specs.Walks.{IsWhole, HasWhole, most_documents}
use Rattle.wdl_sources.specs.Walks as walks
use Rattle.wdl_imports.specs.Libraries.{source_of, OneLibrary, IsPlaced, Gathers}
use Rattle.wdl_imports.specs.LinksTo.{AreDocs}
use Rattle.wdl_imports.specs.Numbers.{AliasesOf, ImportsOf, StructsOf, SectionsOf}
use Rattle.wdl_imports.specs.Checks.{AreWhole, IsUnmade, Makes, IsWithin, IsPlacedFault, AreRead, NoneHas, Collects}
use Rattle.wdl_imports.proofs.WalkOnce.{one_whole, stopped_short}
use Rattle.wdl_imports.proofs.CircleLaws.{circle_goes_on, circle_placed}
use Rattle.wdl_imports.proofs.ReadLaws.{one_path, are_reached, sources_length}

-- ---- a library's documents

abbrev paths_of : List Doc → List (List ℕ)
paths_of docs = map (λ d. d.path) docs

four : (a b c d : Bool) → a && b && c && d ≡ true → (a ≡ true) × (b ≡ true) × (c ≡ true) × (d ≡ true)
four false b c d h = absurd (false≢true h)
four true false c d h = absurd (false≢true h)
four true true false d h = absurd (false≢true h)
four true true true d h = (refl, refl, refl, h)

four_from : (a b c d : Bool) → a ≡ true → b ≡ true → c ≡ true → d ≡ true → a && b && c && d ≡ true
four_from false b c d p q r s = absurd (false≢true p)
four_from true false c d p q r s = absurd (false≢true q)
four_from true true false d p q r s = absurd (false≢true r)
four_from true true true d p q r s = s

pub linked_parts : (docs : List Doc) → is_linked docs ≡ true → (nat_lt 0 (length docs) ≡ true) × (is_countable (tokens_in docs) ≡ true) × (list_all (has_links docs) docs ≡ true) × (has_no_circle docs ≡ true)
linked_parts docs h = four (nat_lt 0 (length docs)) (is_countable (tokens_in docs)) (list_all (has_links docs) docs) (has_no_circle docs) h

pub made_linked : (docs others : List Doc) → AreWhole docs → has_no_circle docs ≡ true → AreSameDocs docs others → is_linked others ≡ true
made_linked docs others w ends same =
    four_from (nat_lt 0 (length others)) (is_countable (tokens_in others)) (list_all (has_links others) others) (has_no_circle others)
    (lt-ltb 0 (length others) (subst (λ n. 0 < n) (same_length docs others same) w.some)) (ap is_countable (sym (same_tokens docs others same)) ∙ w.countable)
    (sym (same_linked docs others same) ∙ w.links) (sym (same_circle docs others same) ∙ ends)

-- ---- faults in their documents

path_doc : (docs : List Doc) (k : ℕ) (p : List ℕ) → slice_get (paths_of docs) k ≡ Some p → (d : Doc) × (slice_get docs k ≡ Some d) × (d.path ≡ p)
path_doc [] k p h = absurd (none-some p h)
path_doc (d ∷ ds) zero p h = (d, refl, same_Some d.path p h)
path_doc (d ∷ ds) (suc k) p h = path_doc ds k p h

placed_in : (docs named : List Doc) (p : List ℕ) (s : Span) → AreSameDocs docs named → slice_get (paths_of docs) s.doc ≡ Some p → IsPlaced named p s
placed_in docs named p s same h =
    let d = path_doc docs s.doc p h in
    let e = same_get docs named s.doc d.0 same d.1 in
    (e.0, e.1, ap (λ (x : Doc). x.path) (sym e.2) ∙ d.2)

circle_unmade : (docs : List Doc) (code : ℕ) (p : List ℕ) (s : Span) → code ≡ 202 → IsCircle docs s → slice_get (paths_of docs) s.doc ≡ Some p → IsUnmade docs code p s
circle_unmade docs code p s e c at = record {
  named = docs;
  same = refl;
  placed = placed_in docs docs p s refl at;
  fault_is = inl (e, c);
  none = λ others structs same made. circle_goes_on docs s c (same_circle docs others same ∙ (linked_parts others made.linked).3);
}

names_unmade : (docs : List Doc) (code : ℕ) (p : List ℕ) (s : Span) → AreUnnamed docs code s → slice_get (paths_of docs) s.doc ≡ Some p → IsUnmade docs code p s
names_unmade docs code p s u at = record {
  named = u.named;
  same = u.same;
  placed = placed_in docs u.named p s u.same at;
  fault_is = inr u.fault_is;
  none = λ others structs same made. u.none others structs (record { same = same; aliases = made.aliases; structs_are = made.named });
}

alias_doc : (number : ℕ) (ns : List (List ℕ)) (aliases : List Alias) (s : Span) → AliasesOf number aliases → HasUnknown ns aliases s → s.doc ≡ number
alias_doc number ns [] s a h = absurd h
alias_doc number ns (x ∷ more) s a (inl h) = ap (λ (y : Span). y.doc) h.1 ∙ a.0
alias_doc number ns (x ∷ more) s a (inr h) = alias_doc number ns more s a.1 h

import_doc : (number : ℕ) (names : ℕ → List (List ℕ)) (is : List Import) (ls : List Link) (s : Span) → ImportsOf number is → ImportUnknown names is ls s → s.doc ≡ number
import_doc number names [] ls s a h = absurd h
import_doc number names (i ∷ is) [] s a h = absurd h
import_doc number names (i ∷ is) (l ∷ ls) s a (inl h) = alias_doc number (names l.doc) i.aliases s a.1.0 h
import_doc number names (i ∷ is) (l ∷ ls) s a (inr h) = import_doc number names is ls s a.1.1 h

struct_doc : (number : ℕ) (ss : List StructSection) (q : ℕ) (t : StructSection) → StructsOf number ss → slice_get ss q ≡ Some t → t.name.span.doc ≡ number
struct_doc number [] q t a h = absurd (none-some t h)
struct_doc number (x ∷ ss) zero t a h = ap (λ (y : StructSection). y.name.span.doc) (sym (same_Some x t h)) ∙ a.0
struct_doc number (x ∷ ss) (suc q) t a h = struct_doc number ss q t a.1 h

pub circle_made : (docs : List Doc) (f : LinkFault) (e : ImportFault) → circles.IsAnswer docs (Err f) → IsPlacedFault (paths_of docs) f e → Makes docs (Err e)
circle_made docs f (import.Read p) a h = h
circle_made docs f (import.Bad code p s) a h =
    let c : (code ≡ 202) × IsCircle docs s = subst (λ (x : LinkFault). circles.IsAnswer docs (Err x)) h.0 a in
    circle_unmade docs code p s c.0 c.1 h.1
circle_made docs f import.NoMemory a h = tt

pub names_made : (docs : List Doc) (f : LinkFault) (e : ImportFault) → names.IsAnswer docs (Err f) → IsPlacedFault (paths_of docs) f e → Makes docs (Err e)
names_made docs f (import.Read p) a h = h
names_made docs f (import.Bad code p s) a h =
    let u : AreUnnamed docs code s = subst (λ (x : LinkFault). names.IsAnswer docs (Err x)) h.0 a in
    names_unmade docs code p s u h.1
names_made docs f import.NoMemory a h = tt

path_within : (ds : List Doc) (k : ℕ) (d : Doc) → slice_get ds k ≡ Some d → k < length (paths_of ds)
path_within [] k d h = absurd (none-some d h)
path_within (x ∷ ds) zero d h = omega arith
path_within (x ∷ ds) (suc k) d h = let r = path_within ds k d h in omega (arith, r)

circle_within : (docs : List Doc) (s : Span) → AreWhole docs → IsCircle docs s → s.doc < length (paths_of docs)
circle_within docs s w c =
    let r = circle_placed docs s w.numbered c in
    path_within docs s.doc r.0 r.1

names_within : (docs : List Doc) (code : ℕ) (s : Span) → AreWhole docs → AreUnnamed docs code s → s.doc < length (paths_of docs)
names_within docs code s w u = on u.fault_is
  where
    back : (k : ℕ) (e : Doc) → slice_get u.named k ≡ Some e → (d : Doc) × (slice_get docs k ≡ Some d) × (bare e ≡ bare d)
    back k e at = same_get u.named docs k e (sym u.same) at

    sections : (k : ℕ) (e : Doc) → slice_get u.named k ≡ Some e → SectionsOf k e.document.sections
    sections k e at = let d = back k e at in subst (λ (x : Doc). SectionsOf k x.document.sections) (sym d.2) (w.numbered k d.0 d.1)

    on : HasNameFault u.named code s → s.doc < length (paths_of docs)
    on (inl h) =
        let v = h.1.unknown in
        let e = import_doc v.0 (names_at u.named) (imports_of v.1.document) v.1.imports s (sections v.0 v.1 v.2).0 v.3 in
        let d = back v.0 v.1 v.2 in
        subst (λ k. k < length (paths_of docs)) (sym e) (path_within docs v.0 d.0 d.1)
    on (inr h) =
        let v = h.1 in
        let x = v.is_second in
        let t = contained (sections_of x.doc.document) v.second x.declared in
        let e = ap (λ (y : Span). y.doc) v.place ∙ struct_doc v.second_number (sections_of x.doc.document) t.0 v.second (sections v.second_number x.doc x.at).1 t.1 in
        let d = back v.second_number x.doc x.at in
        subst (λ k. k < length (paths_of docs)) (sym e) (path_within docs v.second_number d.0 d.1)

pub circle_in : (docs : List Doc) (f : LinkFault) → AreWhole docs → circles.IsAnswer docs (Err f) → IsWithin (paths_of docs) f
circle_in docs (fault.Bad code s) w a = circle_within docs s w a.1
circle_in docs fault.NoMemory w a = tt

pub names_in : (docs : List Doc) (f : LinkFault) → AreWhole docs → names.IsAnswer docs (Err f) → IsWithin (paths_of docs) f
names_in docs (fault.Bad code s) w a = names_within docs code s w a
names_in docs fault.NoMemory w a = tt

-- ---- one list of links

there : (o : Option Doc) (p : Option (List ℕ)) → is_at o p ≡ true → (d : Doc) × (o ≡ Some d) × (p ≡ Some d.path)
there None p h = absurd (false≢true h)
there (Some d) None h = absurd (false≢true h)
there (Some d) (Some q) h = (d, refl, ap Some (sym ((bytes_eq-Decides d.path q).0 h)))

same_doc : (docs others : List Doc) (k : ℕ) (e : Doc) → map source_of docs ≡ map source_of others → slice_get others k ≡ Some e → (d : Doc) × (slice_get docs k ≡ Some d) × (source_of d ≡ source_of e)
same_doc docs [] k e h at = absurd (none-some e at)
same_doc [] (y ∷ ys) k e h at = absurd (none_left h)
  where
    none_left : [] ≡ source_of y ∷ map source_of ys → ⊥
    none_left q = cc
same_doc (x ∷ xs) (y ∷ ys) zero e h at = (x, refl, head h ∙ ap source_of (same_Some y e at))
  where
    head : source_of x ∷ map source_of xs ≡ source_of y ∷ map source_of ys → source_of x ≡ source_of y
    head q = cc
same_doc (x ∷ xs) (y ∷ ys) (suc k) e h at = same_doc xs ys k e (tail h) at
  where
    tail : source_of x ∷ map source_of xs ≡ source_of y ∷ map source_of ys → map source_of xs ≡ map source_of ys
    tail q = cc

module _ (docs others : List Doc) (same : map source_of docs ≡ map source_of others) (one : (j k : ℕ) (d e : Doc) → slice_get docs j ≡ Some d → slice_get docs k ≡ Some e → d.path ≡ e.path → j ≡ k) where
  one_links : (base : List ℕ) (is : List Import) (ls ms : List Link) → are_links docs base is ls ≡ true → are_links others base is ms ≡ true → ls ≡ ms
  one_links base [] [] [] h g = refl
  one_links base [] [] (m ∷ ms) h g = absurd (false≢true g)
  one_links base [] (l ∷ ls) ms h g = absurd (false≢true h)
  one_links base (i ∷ is) [] ms h g = absurd (false≢true h)
  one_links base (i ∷ is) (l ∷ ls) [] h g = absurd (false≢true g)
  one_links base (i ∷ is) (l ∷ ls) (m ∷ ms) h g =
      let a = and_parts (is_link docs base i l) (are_links docs base is ls) h in
      let b = and_parts (is_link others base i m) (are_links others base is ms) g in
      let c = and_parts (bytes_eq l.namespace (namespace_of i)) (is_at (slice_get docs l.doc) (resolve base (uri_of i))) a.0 in
      let d = and_parts (bytes_eq m.namespace (namespace_of i)) (is_at (slice_get others m.doc) (resolve base (uri_of i))) b.0 in
      let e = there (slice_get docs l.doc) (resolve base (uri_of i)) c.1 in
      let f = there (slice_get others m.doc) (resolve base (uri_of i)) d.1 in
      let x = same_doc docs others m.doc f.0 same f.1 in
      let namespace : l.namespace ≡ m.namespace = (bytes_eq-Decides l.namespace (namespace_of i)).0 c.0 ∙ sym ((bytes_eq-Decides m.namespace (namespace_of i)).0 d.0) in
      let path : e.0.path ≡ x.0.path = same_Some e.0.path f.0.path (sym e.2 ∙ f.2) ∙ sym (ap (λ (s : Source). s.path) x.2) in
      let number : l.doc ≡ m.doc = one l.doc m.doc e.0 x.0 e.1 x.1 path in
      let rest = one_links base is ls ms a.1 b.1 in
      λ j. record { namespace = namespace j; doc = number j } ∷ rest j

  bare_from : (xs ys : List Doc) → map source_of xs ≡ map source_of ys → list_all (has_links docs) xs ≡ true → list_all (has_links others) ys ≡ true → map bare xs ≡ map bare ys
  bare_from [] [] h a b = refl
  bare_from [] (y ∷ ys) h a b = absurd (none_left h)
    where
      none_left : [] ≡ source_of y ∷ map source_of ys → ⊥
      none_left q = cc
  bare_from (x ∷ xs) [] h a b = absurd (none_left h)
    where
      none_left : source_of x ∷ map source_of xs ≡ [] → ⊥
      none_left q = cc
  bare_from (x ∷ xs) (y ∷ ys) h a b =
      let p = heads h in
      let c = and_parts (has_links docs x) (list_all (has_links docs) xs) a in
      let d = and_parts (has_links others y) (list_all (has_links others) ys) b in
      let path : x.path ≡ y.path = ap (λ (s : Source). s.path) p.0 in
      let document : x.document ≡ y.document = ap (λ (s : Source). s.document) p.0 in
      let links = one_links y.path (imports_of y.document) x.imports y.imports (subst (λ (s : Source). are_links docs s.path (imports_of s.document) x.imports ≡ true) p.0 c.0) d.0 in
      let rest = bare_from xs ys p.1 c.1 d.1 in
      λ i. record { path = path i; document = document i; imports = links i; structs = [] } ∷ rest i
    where
      heads : source_of x ∷ map source_of xs ≡ source_of y ∷ map source_of ys → (source_of x ≡ source_of y) × (map source_of xs ≡ map source_of ys)
      heads q = ((cc), (cc))

  pub same_docs : list_all (has_links docs) docs ≡ true → list_all (has_links others) others ≡ true → AreSameDocs docs others
  same_docs a b = bare_from docs others same a b

-- ---- from documents to their sources

pub sources_of : (docs others : List Doc) → AreSameDocs docs others → map source_of docs ≡ map source_of others
sources_of [] [] h = refl
sources_of [] (y ∷ ys) h = absurd (none_left h)
  where
    none_left : [] ≡ bare y ∷ map bare ys → ⊥
    none_left q = cc
sources_of (x ∷ xs) [] h = absurd (none_left h)
  where
    none_left : bare x ∷ map bare xs ≡ [] → ⊥
    none_left q = cc
sources_of (x ∷ xs) (y ∷ ys) h =
    let p = heads h in
    let d : source_of x ≡ source_of y = ap source_of p.0 in
    let rest = sources_of xs ys p.1 in
    λ i. d i ∷ rest i
  where
    heads : bare x ∷ map bare xs ≡ bare y ∷ map bare ys → (bare x ≡ bare y) × (map bare xs ≡ map bare ys)
    heads q = ((cc), (cc))

pub collected : (ss : List Source) (docs : List Doc) (r : Result Library ImportFault) → AreRead ss → AreDocs ss docs → Makes docs r → Collects ss r
collected ss docs (Ok lib) a d m = (sym (sources_of docs lib.docs m.0) ∙ d.sources, m.1)
collected ss docs (Err (import.Read p)) a d m = m
collected ss docs (Err (import.Bad code p s)) a d m = (none, (m.named, sym (sources_of docs m.named m.same) ∙ d.sources, sym (same_linked docs m.named m.same) ∙ d.links, m.placed, m.fault_is))
  where
    whole : IsWhole a.0.0 a.0.1 (map source_of docs)
    whole = subst (λ (x : List Source). IsWhole a.0.0 a.0.1 x) (sym d.sources) a.0.2

    none : NoneHas ss
    none others structs e made =
        m.none others structs (same_docs docs others (d.sources ∙ sym e) (one_path a.0.0 a.0.1 docs whole) d.links (linked_parts others made.linked).2) made
collected ss docs (Err import.NoMemory) a d m = tt

-- ---- the call

pub gathered : (tells : List ℕ → Option (List ℕ)) (refuses : List ℕ → Type 0) (rose : Type 0) (root : List ℕ) (ss : List Source) (r : Result Library ImportFault)
    → HasWhole tells root ss → length ss ≤ most_documents → Collects ss r → Gathers tells refuses rose root r
gathered tells refuses rose root ss (Ok lib) w few c = record {
  files = w.files;
  told = w.told;
  library = record {
    whole = subst (λ (x : List Source). IsWhole w.files root x) (sym c.0) w.whole;
    few = subst (λ n. n ≤ most_documents) (sym (sym (sources_length lib.docs) ∙ ap length c.0)) few;
    linked = c.1.linked;
    aliases = c.1.aliases;
    named = c.1.named;
  };
}
gathered tells refuses rose root ss (Err (import.Read p)) w few c = absurd c
gathered tells refuses rose root ss (Err (import.Bad code p s)) w few c = record {
  files = w.files;
  told = w.told;
  none = λ docs structs lib. c.0 docs structs (one_whole w.files root (map source_of docs) ss lib.whole w.whole) (record { linked = lib.linked; aliases = lib.aliases; named = lib.named });
  cause = inr (record {
    docs = c.1.0;
    whole = subst (λ (x : List Source). IsWhole w.files root x) (sym c.1.1) w.whole;
    few = subst (λ n. n ≤ most_documents) (sym (sym (sources_length c.1.0) ∙ ap length c.1.1)) few;
    links = c.1.2;
    placed = c.1.3;
    fault_is = c.1.4;
  });
}
gathered tells refuses rose root ss (Err import.NoMemory) w few c = tt

-- reading stopped
pub stopped : (tells : List ℕ → Option (List ℕ)) (refuses : List ℕ → Type 0) (rose : Type 0) (root : List ℕ) (e : ImportFault)
    → walks.Gathers tells refuses rose root (Err e) → Gathers tells refuses rose root (Err e)
stopped tells refuses rose root (import.Read p) g = g
stopped tells refuses rose root (import.Bad code p s) g = record {
  files = g.files;
  told = g.told;
  none = λ docs structs lib. stopped_short g.files root code p s (map source_of docs) g.stopped lib.whole (subst (λ n. n ≤ most_documents) (sym (sources_length docs)) lib.few);
  cause = inl g.stopped;
}
stopped tells refuses rose root import.NoMemory g = tt

-- ---- one library

pub only_one : OneLibrary
only_one files root docs others structs more a b =
    let same = one_whole files root (map source_of docs) (map source_of others) a.whole b.whole in
    let p = linked_parts docs a.linked in
    let q = linked_parts others b.linked in
    let bares = same_docs docs others same (one_path files root docs a.whole) p.2 q.2 in
    let x : AreStood docs = record { named = a.named.named; agreeing = a.named.agreeing; first = a.named.first; joined = a.named.joined } in
    let y : AreStood others = record { named = b.named.named; agreeing = b.named.agreeing; first = b.named.first; joined = b.named.joined } in
    let e = one_stood docs others bares p.2 p.3 (are_reached files root docs a.whole p.2) x y in
    let some = ltb-true 0 (length docs) p.0 in
    (e, one_structs docs p.3 some structs more a.named (subst (λ (ds : List Doc). HasStructs ds more) (sym e) b.named))
