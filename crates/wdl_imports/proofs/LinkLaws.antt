-- Links of documents.
use Rattle.std.proofs.Common.{◌≡◌, ℕ, zero, suc, ◌+◌, ◌<◌, ◌≤◌, Bool, true, false, ◌&&◌, List, [], ◌∷◌, ◌++◌, map, length, take, get_or, slice_get, Option, Some, None, Ok, Err, refl, sym, ap, ◌∙◌, subst, arith, append-nil}
use Rattle.std.specs.Prelude.{if◌then◌else◌}
use Rattle.std.specs.List.{list_all, AllZip}
use Rattle.std.specs.Str.{bytes_eq}
use Rattle.std.proofs.lemmas.Bool.{and_from}
use Rattle.std.proofs.lemmas.List.{take_more}
use Rattle.std.proofs.lemmas.Slice.Eq.{bytes_eq-Decides}
use Rattle.wdl_base.specs.Names.{is_name}
use Rattle.wdl_ast.specs.declared.document.Import.{Import}
use Rattle.wdl_library.specs.declared.doc.Doc.{Doc}
use Rattle.wdl_library.specs.declared.doc.Link.{Link}
use Rattle.wdl_library.specs.Imports.{uri_of, namespace_of}
use Rattle.wdl_library.specs.Sections.{imports_of}
use Rattle.wdl_library.specs.Links.{is_at, are_links, has_links}
use Rattle.wdl_paths.specs.Resolve.{resolve}
use Rattle.wdl_links.specs.declared.want.Want.{Want}
use Rattle.wdl_links.specs.declared.fault.LinkFault.{LinkFault}
use Rattle.wdl_links.specs.Wants.{Outcome, and_then, path_or, path_of, name_of, taken_with, want_from, want_of, wants_of, span_of}
use Rattle.wdl_sources.specs.declared.source.Source.{Source}
use Rattle.wdl_sources.specs.Walks.{paths}
use Rattle.wdl_imports.specs.Libraries.{source_of}
use Rattle.wdl_imports.specs.LinksTo.{Paths, IsFor, is_there, is_link_to, links_to, AllLinks, doc_of, AreDocs}

-- ---- what wants are made of

abbrev pub done : {A : Type 0} → A → Outcome A
done a = Ok a

pub ok_same : {A : Type 0} (x y : A) → done x ≡ done y → x ≡ y
ok_same x y e = cc

err_ok : {A : Type 0} (e : LinkFault) (y : A) → Err e ≡ done y → ⊥
err_ok e y h = cc

pub then_parts : {A B : Type 0} (o : Outcome A) (f : A → Outcome B) (b : B) → and_then o f ≡ Ok b → (a : A) × (o ≡ Ok a) × (f a ≡ Ok b)
then_parts (Ok a) f b h = (a, refl, h)
then_parts (Err e) f b h = absurd (err_ok e b h)

path_parts : (i : Import) (o : Option (List ℕ)) (p : List ℕ) → path_or i o ≡ Ok p → o ≡ Some p
path_parts i None p h = absurd (err_ok _ p h)
path_parts i (Some q) p h = ap Some (ok_same q p h)

if_parts : {A : Type 0} (b : Bool) (x y : A) (e : LinkFault) → (if b then done x else Err e) ≡ Ok y → x ≡ y
if_parts true x y e h = ok_same x y h
if_parts false x y e h = absurd (err_ok e y h)

pub want_parts : (base : List ℕ) (taken : Paths) (i : Import) (w : Want) → want_of base taken i ≡ Ok w → (resolve base (uri_of i) ≡ Some w.path) × (namespace_of i ≡ w.namespace)
want_parts base taken i w h =
    let p = then_parts (path_of base i) (λ path. and_then (name_of i) (want_from taken i path)) w h in
    let n = then_parts (name_of i) (want_from taken i p.0) w p.2 in
    let t = then_parts (taken_with taken n.0 i) (λ more. Ok (record { path = p.0; namespace = n.0; span = span_of i })) w n.2 in
    let e = ok_same _ w t.2 in (
      path_parts i (resolve base (uri_of i)) p.0 p.1 ∙ ap Some (ap (λ (x : Want). x.path) e),
      if_parts (is_name (namespace_of i)) (namespace_of i) n.0 _ n.1 ∙ ap (λ (x : Want). x.namespace) e,
    )

-- ---- links by wants

pub links_for : (ps : Paths) (base : List ℕ) (taken : Paths) (is : List Import) (ws : List Want) (ls : List Link) → wants_of base taken is ≡ Ok ws → AllZip (IsFor ps) ws ls → links_to ps base is ls ≡ true
links_for ps base taken [] [] [] h z = refl
links_for ps base taken [] [] (l ∷ ls) h z = absurd z
links_for ps base taken [] (w ∷ ws) ls h z = absurd (none_left (ok_same [] (w ∷ ws) h))
  where
    none_left : [] ≡ w ∷ ws → ⊥
    none_left e = cc
links_for ps base taken (i ∷ is) ws ls h z =
    let a = then_parts (want_of base taken i) (λ w. and_then (wants_of base (taken ++ w.namespace ∷ []) is) (λ rest. Ok (w ∷ rest))) ws h in
    let b = then_parts (wants_of base (taken ++ a.0.namespace ∷ []) is) (λ rest. Ok (a.0 ∷ rest)) ws a.2 in
    let e = ok_same (a.0 ∷ b.0) ws b.2 in
    more a.0 b.0 (want_parts base taken i a.0 a.1) ls (subst (λ (x : List Want). AllZip (IsFor ps) x ls) (sym e) z) (λ rest y. links_for ps base (taken ++ a.0.namespace ∷ []) is b.0 rest b.1 y)
  where
    more : (w : Want) (ws : List Want) → (resolve base (uri_of i) ≡ Some w.path) × (namespace_of i ≡ w.namespace) → (ls : List Link) → AllZip (IsFor ps) (w ∷ ws) ls
        → ((rest : List Link) → AllZip (IsFor ps) ws rest → links_to ps base is rest ≡ true) → links_to ps base (i ∷ is) ls ≡ true
    more w ws p [] y f = absurd y
    more w ws p (l ∷ rest) y f =
        and_from (is_link_to ps base i l) (links_to ps base is rest)
        (and_from (bytes_eq l.namespace (namespace_of i)) (is_there (slice_get ps l.doc) (resolve base (uri_of i))) ((bytes_eq-Decides l.namespace (namespace_of i)).1 (y.0.0 ∙ sym p.1))
        (ap (is_there (slice_get ps l.doc)) p.0 ∙ ap (λ (o : Option (List ℕ)). is_there o (Some w.path)) y.0.1 ∙ (bytes_eq-Decides w.path w.path).1 refl))
        (f rest y.1)

zip_more : {X Y : Type 0} (R : X → Y → Type 0) (xs : List X) (ys : List Y) (x : X) (y : Y) → AllZip R xs ys → R x y → AllZip R (xs ++ x ∷ []) (ys ++ y ∷ [])
zip_more R [] [] x y h r = (r, tt)
zip_more R [] (b ∷ ys) x y h r = absurd h
zip_more R (a ∷ xs) [] x y h r = absurd h
zip_more R (a ∷ xs) (b ∷ ys) x y h r = (h.0, zip_more R xs ys x y h.1 r)

pub links_more : (ps : Paths) (ws : List Want) (ls : List Link) (i : ℕ) (w : Want) (l : Link) → i < length ws → w ≡ get_or ws i w → AllZip (IsFor ps) (take i ws) ls → IsFor ps w l
    → AllZip (IsFor ps) (take (i + 1) ws) (ls ++ l ∷ [])
links_more ps ws ls i w l within at h r =
    subst (λ (xs : List Want). AllZip (IsFor ps) xs (ls ++ l ∷ [])) (ap (λ (x : Want). take i ws ++ x ∷ []) at ∙ sym (take_more ws i w within)) (zip_more (IsFor ps) (take i ws) ls w l h r)

-- ---- documents of sources

abbrev pub with_links : List Source → List (List Link) → List Doc
with_links (s ∷ ss) (ls ∷ all) = doc_of s ls ∷ with_links ss all
with_links ss all = []

pub links_length : (ps : Paths) (ss : List Source) (all : List (List Link)) → AllLinks ps ss all → length all ≡ length ss
links_length ps [] [] a = refl
links_length ps [] (ls ∷ all) a = absurd a
links_length ps (s ∷ ss) [] a = absurd a
links_length ps (s ∷ ss) (ls ∷ all) a = ap suc (links_length ps ss all a.1)

with_sources : (ss : List Source) (all : List (List Link)) → length all ≡ length ss → map source_of (with_links ss all) ≡ ss
with_sources [] all h = refl
with_sources (s ∷ ss) [] h = absurd (omega (arith, h))
with_sources (s ∷ ss) (ls ∷ all) h = ap (λ r. s ∷ r) (with_sources ss all (omega (arith, h)))

paths_of : List Doc → Paths
paths_of docs = map (λ d. d.path) docs

there_at : (docs : List Doc) (k : ℕ) (p : Option (List ℕ)) → is_at (slice_get docs k) p ≡ is_there (slice_get (paths_of docs) k) p
unfolding paths_of
there_at [] k p = refl
there_at (d ∷ ds) zero p = refl
there_at (d ∷ ds) (suc k) p = there_at ds k p

links_are : (docs : List Doc) (base : List ℕ) (is : List Import) (ls : List Link) → are_links docs base is ls ≡ links_to (paths_of docs) base is ls
links_are docs base [] [] = refl
links_are docs base [] (l ∷ ls) = refl
links_are docs base (i ∷ is) [] = refl
links_are docs base (i ∷ is) (l ∷ ls) =
    ap (λ b. (bytes_eq l.namespace (namespace_of i) && b) && are_links docs base is ls) (there_at docs l.doc (resolve base (uri_of i)))
    ∙ ap (λ b. is_link_to (paths_of docs) base i l && b) (links_are docs base is ls)

with_paths : (ss : List Source) (all : List (List Link)) → length all ≡ length ss → paths_of (with_links ss all) ≡ paths ss
unfolding paths_of
with_paths [] all h = refl
with_paths (s ∷ ss) [] h = absurd (omega (arith, h))
with_paths (s ∷ ss) (ls ∷ all) h = ap (λ r. s.path ∷ r) (with_paths ss all (omega (arith, h)))

all_linked : (whole : List Doc) (ps : Paths) (ss : List Source) (all : List (List Link)) → paths_of whole ≡ ps → AllLinks ps ss all → list_all (has_links whole) (with_links ss all) ≡ true
all_linked whole ps [] [] e a = refl
all_linked whole ps [] (ls ∷ all) e a = absurd a
all_linked whole ps (s ∷ ss) [] e a = absurd a
all_linked whole ps (s ∷ ss) (ls ∷ all) e a =
    and_from (has_links whole (doc_of s ls)) (list_all (has_links whole) (with_links ss all))
    (links_are whole s.path (imports_of s.document) ls ∙ ap (λ (q : Paths). links_to q s.path (imports_of s.document) ls) e ∙ a.0) (all_linked whole ps ss all e a.1)

pub docs_are : (ss : List Source) (all : List (List Link)) → AllLinks (paths ss) ss all → AreDocs ss (with_links ss all)
docs_are ss all a =
    let l = links_length (paths ss) ss all a in
    record { sources = with_sources ss all l; links = all_linked (with_links ss all) (paths ss) ss all (with_paths ss all l) a }

pub docs_done : (ss left : List Source) (all links : List (List Link)) (docs : List Doc) → AllLinks (paths ss) ss all → length left ≤ 0 → docs ++ with_links left links ≡ with_links ss all → AreDocs ss docs
docs_done ss [] all links docs a h e = subst (AreDocs ss) (sym e ∙ append-nil docs) (docs_are ss all a)
docs_done ss (s ∷ left) all links docs a h e = absurd (omega (arith, h))

pub all_links_more : (ps : Paths) (ss : List Source) (s : Source) (all : List (List Link)) (ls : List Link) → AllLinks ps ss all → links_to ps s.path (imports_of s.document) ls ≡ true → AllLinks ps (ss ++ s ∷ []) (all ++ ls ∷ [])
all_links_more ps [] s [] ls a h = (h, tt)
all_links_more ps [] s (x ∷ all) ls a h = absurd a
all_links_more ps (t ∷ ss) s [] ls a h = absurd a
all_links_more ps (t ∷ ss) s (x ∷ all) ls a h = (a.0, all_links_more ps ss s all ls a.1 h)

pub taken_whole : (ws : List Want) (n : ℕ) → length ws ≤ n → take n ws ≡ ws
taken_whole [] zero h = refl
taken_whole [] (suc n) h = refl
taken_whole (w ∷ ws) zero h = absurd (omega (arith, h))
taken_whole (w ∷ ws) (suc n) h = ap (λ r. w ∷ r) (taken_whole ws n (omega (arith, h)))
