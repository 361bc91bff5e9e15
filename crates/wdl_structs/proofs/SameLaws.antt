-- Documents that differ in their struct names alone.
use Rattle.std.proofs.Common.{◌≡◌, ℕ, zero, suc, ◌+◌, ◌<◌, Bool, false, ◌&&◌, List, [], ◌∷◌, map, length, slice_get, Option, Some, None, refl, sym, ap, ◌∙◌, subst}
use Rattle.std.specs.Prelude.{Contains}
use Rattle.std.specs.List.{list_all}
use Rattle.std.specs.Str.{bytes_eq}
use Rattle.wdl_ast.specs.declared.document.Import.{Import}
use Rattle.wdl_ast.specs.DocumentWords.{document_words}
use Rattle.wdl_library.specs.declared.doc.Doc.{Doc}
use Rattle.wdl_library.specs.declared.doc.Link.{Link}
use Rattle.wdl_library.specs.Imports.{uri_of, namespace_of}
use Rattle.wdl_library.specs.Sections.{imports_of}
use Rattle.wdl_library.specs.Links.{tokens_in, is_path, is_at, is_link, are_links, has_links, links_in, links_at, ends_within, each_ends, has_no_circle}
use Rattle.wdl_paths.specs.Resolve.{resolve}
use Rattle.wdl_links.specs.Circles.{AreReached}
use Rattle.wdl_structs.specs.Faults.{bare, AreSameDocs}
use Rattle.wdl_structs.proofs.UniqueLaws.{same_length}

pub none_left : {A : Type 0} (x : A) (xs : List A) → [] ≡ x ∷ xs → ⊥
none_left x xs q = cc

pub heads : (x y : Doc) (xs ys : List Doc) → map bare (x ∷ xs) ≡ map bare (y ∷ ys) → (bare x ≡ bare y) × (map bare xs ≡ map bare ys)
heads x y xs ys q = ((cc), (cc))

module _ (B : Type 0) (f : Doc → B) (out : (d e : Doc) → bare d ≡ bare e → f d ≡ f e) (none : B) where
  abbrev or_none : Option Doc → B
  or_none None = none
  or_none (Some d) = f d

  -- what does not depend on the names is the same at each number
  same_part : (docs others : List Doc) (k : ℕ) → AreSameDocs docs others → or_none (slice_get docs k) ≡ or_none (slice_get others k)
  same_part [] [] k h = refl
  same_part [] (y ∷ ys) k h = absurd (none_left (bare y) (map bare ys) h)
  same_part (x ∷ xs) [] k h = absurd (none_left (bare x) (map bare xs) (sym h))
  same_part (x ∷ xs) (y ∷ ys) zero h = out x y (heads x y xs ys h).0
  same_part (x ∷ xs) (y ∷ ys) (suc k) h = same_part xs ys k (heads x y xs ys h).1

imports_same : (d e : Doc) → bare d ≡ bare e → d.imports ≡ e.imports
imports_same d e h = ap (λ (x : Doc). x.imports) h

pub same_links_at : (docs others : List Doc) (k : ℕ) → AreSameDocs docs others → links_at docs k ≡ links_at others k
same_links_at docs others k h = all (slice_get docs k) ∙ same_part (List Link) (λ d. d.imports) imports_same [] docs others k h ∙ sym (all (slice_get others k))
  where
    all : (o : Option Doc) → links_in o ≡ or_none (List Link) (λ d. d.imports) imports_same [] o
    all None = refl
    all (Some d) = refl

at_same : (p : Option (List ℕ)) (d e : Doc) → bare d ≡ bare e → is_path d.path p ≡ is_path e.path p
at_same p d e h = ap (λ (x : Doc). is_path x.path p) h

same_at : (docs others : List Doc) (k : ℕ) (p : Option (List ℕ)) → AreSameDocs docs others → is_at (slice_get docs k) p ≡ is_at (slice_get others k) p
same_at docs others k p h = all (slice_get docs k) ∙ same_part Bool (λ d. is_path d.path p) (at_same p) false docs others k h ∙ sym (all (slice_get others k))
  where
    all : (o : Option Doc) → is_at o p ≡ or_none Bool (λ d. is_path d.path p) (at_same p) false o
    all None = refl
    all (Some d) = refl

same_are : (docs others : List Doc) (base : List ℕ) (is : List Import) (ls : List Link) → AreSameDocs docs others → are_links docs base is ls ≡ are_links others base is ls
same_are docs others base [] [] h = refl
same_are docs others base [] (l ∷ ls) h = refl
same_are docs others base (i ∷ is) [] h = refl
same_are docs others base (i ∷ is) (l ∷ ls) h =
    ap (λ b. (bytes_eq l.namespace (namespace_of i) && b) && are_links docs base is ls) (same_at docs others l.doc (resolve base (uri_of i)) h)
    ∙ ap (λ b. is_link others base i l && b) (same_are docs others base is ls h)

same_all : (docs others xs ys : List Doc) → AreSameDocs docs others → AreSameDocs xs ys → list_all (has_links docs) xs ≡ list_all (has_links others) ys
same_all docs others [] [] h e = refl
same_all docs others [] (y ∷ ys) h e = absurd (none_left (bare y) (map bare ys) e)
same_all docs others (x ∷ xs) [] h e = absurd (none_left (bare x) (map bare xs) (sym e))
same_all docs others (x ∷ xs) (y ∷ ys) h e =
    let p = heads x y xs ys e in
    ap (λ b. b && list_all (has_links docs) xs) (same_are docs others x.path (imports_of x.document) x.imports h ∙ ap (λ (d : Doc). are_links others d.path (imports_of d.document) d.imports) p.0)
    ∙ ap (λ b. has_links others y && b) (same_all docs others xs ys h p.1)

pub same_linked : (docs others : List Doc) → AreSameDocs docs others → list_all (has_links docs) docs ≡ list_all (has_links others) others
same_linked docs others h = same_all docs others docs others h h

list_all-same : {A : Type 0} (p q : A → Bool) (xs : List A) → ((x : A) → p x ≡ q x) → list_all p xs ≡ list_all q xs
list_all-same p q [] h = refl
list_all-same p q (x ∷ xs) h = ap (λ b. b && list_all p xs) (h x) ∙ ap (λ b. q x && b) (list_all-same p q xs h)

same_ends : (n : ℕ) (docs others : List Doc) (k : ℕ) → AreSameDocs docs others → ends_within n docs k ≡ ends_within n others k
same_ends zero docs others k h = refl
same_ends (suc n) docs others k h =
    ap (λ (ls : List Link). list_all (λ (l : Link). ends_within n docs l.doc) ls) (same_links_at docs others k h)
    ∙ list_all-same (λ (l : Link). ends_within n docs l.doc) (λ (l : Link). ends_within n others l.doc) (links_at others k) (λ l. same_ends n docs others l.doc h)

same_each : (n : ℕ) (docs others : List Doc) (k : ℕ) → AreSameDocs docs others → each_ends n docs k ≡ each_ends n others k
same_each n docs others zero h = refl
same_each n docs others (suc k) h = ap (λ b. b && each_ends n docs k) (same_ends n docs others k h) ∙ ap (λ b. ends_within n others k && b) (same_each n docs others k h)

pub same_circle : (docs others : List Doc) → AreSameDocs docs others → has_no_circle docs ≡ has_no_circle others
same_circle docs others h = ap (λ n. each_ends n docs n) (same_length docs others h) ∙ same_each (length others) docs others (length others) h

pub same_reached : (docs others : List Doc) → AreSameDocs docs others → AreReached docs → AreReached others
same_reached docs others h r k some within =
    let x = r k some (subst (λ n. k < n) (sym (same_length docs others h)) within) in
    (x.0, x.1, (x.2.0, subst (λ (ls : List Link). Contains ls x.2.0) (same_links_at docs others x.0 h) x.2.1, x.2.2))

pub same_tokens : (docs others : List Doc) → AreSameDocs docs others → tokens_in docs ≡ tokens_in others
same_tokens [] [] h = refl
same_tokens [] (y ∷ ys) h = absurd (none_left (bare y) (map bare ys) h)
same_tokens (x ∷ xs) [] h = absurd (none_left (bare x) (map bare xs) (sym h))
same_tokens (x ∷ xs) (y ∷ ys) h =
    let p = heads x y xs ys h in
    ap (λ (d : Doc). length (document_words d.document) + tokens_in xs) p.0 ∙ ap (λ n. length (document_words y.document) + n) (same_tokens xs ys p.1)
