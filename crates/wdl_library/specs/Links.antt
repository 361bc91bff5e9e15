-- The links between the documents of a library.
use Rattle.std.specs.Prelude.{ℕ, zero, suc, ◌+◌, ◌^◌, Bool, true, false, ◌&&◌, nat_lt, List, [], ◌∷◌, length, slice_get, Option, Some, None}
use Rattle.std.specs.List.{list_all}
use Rattle.std.specs.Str.{bytes_eq}
use Rattle.wdl_ast.specs.DocumentWords.{document_words}
use Rattle.wdl_ast.specs.declared.document.Import.{Import}
use Rattle.wdl_paths.specs.Resolve.{resolve}
use Rattle.wdl_library.specs.declared.doc.Doc.{Doc}
use Rattle.wdl_library.specs.declared.doc.Link.{Link}
use Rattle.wdl_library.specs.Sections.{imports_of}
use Rattle.wdl_library.specs.Imports.{uri_of, namespace_of}

-- ---- tokens

-- fewer than 2^32
unfoldable pub is_countable : ℕ → Bool
is_countable n = nat_lt n (2 ^ 32)

abbrev pub tokens_in : List Doc → ℕ
tokens_in [] = 0
tokens_in (d ∷ ds) = length (document_words d.document) + tokens_in ds

-- ---- imports

abbrev pub is_path : List ℕ → Option (List ℕ) → Bool
is_path p None = false
is_path p (Some q) = bytes_eq p q

abbrev pub is_at : Option Doc → Option (List ℕ) → Bool
is_at None p = false
is_at (Some d) p = is_path d.path p

-- the link has the namespace of the import, and leads to the document at the path that the import names in the document at `base`
abbrev pub is_link : List Doc → List ℕ → Import → Link → Bool
is_link docs base i l = bytes_eq l.namespace (namespace_of i) && is_at (slice_get docs l.doc) (resolve base (uri_of i))

abbrev pub are_links : List Doc → List ℕ → List Import → List Link → Bool
are_links docs base [] [] = true
are_links docs base (i ∷ is) (l ∷ ls) = is_link docs base i l && are_links docs base is ls
are_links docs base is ls = false

abbrev pub has_links : List Doc → Doc → Bool
has_links docs d = are_links docs d.path (imports_of d.document) d.imports

-- ---- circles

abbrev pub links_in : Option Doc → List Link
links_in None = []
links_in (Some d) = d.imports

abbrev pub links_at : List Doc → ℕ → List Link
links_at docs k = links_in (slice_get docs k)

-- no walk along the links from document k makes as many as n steps
abbrev pub ends_within : ℕ → List Doc → ℕ → Bool
ends_within zero docs k = false
ends_within (suc n) docs k = list_all (λ l. ends_within n docs l.doc) (links_at docs k)

abbrev pub each_ends : ℕ → List Doc → ℕ → Bool
each_ends n docs zero = true
each_ends n docs (suc k) = ends_within n docs k && each_ends n docs k

-- No walk makes as many steps as there are documents. One that did would meet a document twice.
abbrev pub has_no_circle : List Doc → Bool
has_no_circle docs = each_ends (length docs) docs (length docs)

-- ---- libraries

abbrev pub is_linked : List Doc → Bool
is_linked docs = nat_lt 0 (length docs) && is_countable (tokens_in docs) && list_all (has_links docs) docs && has_no_circle docs
