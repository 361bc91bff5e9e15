-- The links from documents to those at the paths that their imports name.
use Rattle.std.specs.Prelude.{◌≡◌, ℕ, Bool, true, false, ◌&&◌, List, [], ◌∷◌, map, slice_get, Option, Some, None, Ok, Err}
use Rattle.std.specs.List.{list_all}
use Rattle.std.specs.Str.{bytes_eq}
use Rattle.wdl_base.specs.Names.{is_among}
use Rattle.wdl_ast.specs.declared.document.Import.{Import}
use Rattle.wdl_library.specs.declared.doc.Doc.{Doc}
use Rattle.wdl_library.specs.declared.doc.Link.{Link}
use Rattle.wdl_library.specs.Imports.{uri_of, namespace_of}
use Rattle.wdl_library.specs.Sections.{imports_of}
use Rattle.wdl_library.specs.Links.{is_path, has_links}
use Rattle.wdl_paths.specs.Resolve.{resolve}
use Rattle.wdl_links.specs.declared.want.Want.{Want}
use Rattle.wdl_links.specs.Wants.{Outcome, wants_of}
use Rattle.wdl_sources.specs.declared.source.Source.{Source}
use Rattle.wdl_imports.specs.Libraries.{source_of}

abbrev pub Paths : Type 0
Paths = List (List ℕ)

-- all of these paths are among those
abbrev pub all_among : Paths → Paths → Bool
all_among all ps = list_all (λ p. is_among p all) ps

abbrev pub or_none : Outcome (List Want) → List Want
or_none (Ok ws) = ws
or_none (Err e) = []

abbrev pub wants_at : Source → List Want
wants_at s = or_none (wants_of s.path [] (imports_of s.document))

-- the paths that the imports of a document name
abbrev pub named_by : Source → Paths
named_by s = map (λ w. w.path) (wants_at s)

-- the imports of a document are right, and name paths of the list
abbrev pub IsNamed : Paths → Source → Type 0
IsNamed all s = (all_among all (named_by s) ≡ true) × (wants_of s.path [] (imports_of s.document) ≡ Ok (wants_at s))

abbrev pub AreNamed : Paths → List Source → Type 0
AreNamed all [] = Unit {0}
AreNamed all (s ∷ ss) = IsNamed all s × AreNamed all ss

-- the link is that of the import
abbrev pub IsFor : Paths → Want → Link → Type 0
IsFor ps w l = (l.namespace ≡ w.namespace) × (slice_get ps l.doc ≡ Some w.path)

abbrev pub is_there : Option (List ℕ) → Option (List ℕ) → Bool
is_there None p = false
is_there (Some q) p = is_path q p

abbrev pub is_link_to : Paths → List ℕ → Import → Link → Bool
is_link_to ps base i l = bytes_eq l.namespace (namespace_of i) && is_there (slice_get ps l.doc) (resolve base (uri_of i))

-- one link for each import, in their order, to the document at its path
abbrev pub links_to : Paths → List ℕ → List Import → List Link → Bool
links_to ps base [] [] = true
links_to ps base (i ∷ is) (l ∷ ls) = is_link_to ps base i l && links_to ps base is ls
links_to ps base is ls = false

abbrev pub AllLinks : Paths → List Source → List (List Link) → Type 0
AllLinks ps [] [] = Unit {0}
AllLinks ps (s ∷ ss) (ls ∷ all) = (links_to ps s.path (imports_of s.document) ls ≡ true) × AllLinks ps ss all
AllLinks ps ss all = ⊥

abbrev pub doc_of : Source → List Link → Doc
doc_of s ls = record { path = s.path; document = s.document; imports = ls; structs = [] }

-- the documents of sources, each with its links
pub record AreDocs (ss : List Source) (docs : List Doc) : Type 0 where
  pub sources : map source_of docs ≡ ss
  pub links : list_all (has_links docs) docs ≡ true
