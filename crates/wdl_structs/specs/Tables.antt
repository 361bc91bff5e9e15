-- The struct names of documents, one list for each document.
use Rattle.std.specs.Prelude.{◌≡◌, ℕ, Bool, true, ◌&&◌, List, [], ◌∷◌, ◌++◌, map, length, slice_get, Option, Some, None, if◌then◌else◌}
use Rattle.std.specs.List.{list_all}
use Rattle.wdl_base.specs.declared.span.Span.{Span}
use Rattle.wdl_base.specs.Names.{is_among}
use Rattle.wdl_ast.specs.declared.document.Alias.{Alias}
use Rattle.wdl_ast.specs.declared.document.Import.{Import}
use Rattle.wdl_library.specs.declared.doc.Doc.{Doc}
use Rattle.wdl_library.specs.declared.doc.Link.{Link}
use Rattle.wdl_library.specs.Sections.{imports_of}
use Rattle.wdl_library.specs.Names.{once, given, given_for, own_names, are_known}
use Rattle.wdl_structs.specs.declared.table.Entry.{Entry}
use Rattle.wdl_structs.specs.Faults.{ImportUnknown, DocUnknown}

abbrev pub Names : Type 0
Names = List (List ℕ)

-- the names of each document, by its number
abbrev pub NamesAt : Type 0
NamesAt = ℕ → Names

abbrev pub names_or : Option Names → Names
names_or None = []
names_or (Some ns) = ns

abbrev pub names_of : List Names → NamesAt
names_of tables k = names_or (slice_get tables k)

abbrev pub named : List Entry → Names
named es = map (λ e. e.name) es

-- ---- names with more names, each once

abbrev pub with_name : Names → List ℕ → Names
with_name ns n = if is_among n ns then ns else ns ++ n ∷ []

abbrev pub with_names : Names → Names → Names
with_names ns [] = ns
with_names ns (m ∷ ms) = with_names (with_name ns m) ms

abbrev pub with_groups : Names → List Names → Names
with_groups ns [] = ns
with_groups ns (g ∷ gs) = with_groups (with_names ns g) gs

-- what an import gives for each name of the imported document
abbrev pub groups : List Alias → Names → List Names
groups aliases ns = map (given_for aliases) ns

-- ---- the names that a document sees, by those of the documents that it imports

abbrev pub imported_by : NamesAt → List Import → List Link → Names
imported_by names (i ∷ is) (l ∷ ls) = given i.aliases (names l.doc) ++ imported_by names is ls
imported_by names is ls = []

abbrev pub seen_by : NamesAt → Doc → Names
seen_by names d = once (own_names d ++ imported_by names (imports_of d.document) d.imports)

-- each has the names that it sees
abbrev pub AreSeen : List Doc → List Names → Type 0
AreSeen docs tables = (length tables ≡ length docs) × ((k : ℕ) (d : Doc) → slice_get docs k ≡ Some d → names_of tables k ≡ seen_by (names_of tables) d)

abbrev pub knows_by : NamesAt → List Import → List Link → Bool
knows_by names (i ∷ is) (l ∷ ls) = are_known (names l.doc) i.aliases && knows_by names is ls
knows_by names is ls = true

-- ---- aliases

-- where an alias of a document is unknown
abbrev pub TellsUnknown : NamesAt → List Import → List Link → Option Span → Type 0
TellsUnknown names is ls None = knows_by names is ls ≡ true
TellsUnknown names is ls (Some s) = ImportUnknown names is ls s

abbrev pub all_know : NamesAt → List Doc → Bool
all_know names docs = list_all (λ d. knows_by names (imports_of d.document) d.imports) docs

-- where an alias of one of the documents is unknown
abbrev pub TellsAlias : NamesAt → List Doc → Option Span → Type 0
TellsAlias names docs None = all_know names docs ≡ true
TellsAlias names docs (Some s) = DocUnknown names docs s
