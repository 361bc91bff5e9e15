-- The struct names that a document sees.
use Rattle.std.specs.Prelude.{ℕ, Bool, true, false, ◌&&◌, not, List, [], ◌∷◌, ◌++◌, map, filter, slice_get, Option, Some, None, if◌then◌else◌}
use Rattle.std.specs.Str.{bytes_eq}
use Rattle.wdl_base.specs.Names.{is_among}
use Rattle.wdl_ast.specs.declared.document.Alias.{Alias}
use Rattle.wdl_ast.specs.declared.document.Import.{Import}
use Rattle.wdl_library.specs.declared.doc.Doc.{Doc}
use Rattle.wdl_library.specs.declared.doc.Link.{Link}
use Rattle.wdl_library.specs.declared.doc.StructName.{StructName}
use Rattle.wdl_library.specs.Sections.{imports_of, sections_of}

-- ---- lists of names

abbrev pub names_eq : List (List ℕ) → List (List ℕ) → Bool
names_eq [] [] = true
names_eq (n ∷ ns) (m ∷ ms) = bytes_eq n m && names_eq ns ms
names_eq ns ms = false

-- each name at its first place alone
abbrev pub once : List (List ℕ) → List (List ℕ)
once [] = []
once (n ∷ ns) = n ∷ filter (λ m. not (bytes_eq m n)) (once ns)

-- ---- the names that an import gives

-- the aliases of a name
abbrev pub aliases_for : List Alias → List ℕ → List (List ℕ)
aliases_for [] n = []
aliases_for (a ∷ more) n = if bytes_eq a.from.name n then a.to.name ∷ aliases_for more n else aliases_for more n

abbrev pub or_itself : List ℕ → List (List ℕ) → List (List ℕ)
or_itself n [] = n ∷ []
or_itself n (m ∷ ms) = m ∷ ms

-- a name of the imported document in the importing one: its aliases, or itself where it has none
abbrev pub given_for : List Alias → List ℕ → List (List ℕ)
given_for aliases n = or_itself n (aliases_for aliases n)

abbrev pub given : List Alias → List (List ℕ) → List (List ℕ)
given aliases [] = []
given aliases (n ∷ ns) = given_for aliases n ++ given aliases ns

-- ---- the names of a document

abbrev pub names_in : List StructName → List (List ℕ)
names_in ss = map (λ s. s.name) ss

abbrev pub structs_of : Option Doc → List StructName
structs_of None = []
structs_of (Some d) = d.structs

abbrev pub structs_at : List Doc → ℕ → List StructName
structs_at docs k = structs_of (slice_get docs k)

abbrev pub names_at : List Doc → ℕ → List (List ℕ)
names_at docs k = names_in (structs_at docs k)

abbrev pub own_names : Doc → List (List ℕ)
own_names d = map (λ s. s.name.name) (sections_of d.document)

abbrev pub imported : List Doc → List Import → List Link → List (List ℕ)
imported docs (i ∷ is) (l ∷ ls) = given i.aliases (names_at docs l.doc) ++ imported docs is ls
imported docs is ls = []

-- first those of its own struct sections, then those that its imports give, each once
abbrev pub seen : List Doc → Doc → List (List ℕ)
seen docs d = once (own_names d ++ imported docs (imports_of d.document) d.imports)

abbrev pub has_names : List Doc → Doc → Bool
has_names docs d = names_eq (names_in d.structs) (seen docs d)

-- ---- aliases

abbrev pub are_known : List (List ℕ) → List Alias → Bool
are_known ns [] = true
are_known ns (a ∷ more) = is_among a.from.name ns && are_known ns more

abbrev pub imports_are_known : List Doc → List Import → List Link → Bool
imports_are_known docs (i ∷ is) (l ∷ ls) = are_known (names_at docs l.doc) i.aliases && imports_are_known docs is ls
imports_are_known docs is ls = true

-- each alias is one of a struct that the imported document sees
abbrev pub knows_aliases : List Doc → Doc → Bool
knows_aliases docs d = imports_are_known docs (imports_of d.document) d.imports
