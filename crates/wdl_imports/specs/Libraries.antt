-- The library of a document: that document and all that it imports.
use Rattle.std.specs.Prelude.{◌≡◌, ◌⊎◌, ℕ, ◌≤◌, true, List, map, length, slice_get, Option, Some, Result, Ok, Err}
use Rattle.std.specs.List.{list_all}
use Rattle.wdl_base.specs.declared.span.Span.{Span}
use Rattle.wdl_value.specs.declared.ty.StructDef.{StructDef}
use Rattle.wdl_library.specs.declared.doc.Doc.{Doc}
use Rattle.wdl_library.specs.declared.library.Library.{Library}
use Rattle.wdl_library.specs.Links.{has_links, is_linked}
use Rattle.wdl_library.specs.Names.{knows_aliases}
use Rattle.wdl_library.specs.Structs.{HasStructs}
use Rattle.wdl_links.specs.Circles.{IsCircle}
use Rattle.wdl_structs.specs.Faults.{HasNameFault}
use Rattle.wdl_sources.specs.declared.source.Source.{Source}
use Rattle.wdl_sources.specs.declared.fault.ImportFault.{ImportFault}
use Rattle.wdl_sources.specs.declared.fault.ImportFault.TheVariants as import
use Rattle.wdl_sources.specs.Walks.{Files, AreFiles, IsWhole, HasReached, HasStopped, most_documents}

abbrev pub source_of : Doc → Source
source_of d = record { path = d.path; document = d.document }

-- Documents and structs are the library of the document at a path, for the bytes that are read at each path. The documents are those
-- that this one leads to, depth first in the order of the imports, each once; each has one link for each of its imports, to the document
-- at the path that the import names; no links form a circle; each alias is one of a struct that the imported document sees; and the
-- struct names of each document and the structs are those of these documents.
pub record IsLibrary (files : Files) (root : List ℕ) (docs : List Doc) (structs : List StructDef) : Type 0 where
  pub whole : IsWhole files root (map source_of docs)
  pub few : length docs ≤ most_documents
  pub linked : is_linked docs ≡ true
  pub aliases : list_all (knows_aliases docs) docs ≡ true
  pub named : HasStructs docs structs

-- a path and the bytes at each path have at most one library
abbrev pub OneLibrary : Type 0
OneLibrary = (files : Files) (root : List ℕ) (docs others : List Doc) (structs more : List StructDef)
    → IsLibrary files root docs structs → IsLibrary files root others more → (docs ≡ others) × (structs ≡ more)

-- ---- why there is no library

-- the document that a span is of has that path
abbrev pub IsPlaced : List Doc → List ℕ → Span → Type 0
IsPlaced docs p s = (d : Doc) × (slice_get docs s.doc ≡ Some d) × (d.path ≡ p)

-- 202, 206 or 204, and why
abbrev pub HasDocsFault : List Doc → ℕ → Span → Type 0
HasDocsFault docs code s = ((code ≡ 202) × IsCircle docs s) ⊎ HasNameFault docs code s

-- all documents that the one at the path leads to, with their links, are amiss at the span
pub record AreAmiss (files : Files) (root : List ℕ) (code : ℕ) (p : List ℕ) (s : Span) : Type 0 where
  pub docs : List Doc
  pub whole : IsWhole files root (map source_of docs)
  pub few : length docs ≤ most_documents
  pub links : list_all (has_links docs) docs ≡ true
  pub placed : IsPlaced docs p s
  pub fault_is : HasDocsFault docs code s

-- a document is not read, one of its imports is refused, or all documents are read and are amiss
abbrev pub HasCause : Files → List ℕ → ℕ → List ℕ → Span → Type 0
HasCause files root code p s = HasStopped files root code p s ⊎ AreAmiss files root code p s

-- ---- what is answered

-- the library, for bytes that are those of the shelf where it tells them
pub record HasLibrary (tells : List ℕ → Option (List ℕ)) (root : List ℕ) (lib : Library) : Type 0 where
  pub files : Files
  pub told : AreFiles tells files
  pub library : IsLibrary files root lib.docs lib.structs

-- no library stands for bytes that are those of the shelf where it tells them, and why
pub record HasNone (tells : List ℕ → Option (List ℕ)) (root : List ℕ) (code : ℕ) (p : List ℕ) (s : Span) : Type 0 where
  pub files : Files
  pub told : AreFiles tells files
  pub none : (docs : List Doc) (structs : List StructDef) → IsLibrary files root docs structs → ⊥
  pub cause : HasCause files root code p s

-- a library, a path that was reached and that the shelf refuses where its count rose, or a code with its document and its place
abbrev pub Gathers : (tells : List ℕ → Option (List ℕ)) → (List ℕ → Type 0) → Type 0 → List ℕ → Result Library ImportFault → Type 0
Gathers tells refuses rose root (Ok lib) = HasLibrary tells root lib
Gathers tells refuses rose root (Err (import.Read p)) = HasReached tells root p × refuses p × rose
Gathers tells refuses rose root (Err (import.Bad code p s)) = HasNone tells root code p s
Gathers tells refuses rose root (Err import.NoMemory) = Unit {0}
