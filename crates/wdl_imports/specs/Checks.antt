-- What is said of documents that were read, before their shelf and their files are.
use Rattle.std.specs.Prelude.{◌≡◌, ℕ, ◌<◌, ◌≤◌, true, List, map, length, slice_get, Some, Result, Ok, Err}
use Rattle.std.specs.List.{list_all}
use Rattle.wdl_base.specs.declared.span.Span.{Span}
use Rattle.wdl_value.specs.declared.ty.StructDef.{StructDef}
use Rattle.wdl_library.specs.declared.doc.Doc.{Doc}
use Rattle.wdl_library.specs.declared.library.Library.{Library}
use Rattle.wdl_library.specs.Links.{is_countable, tokens_in, has_links, is_linked}
use Rattle.wdl_library.specs.Names.{knows_aliases}
use Rattle.wdl_library.specs.Structs.{HasStructs}
use Rattle.wdl_links.specs.declared.fault.LinkFault.{LinkFault}
use Rattle.wdl_links.specs.declared.fault.LinkFault.TheVariants as fault
use Rattle.wdl_links.specs.Circles.{AreReached}
use Rattle.wdl_structs.specs.Faults.{AreSameDocs}
use Rattle.wdl_sources.specs.declared.source.Source.{Source}
use Rattle.wdl_sources.specs.declared.fault.ImportFault.{ImportFault}
use Rattle.wdl_sources.specs.declared.fault.ImportFault.TheVariants as import
use Rattle.wdl_sources.specs.Walks.{Files, IsWhole, most_documents}
use Rattle.wdl_imports.specs.Libraries.{source_of, IsPlaced, HasDocsFault}
use Rattle.wdl_imports.specs.Numbers.{SectionsOf}

-- the spans of each document have its number
abbrev pub AreNumbered : List Doc → Type 0
AreNumbered docs = (k : ℕ) (d : Doc) → slice_get docs k ≡ Some d → SectionsOf k d.document.sections

pub record AreWhole (docs : List Doc) : Type 0 where
  pub links : list_all (has_links docs) docs ≡ true
  pub some : 0 < length docs
  pub countable : is_countable (tokens_in docs) ≡ true
  pub reached : AreReached docs
  pub numbered : AreNumbered docs

-- the documents and the structs of a library
pub record IsMade (docs : List Doc) (structs : List StructDef) : Type 0 where
  pub linked : is_linked docs ≡ true
  pub aliases : list_all (knows_aliases docs) docs ≡ true
  pub named : HasStructs docs structs

-- some struct names of these documents show the fault, and none make a library
pub record IsUnmade (docs : List Doc) (code : ℕ) (p : List ℕ) (s : Span) : Type 0 where
  pub named : List Doc
  pub same : AreSameDocs docs named
  pub placed : IsPlaced named p s
  pub fault_is : HasDocsFault named code s
  pub none : (others : List Doc) (structs : List StructDef) → AreSameDocs docs others → IsMade others structs → ⊥

abbrev pub Makes : List Doc → Result Library ImportFault → Type 0
Makes docs (Ok lib) = AreSameDocs docs lib.docs × IsMade lib.docs lib.structs
Makes docs (Err (import.Read p)) = ⊥
Makes docs (Err (import.Bad code p s)) = IsUnmade docs code p s
Makes docs (Err import.NoMemory) = Unit {0}

-- ---- faults with their paths

abbrev pub IsWithin : List (List ℕ) → LinkFault → Type 0
IsWithin ps (fault.Bad code s) = s.doc < length ps
IsWithin ps fault.NoMemory = Unit {0}

abbrev pub IsPlacedFault : List (List ℕ) → LinkFault → ImportFault → Type 0
IsPlacedFault ps f (import.Read p) = ⊥
IsPlacedFault ps f (import.Bad code p s) = (f ≡ fault.Bad code s) × (slice_get ps s.doc ≡ Some p)
IsPlacedFault ps f import.NoMemory = Unit {0}

-- ---- sources

abbrev pub AreRead : List Source → Type 0
AreRead ss = ((files : Files) × (root : List ℕ) × IsWhole files root ss) × (length ss ≤ most_documents)

-- no library has these sources
abbrev pub NoneHas : List Source → Type 0
NoneHas ss = (docs : List Doc) (structs : List StructDef) → map source_of docs ≡ ss → IsMade docs structs → ⊥

abbrev pub Collects : List Source → Result Library ImportFault → Type 0
Collects ss (Ok lib) = (map source_of lib.docs ≡ ss) × IsMade lib.docs lib.structs
Collects ss (Err (import.Read p)) = ⊥
Collects ss (Err (import.Bad code p s)) = NoneHas ss × ((docs : List Doc) × (map source_of docs ≡ ss) × (list_all (has_links docs) docs ≡ true) × IsPlaced docs p s × HasDocsFault docs code s)
Collects ss (Err import.NoMemory) = Unit {0}
