-- The order in which documents are read: depth first, in the order of the imports, each path once.
use Rattle.std.specs.Prelude.{◌≡◌, ◌⊎◌, ℕ, ◌≤◌, List, [], ◌∷◌, ◌++◌, map, length, Option, Result, Ok, Err, if◌then◌else◌}
use Rattle.wdl_base.specs.declared.span.Span.{Span}
use Rattle.wdl_base.specs.Names.{is_among}
use Rattle.wdl_port.specs.Files.{IsFile}
use Rattle.wdl_links.specs.declared.fault.LinkFault.TheVariants as fault
use Rattle.wdl_ast.specs.declared.document.Document.{Document}
use Rattle.wdl_library.specs.Sections.{imports_of}
use Rattle.wdl_sources.specs.declared.source.Source.{Source}
use Rattle.wdl_links.specs.declared.want.Want.{Want}
use Rattle.wdl_sources.specs.declared.walk.Step.{Step}
use Rattle.wdl_sources.specs.declared.source.SourceFault.{SourceFault}
use Rattle.wdl_sources.specs.declared.source.SourceFault.TheVariants as source
use Rattle.wdl_sources.specs.declared.fault.ImportFault.{ImportFault}
use Rattle.wdl_sources.specs.declared.fault.ImportFault.TheVariants as import
use Rattle.wdl_sources.specs.Reading.{IsRead, IsTextFault}
use Rattle.wdl_links.specs.Wants.{wants_of}

-- the bytes that are read at each path
abbrev pub Files : Type 0
Files = List ℕ → List ℕ

-- they are those of a shelf, where it tells them
abbrev pub AreFiles : (List ℕ → Option (List ℕ)) → Files → Type 0
AreFiles tells files = (p : List ℕ) → IsFile (tells p) (files p)

abbrev pub paths : List Source → List (List ℕ)
paths ss = map (λ s. s.path) ss

-- the steps from the first whose path was not read
abbrev pub unread : List (List ℕ) → List Step → List Step
unread read [] = []
unread read (w ∷ ws) = if is_among w.path read then unread read ws else w ∷ ws

-- the step to a document that the document at `base` imports
abbrev pub step_of : List ℕ → Want → Step
step_of base w = record { path = w.path; base = base; span = w.span }

-- the steps to the documents that the document at `base` imports
abbrev pub steps_from : List ℕ → List Want → List Step
steps_from base ws = map (step_of base) ws

-- the step to the document that is named
abbrev pub first_step : List ℕ → Step
first_step p = record { path = p; base = p; span = record { doc = 0; start = 0; end = 0 } }

-- The document is read at a step: it has that path, its number is that of the documents before it, and the documents that it imports
-- are read before what waits behind it.
pub record IsStep (files : Files) (read : List (List ℕ)) (waiting : List Step) (s : Source) (next : List Step) : Type 0 where
  pub step : Step
  pub behind : List Step
  pub wants : List Want
  pub first : unread read waiting ≡ step ∷ behind
  pub path : s.path ≡ step.path
  pub is_read : IsRead (length read) (files s.path) s.document
  pub imports : wants_of s.path [] (imports_of s.document) ≡ Ok wants
  pub then_ : next ≡ steps_from s.path wants ++ behind

-- these documents are read in this order, and then these steps wait
abbrev pub Walk : Files → List (List ℕ) → List Step → List Source → List Step → Type 0
Walk files read waiting [] rest = rest ≡ waiting
Walk files read waiting (s ∷ ss) rest = (next : List Step) × IsStep files read waiting s next × Walk files (read ++ s.path ∷ []) next ss rest

-- the documents that are read first of all that the document at the path leads to
abbrev pub IsFront : Files → List ℕ → List Source → List Step → Type 0
IsFront files root ss rest = Walk files [] (first_step root ∷ []) ss rest

-- all of them
pub record IsWhole (files : Files) (root : List ℕ) (ss : List Source) : Type 0 where
  pub rest : List Step
  pub front : IsFront files root ss rest
  pub whole : unread (paths ss) rest ≡ []

-- ---- why there are no such documents

unfoldable pub most_documents : ℕ
most_documents = 64

-- the document at the next step has imports of which one is wrong
pub record HasBadImport (files : Files) (number : ℕ) (p : List ℕ) (code : ℕ) (s : Span) : Type 0 where
  pub document : Document
  pub is_read : IsRead number (files p) document
  pub refused : wants_of p [] (imports_of document) ≡ Err (fault.Bad code s)

-- why the next step is not taken: the document is one too many, its bytes are no document, or one of its imports is wrong
abbrev pub IsStopped : Files → ℕ → Step → ℕ → List ℕ → Span → Type 0
IsStopped files number step code p s =
    ((code ≡ 205) × (most_documents ≤ number) × (p ≡ step.base) × (s ≡ step.span))
    ⊎ ((p ≡ step.path) × (IsTextFault number (files p) code s ⊎ HasBadImport files number p code s))

-- some documents are read first, and the next step is not taken
pub record HasStopped (files : Files) (root : List ℕ) (code : ℕ) (p : List ℕ) (s : Span) : Type 0 where
  pub sources : List Source
  pub waiting : List Step
  pub step : Step
  pub behind : List Step
  pub front : IsFront files root sources waiting
  pub first : unread (paths sources) waiting ≡ step ∷ behind
  pub stopped : IsStopped files (length sources) step code p s

-- the path is that of the next step, behind some documents that are read first: it is the given one, or that of an import of one of them
pub record IsReached (files : Files) (root p : List ℕ) : Type 0 where
  pub sources : List Source
  pub waiting : List Step
  pub step : Step
  pub behind : List Step
  pub front : IsFront files root sources waiting
  pub first : unread (paths sources) waiting ≡ step ∷ behind
  pub at_step : p ≡ step.path

-- ---- one file

-- the file at a path: its document, or why there is none
abbrev pub Fetches : Option (List ℕ) → Type 0 → Type 0 → ℕ → Result Document SourceFault → Type 0
Fetches told refused rose number (Ok d) = (bytes : List ℕ) × IsFile told bytes × IsRead number bytes d
Fetches told refused rose number (Err source.Failed) = refused × rose
Fetches told refused rose number (Err (source.Bad code s)) = (bytes : List ℕ) × IsFile told bytes × IsTextFault number bytes code s
Fetches told refused rose number (Err source.NoMemory) = Unit {0}

-- no fault was counted where the bytes were read, whatever they are
abbrev pub FetchCounts : Result Document SourceFault → ℕ → ℕ → Type 0
FetchCounts (Ok d) before now = now ≡ before
FetchCounts (Err source.Failed) before now = Unit {0}
FetchCounts (Err (source.Bad code s)) before now = now ≡ before
FetchCounts (Err source.NoMemory) before now = Unit {0}

-- no fault was counted where all bytes were read that the answer rests on
abbrev pub Counts : {A : Type 0} → Result A ImportFault → ℕ → ℕ → Type 0
Counts (Ok a) before now = now ≡ before
Counts (Err (import.Read p)) before now = Unit {0}
Counts (Err (import.Bad code p s)) before now = now ≡ before
Counts (Err import.NoMemory) before now = Unit {0}

-- ---- one step

-- the source at a path, or why there is none
abbrev pub IsSource : (told : Option (List ℕ)) → Type 0 → Type 0 → List ℕ → ℕ → Result Source ImportFault → Type 0
IsSource told refused rose path number (Ok s) = (s.path ≡ path) × ((bytes : List ℕ) × IsFile told bytes × IsRead number bytes s.document)
IsSource told refused rose path number (Err (import.Read p)) = (p ≡ path) × refused × rose
IsSource told refused rose path number (Err (import.Bad code p s)) = (p ≡ path) × ((bytes : List ℕ) × IsFile told bytes × IsTextFault number bytes code s)
IsSource told refused rose path number (Err import.NoMemory) = Unit {0}

-- what a source imports, or what is wrong with it
abbrev pub Imports : Source → Result (Source × List Want) ImportFault → Type 0
Imports source (Ok r) = (r.0 ≡ source) × (wants_of source.path [] (imports_of source.document) ≡ Ok r.1)
Imports source (Err (import.Read p)) = ⊥
Imports source (Err (import.Bad code p s)) = (p ≡ source.path) × (wants_of source.path [] (imports_of source.document) ≡ Err (fault.Bad code s))
Imports source (Err import.NoMemory) = Unit {0}

-- a source is read at a step, and what it imports waits before the rest
pub record IsTaken (told : Option (List ℕ)) (step : Step) (old new : List Source) (waiting next : List Step) : Type 0 where
  pub source : Source
  pub bytes : List ℕ
  pub wants : List Want
  pub path : source.path ≡ step.path
  pub file : IsFile told bytes
  pub is_read : IsRead (length old) bytes source.document
  pub imports : wants_of source.path [] (imports_of source.document) ≡ Ok wants
  pub sources : new ≡ old ++ source ∷ []
  pub then_ : next ≡ steps_from source.path wants ++ waiting

-- the step is not taken, and the bytes at its path say why, where there is place for one more document
pub record IsUntaken (told : Option (List ℕ)) (step : Step) (number code : ℕ) (p : List ℕ) (s : Span) : Type 0 where
  pub bytes : List ℕ
  pub file : IsFile told bytes
  pub stopped : IsStopped (λ q. bytes) number step code p s

abbrev pub Takes : (told : Option (List ℕ)) → Type 0 → Type 0 → Step → List Source → List Source → List Step → List Step → Result (Unit {0}) ImportFault → Type 0
Takes told refused rose step old new waiting next (Ok u) = IsTaken told step old new waiting next
Takes told refused rose step old new waiting next (Err (import.Read p)) = (p ≡ step.path) × refused × rose
Takes told refused rose step old new waiting next (Err (import.Bad code p s)) = IsUntaken told step (length old) code p s
Takes told refused rose step old new waiting next (Err import.NoMemory) = Unit {0}

-- ---- all documents

-- the bytes that were read so far, and the steps that wait but for those whose path was read
pub record HasRead (tells : List ℕ → Option (List ℕ)) (root : List ℕ) (sources : List Source) (waiting : List Step) : Type 0 where
  pub files : Files
  pub told : AreFiles tells files
  pub rest : List Step
  pub front : IsFront files root sources rest
  pub same : unread (paths sources) rest ≡ unread (paths sources) waiting

pub record HasWhole (tells : List ℕ → Option (List ℕ)) (root : List ℕ) (sources : List Source) : Type 0 where
  pub files : Files
  pub told : AreFiles tells files
  pub whole : IsWhole files root sources

pub record IsBad (tells : List ℕ → Option (List ℕ)) (root : List ℕ) (code : ℕ) (p : List ℕ) (s : Span) : Type 0 where
  pub files : Files
  pub told : AreFiles tells files
  pub stopped : HasStopped files root code p s

-- the bytes that were read so far lead to the path, which is not read yet
pub record HasReached (tells : List ℕ → Option (List ℕ)) (root p : List ℕ) : Type 0 where
  pub files : Files
  pub told : AreFiles tells files
  pub reached : IsReached files root p

-- all documents that a path leads to, or why there are none
abbrev pub Gathers : (tells : List ℕ → Option (List ℕ)) → (List ℕ → Type 0) → Type 0 → List ℕ → Result (List Source) ImportFault → Type 0
Gathers tells refuses rose root (Ok sources) = HasWhole tells root sources × (length sources ≤ most_documents)
Gathers tells refuses rose root (Err (import.Read p)) = HasReached tells root p × refuses p × rose
Gathers tells refuses rose root (Err (import.Bad code p s)) = IsBad tells root code p s
Gathers tells refuses rose root (Err import.NoMemory) = Unit {0}
