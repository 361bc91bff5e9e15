-- Circles of links.
use Rattle.std.specs.Prelude.{◌≡◌, ℕ, ◌+◌, ◌<◌, Bool, true, false, not, ◌&&◌, List, [], ◌∷◌, length, slice_get, Option, Some, None, Result, Ok, Err, if◌then◌else◌, Contains}
use Rattle.std.specs.List.{list_all}
use Rattle.wdl_base.specs.declared.span.Span.{Span}
use Rattle.wdl_ast.specs.declared.document.Import.{Import}
use Rattle.wdl_library.specs.declared.doc.Doc.{Doc}
use Rattle.wdl_library.specs.declared.doc.Link.{Link}
use Rattle.wdl_library.specs.Sections.{imports_of}
use Rattle.wdl_library.specs.Links.{has_links, links_at, ends_within, has_no_circle}
use Rattle.wdl_links.specs.declared.fault.LinkFault.{LinkFault}
use Rattle.wdl_links.specs.declared.fault.LinkFault.TheVariants as fault
use Rattle.wdl_links.specs.Wants.{span_of}

-- ---- marks of documents

abbrev pub is_set : Option Bool → Bool
is_set None = false
is_set (Some b) = b

abbrev pub is_marked : List Bool → ℕ → Bool
is_marked marks k = is_set (slice_get marks k)

abbrev pub all_marked : List Bool → List Link → Bool
all_marked marks ls = list_all (λ l. is_marked marks l.doc) ls

abbrev pub marked : List Bool → ℕ
marked [] = 0
marked (b ∷ bs) = (if b then 1 else 0) + marked bs

abbrev pub unmarked : List Bool → ℕ
unmarked [] = 0
unmarked (b ∷ bs) = (if b then 0 else 1) + unmarked bs

-- document k has no mark, and all its links lead to marked ones
abbrev pub is_next : List Doc → List Bool → ℕ → Bool
is_next docs marks k = not (is_marked marks k) && all_marked marks (links_at docs k)

-- the walks from marked documents end
abbrev pub AreEnds : ℕ → List Doc → List Bool → Type 0
AreEnds n docs marks = (k : ℕ) → is_marked marks k ≡ true → ends_within n docs k ≡ true

abbrev pub NoneIsNext : List Doc → List Bool → Type 0
NoneIsNext docs marks = (k : ℕ) → k < length docs → is_next docs marks k ≡ false

-- ---- circles

-- each link with the place of its import
abbrev pub places : List Import → List Link → List (ℕ × Span)
places (i ∷ is) (l ∷ ls) = (l.doc, span_of i) ∷ places is ls
places is ls = []

abbrev pub places_of : Option Doc → List (ℕ × Span)
places_of None = []
places_of (Some d) = places (imports_of d.document) d.imports

abbrev pub places_at : List Doc → ℕ → List (ℕ × Span)
places_at docs k = places_of (slice_get docs k)

-- the import of document k at that place leads to document j
abbrev pub LeadsAt : List Doc → ℕ → Span → ℕ → Type 0
LeadsAt docs k s j = Contains (places_at docs k) (j, s)

-- imports lead from document j over these to document k
abbrev pub IsChain : List Doc → ℕ → List ℕ → ℕ → Type 0
IsChain docs j [] k = j ≡ k
IsChain docs j (x ∷ xs) k = ((s : Span) × LeadsAt docs j s x) × IsChain docs x xs k

abbrev pub Leads : List Doc → ℕ → ℕ → Type 0
Leads docs j k = (xs : List ℕ) × IsChain docs j xs k

-- ---- reading, depth first

-- every document but the first is imported by one before it
abbrev pub AreReached : List Doc → Type 0
AreReached docs = (k : ℕ) → 0 < k → k < length docs → (j : ℕ) × (j < k) × ((l : Link) × Contains (links_at docs j) l × (l.doc ≡ k))

-- the first of these places whose document is not read to its end: some walk from it goes on for ever
abbrev pub first_endless : List Doc → List (ℕ × Span) → Option (ℕ × Span)
first_endless docs [] = None
first_endless docs (p ∷ ps) = if ends_within (length docs) docs p.0 then first_endless docs ps else Some p

-- Document j has its imports read in their order, each with all that it leads to. Those before the import at this place are read to
-- their ends, and this one, which is not, leads to document k.
abbrev pub ReadsNext : List Doc → ℕ → ℕ → Span → Type 0
ReadsNext docs j k s = first_endless docs (places_at docs j) ≡ Some (k, s)

-- The documents that are being read, each while the one behind it in the list is: from the innermost to document 0. They differ.
abbrev pub AreBeingRead : List Doc → List ℕ → Type 0
AreBeingRead docs [] = ⊥
AreBeingRead docs (k ∷ []) = k ≡ 0
AreBeingRead docs (k ∷ j ∷ js) = ((s : Span) × ReadsNext docs j k s) × (Contains (j ∷ js) k → ⊥) × AreBeingRead docs (j ∷ js)

-- Documents are read depth first, in the order of their imports, and the import at the place is the first that leads to a document which
-- is being read. Of the imports of a circle it is the one that closes it. The imported document leads back to the importing one, or is
-- itself that.
pub record IsCircle (docs : List Doc) (s : Span) : Type 0 where
  pub importing : ℕ
  pub imported : ℕ
  pub outer : List ℕ
  pub reading : AreBeingRead docs (importing ∷ outer)
  pub next : ReadsNext docs importing imported s
  pub again : Contains (importing ∷ outer) imported
  pub leads_there : LeadsAt docs importing s imported
  pub leads_back : Leads docs imported importing

-- no circle, or 202 and where one closes
abbrev pub IsAnswer : List Doc → Result (Unit {0}) LinkFault → Type 0
IsAnswer docs (Ok u) = has_no_circle docs ≡ true
IsAnswer docs (Err (fault.Bad code s)) = (code ≡ 202) × IsCircle docs s
IsAnswer docs (Err fault.NoMemory) = Unit {0}

-- the first link to a document without a mark
abbrev pub open_link : List Bool → List Import → List Link → Option (ℕ × Span)
open_link marks (i ∷ is) (l ∷ ls) = if is_marked marks l.doc then open_link marks is ls else Some (l.doc, span_of i)
open_link marks is ls = None

-- what is known of documents and their marks
pub record HasMarks (docs : List Doc) (marks : List Bool) : Type 0 where
  pub len : length marks ≡ length docs
  pub linked : list_all (has_links docs) docs ≡ true
  pub ends : AreEnds (length docs) docs marks
  pub none : NoneIsNext docs marks

-- the import of document k at that place is the first that leads to a document without a mark
pub record IsNextOpen (docs : List Doc) (marks : List Bool) (k : ℕ) (x : ℕ × Span) : Type 0 where
  pub leads : LeadsAt docs k x.1 x.0
  pub first : ReadsNext docs k x.0 x.1
  pub unmarked : slice_get marks x.0 ≡ Some false
