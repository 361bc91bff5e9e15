-- The members of structs, by the number of the name of document 0 that stands for each.
use Rattle.std.specs.Prelude.{◌≡◌, ◌≢◌, ◌↔◌, ◌⊎◌, ℕ, suc, ◌+◌, ◌<◌, ◌≤◌, Bool, true, false, List, [], ◌∷◌, length, slice_get, Option, Some, Result, Ok, Err}
use Rattle.wdl_base.specs.declared.span.Span.{Span}
use Rattle.wdl_typed.specs.Lists.{are_distinct}
use Rattle.wdl_value.specs.declared.ty.Member.{Member}
use Rattle.wdl_value.specs.declared.ty.StructDef.{StructDef}
use Rattle.wdl_ast.specs.declared.document.StructSection.{StructSection}
use Rattle.wdl_library.specs.declared.doc.Doc.{Doc}
use Rattle.wdl_library.specs.Sections.{sections_of}
use Rattle.wdl_library.specs.declared.doc.StructName.{StructName}
use Rattle.wdl_library.specs.Names.{names_in, names_at, own_names}
use Rattle.wdl_library.specs.Structs.{members_of, stand_in}
use Rattle.wdl_links.specs.declared.fault.LinkFault.{LinkFault}
use Rattle.wdl_links.specs.declared.fault.LinkFault.TheVariants as fault
use Rattle.wdl_structs.specs.Classes.{root, IsLow}
use Rattle.wdl_structs.specs.Tables.{Names, names_of}
use Rattle.wdl_structs.specs.Nodes.{start, total, all_among, LeadFirst}

abbrev pub Kept : Type 0
Kept = List (Option (List Member))

abbrev pub Has : Kept → ℕ → List Member → Type 0
Has kept j x = slice_get kept j ≡ Some (Some x)

-- members are kept, where no others are
abbrev pub IsKept : Kept → ℕ → List Member → Kept → Bool → Type 0
IsKept old at ms new true = (length new ≡ length old) × ((j : ℕ) (x : List Member) → Has new j x ↔ (Has old j x ⊎ ((j ≡ at) × (x ≡ ms))))
IsKept old at ms new false = (others : List Member) × Has old at others × (others ≢ ms)

-- the name of the list, whose first has the number x, is in the class of j
abbrev pub LeadsTo : List ℕ → ℕ → Names → List ℕ → ℕ → Type 0
LeadsTo parents x ns n j = (p : ℕ) × (slice_get ns p ≡ Some n) × (j ≡ root parents (x + p))

module _ (parents : List ℕ) where
  -- the struct of a section of the document is in the class of j and has these members
  abbrev pub Keeps : ℕ → Names → (List ℕ → List ℕ) → List StructSection → ℕ → List Member → Type 0
  Keeps x ns stand [] j ms = ⊥
  Keeps x ns stand (t ∷ ts) j ms = (LeadsTo parents x ns t.name.name j × (ms ≡ members_of stand t)) ⊎ Keeps x ns stand ts j ms

  abbrev pub KeepsFrom : List Names → ℕ → List Doc → ℕ → List Member → Type 0
  KeepsFrom tables k [] j ms = ⊥
  KeepsFrom tables k (d ∷ ds) j ms = Keeps (start tables k) (names_of tables k) (stand_in d.structs) (sections_of d.document) j ms ⊎ KeepsFrom tables (suc k) ds j ms

  -- a section of the document whose struct has other members
  abbrev pub DiffersIn : ℕ → Names → (List ℕ → List ℕ) → List StructSection → Span → ℕ → List Member → Type 0
  DiffersIn x ns stand [] s j ms = ⊥
  DiffersIn x ns stand (t ∷ ts) s j ms = (LeadsTo parents x ns t.name.name j × (ms ≢ members_of stand t) × (s ≡ t.name.span)) ⊎ DiffersIn x ns stand ts s j ms

  abbrev pub DiffersFrom : List Names → ℕ → List Doc → Span → ℕ → List Member → Type 0
  DiffersFrom tables k [] s j ms = ⊥
  DiffersFrom tables k (d ∷ ds) s j ms = DiffersIn (start tables k) (names_of tables k) (stand_in d.structs) (sections_of d.document) s j ms ⊎ DiffersFrom tables (suc k) ds s j ms

-- what is kept besides, or a section whose struct has other members
abbrev pub KeepsMore : Kept → Kept → (ℕ → List Member → Type 0) → (Span → ℕ → List Member → Type 0) → Result (Unit {0}) LinkFault → Type 0
KeepsMore old new keeps differs (Ok u) = (length new ≡ length old) × ((j : ℕ) (x : List Member) → Has new j x ↔ (Has old j x ⊎ keeps j x))
KeepsMore old new keeps differs (Err (fault.Bad code s)) = (code ≡ 204) × ((j : ℕ) × (x : List Member) × (Has old j x ⊎ keeps j x) × differs s j x)
KeepsMore old new keeps differs (Err fault.NoMemory) = Unit {0}

-- the members of all sections are kept, or a struct has two lists of members
abbrev pub KeepsAll : (ℕ → List Member → Type 0) → (Span → ℕ → List Member → Type 0) → Result Kept LinkFault → Type 0
KeepsAll keeps differs (Ok kept) = (j : ℕ) (x : List Member) → Has kept j x ↔ keeps j x
KeepsAll keeps differs (Err (fault.Bad code s)) = (code ≡ 204) × ((j : ℕ) × (x : List Member) × keeps j x × differs s j x)
KeepsAll keeps differs (Err fault.NoMemory) = Unit {0}

-- the structs of names, whose first has the number x
abbrev pub AreDefs : List ℕ → Kept → ℕ → Names → List StructDef → Type 0
AreDefs parents kept x [] [] = Unit {0}
AreDefs parents kept x [] (d ∷ ds) = ⊥
AreDefs parents kept x (n ∷ ns) [] = ⊥
AreDefs parents kept x (n ∷ ns) (d ∷ ds) = (d.name ≡ n) × Has kept (root parents x) d.members × AreDefs parents kept (suc x) ns ds

-- each class of these names has members
abbrev pub AreFull : List ℕ → Kept → Names → Type 0
AreFull parents kept ns = (x : ℕ) → x < length ns → (ms : List Member) × Has kept (root parents x) ms

-- ---- one document

-- the names of a document with those that stand for them, of which the first has the number x, while members are kept
pub record IsHere (kept : Kept) (ns : Names) (names : List StructName) (parents : List ℕ) (x : ℕ) : Type 0 where
  pub named : ns ≡ names_in names
  pub distinct : are_distinct (names_in names) ≡ true
  pub low : IsLow parents
  pub lead : (i : ℕ) → i < length parents → root parents i < length kept
  pub within : x + length names ≤ length parents

abbrev pub KeepsOne : List ℕ → ℕ → List StructName → StructSection → ℕ → List Member → Type 0
KeepsOne parents x names t = Keeps parents x (names_in names) (stand_in names) (t ∷ [])

abbrev pub DiffersOne : List ℕ → ℕ → List StructName → StructSection → Span → ℕ → List Member → Type 0
DiffersOne parents x names t = DiffersIn parents x (names_in names) (stand_in names) (t ∷ [])

abbrev pub KeepsDoc : List ℕ → ℕ → Doc → ℕ → List Member → Type 0
KeepsDoc parents x d = Keeps parents x (names_in d.structs) (stand_in d.structs) (sections_of d.document)

abbrev pub DiffersDoc : List ℕ → ℕ → Doc → Span → ℕ → List Member → Type 0
DiffersDoc parents x d = DiffersIn parents x (names_in d.structs) (stand_in d.structs) (sections_of d.document)

-- the documents have the names of the tables with those that stand for them, and declare none besides
pub record AreNamedBy (docs : List Doc) (tables : List Names) (parents : List ℕ) : Type 0 where
  pub tables_len : length tables ≡ length docs
  pub names : names_at docs ≡ names_of tables
  pub distinct : (k : ℕ) → are_distinct (names_of tables k) ≡ true
  pub own : (k : ℕ) (d : Doc) → slice_get docs k ≡ Some d → all_among (names_of tables k) (own_names d) ≡ true
  pub len : length parents ≡ total tables
  pub low : IsLow parents
  pub lead : LeadFirst (names_of tables 0) parents
