-- What is said of documents whose struct names are found, and why there are none.
use Rattle.std.specs.Prelude.{◌≡◌, ◌≢◌, ◌⊎◌, ℕ, true, false, List, [], ◌∷◌, map, slice_get, Some, Result, Ok, Err, Contains}
use Rattle.std.specs.List.{list_all}
use Rattle.wdl_base.specs.declared.span.Span.{Span}
use Rattle.wdl_base.specs.Names.{is_among}
use Rattle.wdl_value.specs.declared.ty.StructDef.{StructDef}
use Rattle.wdl_ast.specs.declared.document.Alias.{Alias}
use Rattle.wdl_ast.specs.declared.document.Import.{Import}
use Rattle.wdl_ast.specs.declared.document.StructSection.{StructSection}
use Rattle.wdl_library.specs.declared.doc.Doc.{Doc}
use Rattle.wdl_library.specs.declared.doc.Link.{Link}
use Rattle.wdl_library.specs.Sections.{imports_of, sections_of}
use Rattle.wdl_library.specs.Names.{names_at, structs_at, has_names, knows_aliases}
use Rattle.wdl_library.specs.Structs.{agrees, are_first, IsSameStruct, HasStructs, members_of, stand_at}
use Rattle.wdl_links.specs.declared.fault.LinkFault.{LinkFault}
use Rattle.wdl_links.specs.declared.fault.LinkFault.TheVariants as fault

-- ---- documents without their struct names

abbrev pub bare : Doc → Doc
bare d = record d { structs = [] }

-- the same documents, but for their struct names
abbrev pub AreSameDocs : List Doc → List Doc → Type 0
AreSameDocs docs others = map bare docs ≡ map bare others

-- ---- an alias of a struct that the imported document does not see

abbrev pub HasUnknown : List (List ℕ) → List Alias → Span → Type 0
HasUnknown ns [] s = ⊥
HasUnknown ns (a ∷ more) s = ((is_among a.from.name ns ≡ false) × (s ≡ a.from.span)) ⊎ HasUnknown ns more s

-- by the names of each document
abbrev pub ImportUnknown : (ℕ → List (List ℕ)) → List Import → List Link → Span → Type 0
ImportUnknown names (i ∷ is) (l ∷ ls) s = HasUnknown (names l.doc) i.aliases s ⊎ ImportUnknown names is ls s
ImportUnknown names is ls s = ⊥

-- an alias of one of the documents
abbrev pub DocUnknown : (ℕ → List (List ℕ)) → List Doc → Span → Type 0
DocUnknown names docs s = (k : ℕ) × (d : Doc) × (slice_get docs k ≡ Some d) × ImportUnknown names (imports_of d.document) d.imports s

-- where the documents have the names that they see, an alias at the span is one of a struct that the imported document does not see
pub record IsUnknownAlias (docs : List Doc) (s : Span) : Type 0 where
  pub named : list_all (has_names docs) docs ≡ true
  pub unknown : DocUnknown (names_at docs) docs s

-- ---- one struct with two lists of members

-- the struct section is one of that document
pub record IsSection (docs : List Doc) (number : ℕ) (section : StructSection) : Type 0 where
  pub doc : Doc
  pub at : slice_get docs number ≡ Some doc
  pub declared : Contains (sections_of doc.document) section

-- The documents have the names that they see, each standing for its struct as it does in a library of these documents, or would if there
-- were one: names that imports join stand for one name of document 0, the first of theirs.
pub record AreStood (docs : List Doc) : Type 0 where
  pub named : list_all (has_names docs) docs ≡ true
  pub agreeing : agrees (stand_at docs) docs ≡ true
  pub first : are_first [] (structs_at docs 0) ≡ true
  pub joined : (n : List ℕ) → IsSameStruct docs 0 n 0 (stand_at docs 0 n)

-- Two sections declare one struct, and their members differ, where types are equal up to what their names of structs stand for. The span
-- is that of the name of the second.
pub record AreUnlike (docs : List Doc) (s : Span) : Type 0 where
  pub stood : AreStood docs
  pub first_number : ℕ
  pub first : StructSection
  pub is_first : IsSection docs first_number first
  pub second_number : ℕ
  pub second : StructSection
  pub is_second : IsSection docs second_number second
  pub same : IsSameStruct docs first_number first.name.name second_number second.name.name
  pub differ : members_of (stand_at docs first_number) first ≢ members_of (stand_at docs second_number) second
  pub place : s ≡ second.name.span

-- ---- the struct names and the structs of documents

-- the same documents with their struct names, and their structs
pub record AreNamed (docs named : List Doc) (structs : List StructDef) : Type 0 where
  pub same : AreSameDocs docs named
  pub aliases : list_all (knows_aliases named) named ≡ true
  pub structs_are : HasStructs named structs

-- 206 or 204, and why
abbrev pub HasNameFault : List Doc → ℕ → Span → Type 0
HasNameFault docs code s = ((code ≡ 206) × IsUnknownAlias docs s) ⊎ ((code ≡ 204) × AreUnlike docs s)

-- some struct names of these documents show the fault, and none are right
pub record AreUnnamed (docs : List Doc) (code : ℕ) (s : Span) : Type 0 where
  pub named : List Doc
  pub same : AreSameDocs docs named
  pub fault_is : HasNameFault named code s
  pub none : (others : List Doc) (structs : List StructDef) → AreNamed docs others structs → ⊥

abbrev pub IsAnswer : List Doc → Result (List Doc × List StructDef) LinkFault → Type 0
IsAnswer docs (Ok r) = AreNamed docs r.0 r.1
IsAnswer docs (Err (fault.Bad code s)) = AreUnnamed docs code s
IsAnswer docs (Err fault.NoMemory) = Unit {0}
