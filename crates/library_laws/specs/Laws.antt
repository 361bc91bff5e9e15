-- Which import closes a circle and which struct sections are one struct, the promises of the functions in `laws`.
use Rattle.std.specs.Prelude.{◌≡◌, ◌↔◌, ℕ, true, false, List}
use Rattle.std.specs.List.{list_all}
use Rattle.wdl_base.specs.declared.span.Span.{Span}
use Rattle.wdl_value.specs.declared.ty.StructDef.{StructDef}
use Rattle.wdl_ast.specs.declared.document.StructSection.{StructSection}
use Rattle.wdl_library.specs.declared.doc.Doc.{Doc}
use Rattle.wdl_library.specs.Structs.{stand_at}
use Rattle.wdl_sources.specs.Walks.{Files}
use Rattle.wdl_imports.specs.Libraries.{IsLibrary}
use Rattle.wdl_links.specs.Circles.{IsCircle}
use Rattle.wdl_structs.specs.Faults.{IsSection, AreUnlike}
use Rattle.library_laws.specs.Relations.{Relation, Agrees, knows_members}

-- ---- circles

-- the condition of 202 holds at one place at most
abbrev pub OneCircle : Type 0
OneCircle = (docs : List Doc) (s t : Span) → IsCircle docs s → IsCircle docs t → s ≡ t

-- ---- structs

-- the names of two sections stand for one struct of the library
abbrev pub AreOne : List Doc → ℕ → StructSection → ℕ → StructSection → Type 0
AreOne docs k s j t = stand_at docs k s.name.name ≡ stand_at docs j t.name.name

-- some relation under which sections agree relates them
abbrev pub SomeRelates : List Doc → ℕ → StructSection → ℕ → StructSection → Type 0
SomeRelates docs k s j t = (related : Relation) × Agrees docs related × (related k s j t ≡ true)

-- Two sections of a library are one struct exactly where some relation under which sections agree relates them.
abbrev pub OneStruct : Type 0
OneStruct =
    (files : Files) (root : List ℕ) (docs : List Doc) (structs : List StructDef) → IsLibrary files root docs structs → list_all knows_members docs ≡ true
    → (k j : ℕ) (s t : StructSection) → IsSection docs k s → IsSection docs j t → AreOne docs k s j t ↔ SomeRelates docs k s j t

-- Where 204 is answered, none relates the two sections.
abbrev pub UnlikeAreApart : Type 0
UnlikeAreApart =
    (docs : List Doc) (place : Span) (u : AreUnlike docs place) (related : Relation) → Agrees docs related
    → related u.first_number u.first u.second_number u.second ≡ false
