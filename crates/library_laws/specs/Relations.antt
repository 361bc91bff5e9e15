-- Relations under which struct sections agree.
use Rattle.std.specs.Prelude.{◌≡◌, ℕ, zero, suc, Bool, true, List, [], ◌∷◌, ◌++◌, slice_get, Some}
use Rattle.std.specs.List.{list_all}
use Rattle.wdl_base.specs.Names.{is_among}
use Rattle.wdl_value.specs.declared.ty.Ty.{Ty}
use Rattle.wdl_ast.specs.declared.type_tree.BaseType.{BaseType}
use Rattle.wdl_ast.specs.declared.type_tree.BaseType.TheVariants as base
use Rattle.wdl_ast.specs.declared.type_tree.TypeTree.{TypeTree, TypeTree-F, fold-TypeTree}
use Rattle.wdl_ast.specs.declared.document.Import.{Import}
use Rattle.wdl_ast.specs.declared.document.StructMember.{StructMember}
use Rattle.wdl_ast.specs.declared.document.StructSection.{StructSection}
use Rattle.wdl_library.specs.declared.doc.Doc.{Doc}
use Rattle.wdl_library.specs.declared.doc.Link.{Link}
use Rattle.wdl_library.specs.Sections.{imports_of, sections_of}
use Rattle.wdl_library.specs.Names.{given_for, names_in}
use Rattle.wdl_library.specs.Structs.{IsSameStruct, written_type}
use Rattle.wdl_structs.specs.Faults.{IsSection}

-- ---- the sections that a document sees

-- Document k has an import that gives it the name n for a struct of which this holds, by the number of its document and its name.
pub record Imports (docs : List Doc) (P : ℕ → List ℕ → Type 0) (k : ℕ) (n : List ℕ) : Type 0 where
  pub doc : Doc
  pub at : slice_get docs k ≡ Some doc
  pub place : ℕ
  pub import : Import
  pub link : Link
  pub is_import : slice_get (imports_of doc.document) place ≡ Some import
  pub is_link : slice_get doc.imports place ≡ Some link
  pub name : List ℕ
  pub gives : is_among n (given_for import.aliases name) ≡ true
  pub there : P link.doc name

-- document k sees the section of document p under the name n, over that many imports
abbrev pub SeesOver : List Doc → ℕ → StructSection → ℕ → ℕ → List ℕ → Type 0
SeesOver docs p s zero k n = (k ≡ p) × (s.name.name ≡ n) × IsSection docs p s
SeesOver docs p s (suc steps) k n = Imports docs (SeesOver docs p s steps) k n

abbrev pub Sees : List Doc → ℕ → List ℕ → ℕ → StructSection → Type 0
Sees docs k n p s = (steps : ℕ) × SeesOver docs p s steps k n

-- ---- the types of members

-- the type, with a blank for each name of a struct
abbrev pub shape : TypeTree → Ty
shape = written_type (λ n. [])

abbrev pub names_step : BaseType (List (List ℕ)) → List (List ℕ)
names_step (base.Struct n) = n.name ∷ []
names_step (base.Array w o ns c p) = ns
names_step (base.Map w o ks m vs c) = ks ++ vs
names_step (base.Pair w o ls m rs c) = ls ++ rs
names_step b = []

-- the names of structs in a type, from left to right
abbrev pub struct_names : TypeTree → List (List ℕ)
struct_names = fold-TypeTree (List (List ℕ)) (λ (y : TypeTree-F (List (List ℕ))). names_step y.base)

-- ---- relations

-- a relation on struct sections, each with the number of its document
abbrev pub Relation : Type 0
Relation = ℕ → StructSection → ℕ → StructSection → Bool

module _ (docs : List Doc) (related : Relation) where
  -- document k sees a section under the name n, and document j one under the name m, which are related
  pub record NamesRelated (k : ℕ) (n : List ℕ) (j : ℕ) (m : List ℕ) : Type 0 where
    pub left_number : ℕ
    pub left : StructSection
    pub right_number : ℕ
    pub right : StructSection
    pub sees_left : Sees docs k n left_number left
    pub sees_right : Sees docs j m right_number right
    pub are_related : related left_number left right_number right ≡ true

  abbrev pub AllRelated : ℕ → List (List ℕ) → ℕ → List (List ℕ) → Type 0
  AllRelated k [] j [] = Unit {0}
  AllRelated k (n ∷ ns) j (m ∷ ms) = NamesRelated k n j m × AllRelated k ns j ms
  AllRelated k ns j ms = ⊥

  -- A type of document k and one of document j are equal up to the relation: they have one shape, and the names of structs in them,
  -- from left to right, are those of related sections.
  pub record TypesEqual (k : ℕ) (t : TypeTree) (j : ℕ) (u : TypeTree) : Type 0 where
    pub shapes : shape t ≡ shape u
    pub names : AllRelated k (struct_names t) j (struct_names u)

  -- the same members, in order
  abbrev pub MembersEqual : ℕ → List StructMember → ℕ → List StructMember → Type 0
  MembersEqual k [] j [] = Unit {0}
  MembersEqual k (m ∷ ms) j (n ∷ ns) = (m.name.name ≡ n.name.name) × TypesEqual k m.ty j n.ty × MembersEqual k ms j ns
  MembersEqual k ms j ns = ⊥

  -- Related sections are of one name, by a chain of documents that each see one after the other under one name, and have the same members
  -- in order, with types that are equal up to the relation.
  pub record Agrees : Type 0 where
    pub one_name : (k j : ℕ) (s t : StructSection) → IsSection docs k s → IsSection docs j t → related k s j t ≡ true → IsSameStruct docs k s.name.name j t.name.name
    pub members : (k j : ℕ) (s t : StructSection) → IsSection docs k s → IsSection docs j t → related k s j t ≡ true → MembersEqual k s.members j t.members

-- ---- known structs

abbrev pub member_known : List (List ℕ) → StructMember → Bool
member_known ns m = list_all (λ n. is_among n ns) (struct_names m.ty)

abbrev pub section_known : List (List ℕ) → StructSection → Bool
section_known ns s = list_all (member_known ns) s.members

-- the members of a document's sections name structs that it sees
abbrev pub knows_members : Doc → Bool
knows_members d = list_all (section_known (names_in d.structs)) (sections_of d.document)
