-- Which struct names stand for one struct, and the structs of a library.
--
-- A name that an import gives is the struct of that name in the imported document. So two names, each in a document, are one struct
-- exactly where a chain of such imports joins them: that is where every labelling of the names that agrees along the imports gives
-- both one label. Two struct sections are one struct where they are joined so. Where they are joined and their members differ there is
-- no library, and two that are not joined stand for two names of document 0: so this is the greatest relation by which equal structs
-- that a document sees under one name are one.
use Rattle.std.specs.Prelude.{◌≡◌, ℕ, suc, Bool, true, false, ◌&&◌, List, [], ◌∷◌, map, Option, Some, None, if◌then◌else◌}
use Rattle.std.specs.List.{list_all}
use Rattle.std.specs.Str.{bytes_eq}
use Rattle.wdl_base.specs.declared.span.Span.{Span}
use Rattle.wdl_base.specs.Names.{is_among}
use Rattle.wdl_value.specs.declared.ty.Ty.{Ty}
use Rattle.wdl_value.specs.declared.ty.Ty.TheVariants as ty
use Rattle.wdl_value.specs.declared.ty.Member.{Member}
use Rattle.wdl_value.specs.declared.ty.StructDef.{StructDef}
use Rattle.wdl_ast.specs.declared.type_tree.BaseType.{BaseType}
use Rattle.wdl_ast.specs.declared.type_tree.BaseType.TheVariants as base
use Rattle.wdl_ast.specs.declared.type_tree.TypeTree.{TypeTree, TypeTree-F, fold-TypeTree}
use Rattle.wdl_ast.specs.declared.document.Alias.{Alias}
use Rattle.wdl_ast.specs.declared.document.Import.{Import}
use Rattle.wdl_ast.specs.declared.document.StructMember.{StructMember}
use Rattle.wdl_ast.specs.declared.document.StructSection.{StructSection}
use Rattle.wdl_library.specs.declared.doc.Doc.{Doc}
use Rattle.wdl_library.specs.declared.doc.Link.{Link}
use Rattle.wdl_library.specs.declared.doc.StructName.{StructName}
use Rattle.wdl_library.specs.Sections.{imports_of, sections_of}
use Rattle.wdl_library.specs.Names.{given_for, names_at, structs_at, has_names}

-- ---- labels of names

-- a label for each name of each document, by its number
abbrev pub Labels : Type 0
Labels = ℕ → List ℕ → List ℕ

abbrev pub all_have : (List ℕ → List ℕ) → List ℕ → List (List ℕ) → Bool
all_have label x [] = true
all_have label x (n ∷ ns) = bytes_eq (label n) x && all_have label x ns

module _ (label : Labels) where
  -- document k gives each of these names of document j the label that it has there
  abbrev pub agrees_on : ℕ → ℕ → List Alias → List (List ℕ) → Bool
  agrees_on k j aliases [] = true
  agrees_on k j aliases (n ∷ ns) = all_have (label k) (label j n) (given_for aliases n) && agrees_on k j aliases ns

  abbrev pub agrees_along : List Doc → ℕ → List Import → List Link → Bool
  agrees_along docs k (i ∷ is) (l ∷ ls) = agrees_on k l.doc i.aliases (names_at docs l.doc) && agrees_along docs k is ls
  agrees_along docs k is ls = true

  abbrev pub agrees_from : List Doc → ℕ → List Doc → Bool
  agrees_from docs k [] = true
  agrees_from docs k (d ∷ ds) = agrees_along docs k (imports_of d.document) d.imports && agrees_from docs (suc k) ds

  -- the labels agree along all imports
  abbrev pub agrees : List Doc → Bool
  agrees docs = agrees_from docs 0 docs

-- the names of two documents are one struct
abbrev pub IsSameStruct : List Doc → ℕ → List ℕ → ℕ → List ℕ → Type 0
IsSameStruct docs k n j m = (label : Labels) → agrees label docs ≡ true → label k n ≡ label j m

-- ---- the names that stand for structs

-- the name that stands for a struct; an unknown one stands for itself
abbrev pub stand_in : List StructName → List ℕ → List ℕ
stand_in [] n = n
stand_in (s ∷ ss) n = if bytes_eq s.name n then s.stands_for else stand_in ss n

abbrev pub stand_at : List Doc → Labels
stand_at docs k = stand_in (structs_at docs k)

-- each stands for a name of the list that is not behind it
abbrev pub are_first : List (List ℕ) → List StructName → Bool
are_first before [] = true
are_first before (s ∷ ss) = is_among s.stands_for (s.name ∷ before) && are_first (s.name ∷ before) ss

-- ---- the types of members

abbrev pub itself : Ty → Ty
itself t = t

abbrev pub base_type : (List ℕ → List ℕ) → BaseType Ty → Ty
base_type stand (base.Boolean s) = ty.Bool
base_type stand (base.Int s) = ty.Int
base_type stand (base.Str s) = ty.Str
base_type stand (base.File s) = ty.File
base_type stand (base.Struct n) = ty.Struct (stand n.name)
base_type stand (base.Array w o t c None) = ty.Array t false
base_type stand (base.Array w o t c (Some p)) = ty.Array t true
base_type stand (base.Map w o k m v c) = ty.Map k v
base_type stand (base.Pair w o l m r c) = ty.Pair l r

abbrev pub optional : List Span → Ty → Ty
optional [] t = t
optional (s ∷ ss) t = ty.Opt t

abbrev pub type_step : (List ℕ → List ℕ) → TypeTree-F Ty → Ty
type_step stand t = optional t.questions (base_type stand t.base)

-- the type that is written, with the names that stand for its structs
abbrev pub written_type : (List ℕ → List ℕ) → TypeTree → Ty
written_type stand = fold-TypeTree Ty (type_step stand)

abbrev pub member_of : (List ℕ → List ℕ) → StructMember → Member
member_of stand m = record { name = m.name.name; ty = written_type stand m.ty }

abbrev pub members_of : (List ℕ → List ℕ) → StructSection → List Member
members_of stand s = map (member_of stand) s.members

-- ---- the structs of a library

-- the members of the first struct of that name
abbrev pub members_at : List StructDef → List ℕ → Option (List Member)
members_at [] n = None
members_at (s ∷ ss) n = if bytes_eq s.name n then Some s.members else members_at ss n

-- the struct that each section stands for has its members
abbrev pub AreSections : List StructDef → (List ℕ → List ℕ) → List StructSection → Type 0
AreSections structs stand [] = Unit {0}
AreSections structs stand (s ∷ ss) = (members_at structs (stand s.name.name) ≡ Some (members_of stand s)) × AreSections structs stand ss

abbrev pub HaveSections : List StructDef → List Doc → Type 0
HaveSections structs [] = Unit {0}
HaveSections structs (d ∷ ds) = AreSections structs (stand_in d.structs) (sections_of d.document) × HaveSections structs ds

-- a name has the members of the name that stands for it
abbrev pub AreAlike : List StructDef → List StructName → Type 0
AreAlike structs [] = Unit {0}
AreAlike structs (s ∷ ss) = (members_at structs s.name ≡ members_at structs s.stands_for) × AreAlike structs ss

pub record HasStructs (docs : List Doc) (structs : List StructDef) : Type 0 where
  -- each document has the names that it sees, in their order
  pub named : list_all (has_names docs) docs ≡ true
  -- names of one struct stand for one name of document 0, which is the first of them
  pub agreeing : agrees (stand_at docs) docs ≡ true
  pub first : are_first [] (structs_at docs 0) ≡ true
  pub joined : (n : List ℕ) → IsSameStruct docs 0 n 0 (stand_at docs 0 n)
  -- the structs have the names of document 0, in their order, and the members of their sections
  pub names : map (λ s. s.name) structs ≡ names_at docs 0
  pub sections : HaveSections structs docs
  pub alike : AreAlike structs (structs_at docs 0)
