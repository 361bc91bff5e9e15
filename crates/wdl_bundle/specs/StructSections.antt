-- The struct sections of a bundle.
use Rattle.std.specs.Prelude.{ℕ, List, [], ◌∷◌, ◌++◌, Option, Some, None, option_and_then}
use Rattle.std.specs.List.{find}
use Rattle.std.specs.Str.{bytes_eq}
use Rattle.wdl_value.specs.Fits.{Structs}
use Rattle.wdl_ast.specs.declared.document.Section.{Section}
use Rattle.wdl_ast.specs.declared.document.Section.TheVariants as section
use Rattle.wdl_ast.specs.declared.document.StructSection.{StructSection}
use Rattle.wdl_library.specs.Sections.{structs_in}
use Rattle.wdl_check_rules.specs.Locals.{Naming, stands_for}
use Rattle.wdl_bundle.specs.declared.structs.Declared.{Declared as HeldDeclared}
use Rattle.struct_names.specs.Known.{Known}
use Rattle.wdl_copies.specs.Renamed.{struct_with}

-- a struct section, with the name of the library that stands for its struct, and the names of its document
pub record Declared : Type 0 where
  pub root : List ℕ
  pub locals : Naming
  pub section : StructSection

abbrev pub declared_as : Naming → StructSection → Option (List ℕ) → List Declared
declared_as locals s None = []
declared_as locals s (Some root) = record { root = root; locals = locals; section = s } ∷ []

abbrev pub declared_in : Naming → List StructSection → List Declared
declared_in locals [] = []
declared_in locals (s ∷ ss) = declared_as locals s (locals s.name.name) ++ declared_in locals ss

abbrev pub all_declared : List Known → List Declared
all_declared [] = []
all_declared (k ∷ ks) = declared_in k.locals (structs_in k.doc.document.sections) ++ all_declared ks

-- the first section of the struct that document 0 knows under that name
abbrev pub declared_for : Naming → List Declared → List ℕ → Option Declared
declared_for own all name = option_and_then (λ root. find (λ (d : Declared). bytes_eq d.root root) all) (own name)

-- ---- sections

abbrev pub section_as : List ℕ → Option Declared → List Section
section_as name None = []
section_as name (Some d) = section.Struct (struct_with d.locals name d.section) ∷ []

abbrev pub struct_sections : Naming → List Declared → Structs → List Section
struct_sections own all [] = []
struct_sections own all (s ∷ ss) = section_as s.name (declared_for own all s.name) ++ struct_sections own all ss

-- ---- as code has them

abbrev pub declared_of : HeldDeclared → Declared
declared_of d = record { root = d.name.now; locals = stands_for d.locals.now; section = d.section.now }
