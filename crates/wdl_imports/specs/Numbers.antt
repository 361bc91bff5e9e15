-- The number of a document in its spans.
use Rattle.std.specs.Prelude.{◌≡◌, ℕ, List, [], ◌∷◌}
use Rattle.wdl_ast.specs.declared.document.Alias.{Alias}
use Rattle.wdl_ast.specs.declared.document.Import.{Import}
use Rattle.wdl_ast.specs.declared.document.Section.{Section}
use Rattle.wdl_ast.specs.declared.document.StructSection.{StructSection}
use Rattle.wdl_library.specs.Sections.{imports_in, structs_in}

abbrev pub AliasesOf : ℕ → List Alias → Type 0
AliasesOf number [] = Unit {0}
AliasesOf number (a ∷ more) = (a.from.span.doc ≡ number) × AliasesOf number more

abbrev pub ImportsOf : ℕ → List Import → Type 0
ImportsOf number [] = Unit {0}
ImportsOf number (i ∷ is) = (i.keyword.doc ≡ number) × (AliasesOf number i.aliases × ImportsOf number is)

abbrev pub StructsOf : ℕ → List StructSection → Type 0
StructsOf number [] = Unit {0}
StructsOf number (s ∷ ss) = (s.name.span.doc ≡ number) × StructsOf number ss

-- the spans of imports, of the names that aliases stand for, and of the names of structs
abbrev pub SectionsOf : ℕ → List Section → Type 0
SectionsOf number ss = ImportsOf number (imports_in ss) × StructsOf number (structs_in ss)
