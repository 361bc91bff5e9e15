-- The sections of a document by their kind, in the order of the text.
use Rattle.std.specs.Prelude.{List, [], ◌∷◌}
use Rattle.wdl_ast.specs.declared.document.Import.{Import}
use Rattle.wdl_ast.specs.declared.document.StructSection.{StructSection}
use Rattle.wdl_ast.specs.declared.document.Section.{Section}
use Rattle.wdl_ast.specs.declared.document.Section.TheVariants as section
use Rattle.wdl_ast.specs.declared.document.Document.{Document}

abbrev pub imports_in : List Section → List Import
imports_in [] = []
imports_in (section.Import i ∷ ss) = i ∷ imports_in ss
imports_in (s ∷ ss) = imports_in ss

abbrev pub structs_in : List Section → List StructSection
structs_in [] = []
structs_in (section.Struct s ∷ ss) = s ∷ structs_in ss
structs_in (s ∷ ss) = structs_in ss

abbrev pub imports_of : Document → List Import
imports_of d = imports_in d.sections

abbrev pub sections_of : Document → List StructSection
sections_of d = structs_in d.sections
