-- The documents of a library, each with its number, and the names under which it knows structs.
use Rattle.std.specs.Prelude.{ℕ, ◌+◌, List, [], ◌∷◌}
use Rattle.wdl_value.specs.Fits.{Structs}
use Rattle.wdl_ast.specs.declared.document.Section.{Section}
use Rattle.wdl_library.specs.declared.doc.Doc.{Doc}
use Rattle.wdl_library.specs.declared.doc.Link.{Link}
use Rattle.wdl_check_rules.specs.Locals.{Naming, stands_for}
use Rattle.struct_names.specs.Known.{naming}
use Rattle.wdl_check_decls.specs.Expressions.{World}
use Rattle.wdl_check_doc.specs.declared.numbered_doc.Part.{Part as Held}

pub record Part : Type 0 where
  pub number : ℕ
  pub sections : List Section
  pub imports : List Link
  pub locals : Naming

abbrev pub part : ℕ → Doc → Part
part number d = record { number = number; sections = d.document.sections; imports = d.imports; locals = naming d.structs }

-- the documents with numbers from this one on
abbrev pub parts_from : ℕ → List Doc → List Part
parts_from number [] = []
parts_from number (d ∷ ds) = part number d ∷ parts_from (number + 1) ds

abbrev pub part_of : Held → Part
part_of p = record {
  number = p.number;
  sections = p.doc.now.document.sections;
  imports = p.doc.now.imports;
  locals = stands_for p.locals.now;
}

-- what the checks of the document see of structs
abbrev pub world : Structs → Part → World
world structs p = record { structs = structs; locals = p.locals; calls = [] }
