-- The documents of a library, each with its number, as code has them.
use Rattle.std.specs.Prelude.{ℕ, ◌+◌, List, [], ◌∷◌}
use Rattle.struct_names.specs.Known.{Known}
use Rattle.wdl_check_doc.specs.Parts.{Part}

abbrev pub part : ℕ → Known → Part
part number k = record { number = number; sections = k.doc.document.sections; imports = k.doc.imports; locals = k.locals }

abbrev pub parts_from : ℕ → List Known → List Part
parts_from number [] = []
parts_from number (k ∷ ks) = part number k ∷ parts_from (number + 1) ks
