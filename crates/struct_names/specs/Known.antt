-- Documents with the names under which they know structs.
use Rattle.std.specs.Prelude.{List, option_map}
use Rattle.std.specs.List.{find}
use Rattle.std.specs.Str.{bytes_eq}
use Rattle.wdl_library.specs.declared.doc.Doc.{Doc}
use Rattle.wdl_library.specs.declared.doc.StructName.{StructName}
use Rattle.wdl_check_rules.specs.declared.local.Local.{Local}
use Rattle.wdl_check_rules.specs.Locals.{Naming, stands_for}
use Rattle.struct_names.specs.declared.known.DocNames.{DocNames as Indexed}
use Rattle.struct_names.specs.declared.known.DocNameList.{DocNameList as Listed}

pub record Known : Type 0 where
  pub doc : Doc
  pub locals : Naming

-- the name of the library that each name of a document stands for
abbrev pub naming : List StructName → Naming
naming structs name = option_map (λ (s : StructName). s.stands_for) (find (λ (s : StructName). bytes_eq s.name name) structs)

abbrev pub known : Doc → Known
known d = record { doc = d; locals = naming d.structs }

-- ---- as code has them

abbrev pub name_of : Local → StructName
name_of l = record { name = l.name.now; stands_for = l.stands_for.now }

abbrev pub naming_of : Listed → Known
naming_of n = record { doc = n.doc.now; locals = stands_for n.locals.items }

abbrev pub known_of : Indexed → Known
known_of k = record { doc = k.doc.now; locals = stands_for k.locals }
