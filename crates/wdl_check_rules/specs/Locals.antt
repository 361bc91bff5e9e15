-- The names under which a document knows structs.
use Rattle.std.specs.Prelude.{ℕ, List, Option, option_and_then, option_map}
use Rattle.std.specs.List.{find}
use Rattle.std.specs.Str.{bytes_eq}
use Rattle.wdl_value.specs.declared.ty.StructDef.{StructDef}
use Rattle.wdl_value.specs.Fits.{Structs}
use Rattle.wdl_check_rules.specs.declared.local.Local.{Local}

-- the name of the library that each name of a document stands for, where it stands for one
abbrev pub Naming : Type 0
Naming = List ℕ → Option (List ℕ)

abbrev pub stands_for : List Local → Naming
stands_for locals name = option_map (λ (l : Local). l.stands_for.now) (find (λ (l : Local). bytes_eq l.name.now name) locals)

-- the first struct of the library that has the name for which a name of the document stands
abbrev pub struct_named : Structs → Naming → List ℕ → Option StructDef
struct_named structs locals name = option_and_then (λ known. find (λ (d : StructDef). bytes_eq d.name known) structs) (locals name)
