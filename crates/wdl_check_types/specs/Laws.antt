-- What is true of every written type.
use Rattle.std.specs.Prelude.{◌≡◌, ℕ, true, List, Some}
use Rattle.wdl_value.specs.declared.ty.Ty.{Ty}
use Rattle.wdl_value.specs.Fits.{Structs, members_of}
use Rattle.wdl_ast.specs.declared.type_tree.TypeTree.{TypeTree}
use Rattle.wdl_typed.specs.KnownTypes.{is_some, is_written}
use Rattle.wdl_check_rules.specs.Locals.{Naming}
use Rattle.wdl_check_types.specs.Written.{written}

-- each name of the document stands for a struct
abbrev pub AreKnown : Structs → Naming → Type 0
AreKnown structs locals = (name known : List ℕ) → locals name ≡ Some known → is_some (members_of structs known) ≡ true

-- a type that a document writes is one that a checked form may have
abbrev pub WrittenTypes : Type 0
WrittenTypes = (structs : Structs) (locals : Naming) (tree : TypeTree) (t : Ty)
    → AreKnown structs locals → (written locals tree).typed ≡ Some t → is_written structs t ≡ true
