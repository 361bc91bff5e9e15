-- The members of structs.
use Rattle.std.specs.Prelude.{ℕ, Bool, true, false, ◌&&◌, List, [], ◌∷◌, Some, None}
use Rattle.std.specs.Str.{bytes_eq}
use Rattle.wdl_value.specs.declared.ty.Ty.{Ty}
use Rattle.wdl_value.specs.declared.ty.Ty.TheVariants as ty
use Rattle.wdl_value.specs.declared.ty.Member.{Member}
use Rattle.wdl_value.specs.SameType.{same_type}
use Rattle.wdl_ast.specs.declared.type_tree.BaseType.{BaseType}
use Rattle.wdl_ast.specs.declared.type_tree.BaseType.TheVariants as base
use Rattle.wdl_ast.specs.declared.type_tree.TypeTree.{TypeTree}
use Rattle.wdl_library.specs.Structs.{written_type}

-- the type without its `?`
abbrev pub base_written : (List ℕ → List ℕ) → BaseType TypeTree → Ty
base_written stand (base.Boolean s) = ty.Bool
base_written stand (base.Int s) = ty.Int
base_written stand (base.Str s) = ty.Str
base_written stand (base.File s) = ty.File
base_written stand (base.Struct n) = ty.Struct (stand n.name)
base_written stand (base.Array w o t c None) = ty.Array (written_type stand t) false
base_written stand (base.Array w o t c (Some p)) = ty.Array (written_type stand t) true
base_written stand (base.Map w o k m v c) = ty.Map (written_type stand k) (written_type stand v)
base_written stand (base.Pair w o l m r c) = ty.Pair (written_type stand l) (written_type stand r)

abbrev pub same_member : Member → Member → Bool
same_member m n = bytes_eq m.name n.name && same_type m.ty n.ty

abbrev pub same_members : List Member → List Member → Bool
same_members [] [] = true
same_members (m ∷ ms) (n ∷ ns) = same_member m n && same_members ms ns
same_members ms ns = false
