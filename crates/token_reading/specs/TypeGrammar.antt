-- Which trees are derivations of the grammar of types.
use Rattle.std.specs.Prelude.{◌≡◌, ℕ, zero, suc, true, List, Option}
use Rattle.wdl_base.specs.declared.span.Span.{Span}
use Rattle.wdl_base.specs.Names.{is_name}
use Rattle.wdl_ast.specs.declared.leaf.Ident.{Ident}
use Rattle.wdl_ast.specs.declared.type_tree.BaseType.{BaseType}
use Rattle.wdl_ast.specs.declared.type_tree.BaseType.TheVariants as base
use Rattle.wdl_ast.specs.declared.type_tree.TypeTree.{TypeTree, roll-TypeTree}

abbrev pub type_tree : BaseType TypeTree → List Span → TypeTree
type_tree b qs = roll-TypeTree (record { base = b; questions = qs })

-- In says which trees are types, one level deeper.
module _ (In : TypeTree → Type 0) where
  pub data IsBase : BaseType TypeTree → Type 0 where
    boolean : (s : Span) → IsBase (base.Boolean s)
    int : (s : Span) → IsBase (base.Int s)
    str : (s : Span) → IsBase (base.Str s)
    file : (s : Span) → IsBase (base.File s)
    named : (n : Ident) → is_name n.name ≡ true → IsBase (base.Struct n)
    array : (w o : Span) (t : TypeTree) (c : Span) (p : Option Span) → In t → IsBase (base.Array w o t c p)
    map : (w o : Span) (k : TypeTree) (m : Span) (v : TypeTree) (c : Span) → In k → In v → IsBase (base.Map w o k m v c)
    pair : (w o : Span) (l : TypeTree) (m : Span) (r : TypeTree) (c : Span) → In l → In r → IsBase (base.Pair w o l m r c)

  pub data IsTypeOver : TypeTree → Type 0 where
    type_ : (b : BaseType TypeTree) (qs : List Span) → IsBase b → IsTypeOver (type_tree b qs)

-- a derivation of at most that depth
abbrev pub TypeWithin : ℕ → TypeTree → Type 0
TypeWithin zero t = ⊥
TypeWithin (suc d) t = IsTypeOver (TypeWithin d) t

abbrev pub max_type_depth : ℕ
max_type_depth = 8

abbrev pub IsType : TypeTree → Type 0
IsType = TypeWithin max_type_depth
