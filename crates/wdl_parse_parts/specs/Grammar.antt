-- Which trees are derivations of declarations, commands and values of metadata, within the limits of depth.
use Rattle.std.specs.Prelude.{◌≡◌, ℕ, zero, suc, Bool, true, false, not, ◌&&◌, List, [], ◌∷◌, Option, Some, None, is_none}
use Rattle.wdl_base.specs.declared.span.Span.{Span}
use Rattle.wdl_base.specs.Names.{is_name}
use Rattle.wdl_ast.specs.declared.leaf.Ident.{Ident}
use Rattle.wdl_ast.specs.declared.leaf.PlainString.{PlainString}
use Rattle.wdl_ast.specs.declared.leaf.ListItem.{ListItem}
use Rattle.wdl_ast.specs.declared.leaf.Attribute.{Attribute}
use Rattle.wdl_ast.specs.declared.expr.Expr.{Expr}
use Rattle.wdl_ast.specs.declared.meta.Number.{Number}
use Rattle.wdl_ast.specs.declared.meta.MetaValue.{MetaValue}
use Rattle.wdl_ast.specs.declared.meta.MetaValue.TheVariants as meta
use Rattle.wdl_ast.specs.declared.section.Declaration.{Declaration}
use Rattle.wdl_ast.specs.declared.section.Assigned.{Assigned}
use Rattle.wdl_ast.specs.declared.section.InputDeclaration.{InputDeclaration}
use Rattle.wdl_ast.specs.declared.task.CommandSection.{CommandSection}
use Rattle.wdl_parse_expr.specs.Grammar.{IsExpr, AreParts}
use Rattle.token_reading.specs.TypeGrammar.{IsType}

-- ---- parts

-- each of a list
abbrev pub Each : {A : Type 0} → (A → Type 0) → List A → Type 0
Each P [] = Unit {0}
Each P (x ∷ xs) = P x × Each P xs

-- a part that may be absent
abbrev pub IfThere : {A : Type 0} → (A → Type 0) → Option A → Type 0
IfThere P None = Unit {0}
IfThere P (Some x) = P x

-- whether only the last lacks its comma; the first says whether the one before lacks it
abbrev pub commas_behind : {E : Type 0} → Bool → List (ListItem E) → Bool
commas_behind bare [] = true
commas_behind bare (x ∷ more) = not bare && commas_behind (is_none x.comma) more

abbrev pub commas_fit : {E : Type 0} → List (ListItem E) → Bool
commas_fit xs = commas_behind false xs

abbrev pub IsIdent : Ident → Type 0
IsIdent n = is_name n.name ≡ true

-- ---- metadata

-- In says which values are derivations, one level deeper.
module _ (In : MetaValue → Type 0) where
  abbrev pub IsAttribute : Attribute MetaValue → Type 0
  IsAttribute a = In a.value

  abbrev pub IsMetaItem : ListItem MetaValue → Type 0
  IsMetaItem i = In i.item

  pub data IsMetaOver : MetaValue → Type 0 where
    null : (s : Span) → IsMetaOver (meta.Null s)
    yes_ : (s : Span) → IsMetaOver (meta.True s)
    no_ : (s : Span) → IsMetaOver (meta.False s)
    number : (minus : Option Span) (n : Number) → IsMetaOver (meta.Number minus n)
    str : (s : PlainString) → IsMetaOver (meta.Str s)
    object_ : (o : Span) (xs : List (Attribute MetaValue)) (c : Span) → Each IsAttribute xs → IsMetaOver (meta.Object o xs c)
    list : (o : Span) (xs : List (ListItem MetaValue)) (c : Span) → Each IsMetaItem xs → commas_fit xs ≡ true → IsMetaOver (meta.List o xs c)

-- a derivation of at most that depth
abbrev pub MetaWithin : ℕ → MetaValue → Type 0
MetaWithin zero v = ⊥
MetaWithin (suc d) v = IsMetaOver (MetaWithin d) v

abbrev pub max_meta_depth : ℕ
max_meta_depth = 64

-- ---- declarations and commands

abbrev pub IsDeclaration : Declaration → Type 0
IsDeclaration d = IsType d.ty × IsIdent d.name × IsExpr d.value

abbrev pub IsAssigned : Assigned → Type 0
IsAssigned a = IsExpr a.value

abbrev pub IsInput : InputDeclaration → Type 0
IsInput i = IsType i.ty × IsIdent i.name × IfThere IsAssigned i.preset

abbrev pub IsRuntimeAttribute : Attribute Expr → Type 0
IsRuntimeAttribute a = IsExpr a.value

abbrev pub IsCommand : CommandSection → Type 0
IsCommand s = AreParts s.parts
