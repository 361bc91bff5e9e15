-- The members of a struct literal, put into the order of the struct (OpenWDL 1.1, "Struct Literals").
use Rattle.std.specs.Prelude.{ℕ, Bool, false, not, ◌||◌, List, [], ◌∷◌, ◌++◌, Option, Some, None, option_map, option_and_then, if◌then◌else◌}
use Rattle.std.specs.Str.{bytes_eq}
use Rattle.wdl_value.specs.declared.ty.Member.{Member}
use Rattle.wdl_value.specs.declared.ty.Ty.{Ty, out-Ty}
use Rattle.wdl_value.specs.declared.ty.Ty.TheVariants as ty
use Rattle.wdl_value.specs.declared.value.Value.TheVariants as v
use Rattle.wdl_value.specs.Bare.{is_optional}
use Rattle.wdl_ast.specs.declared.leaf.Ident.{Ident}
use Rattle.wdl_typed.specs.declared.expr.TExpr.{TExpr}
use Rattle.wdl_typed.specs.declared.expr.TExpr.TheVariants as te
use Rattle.wdl_typed.specs.declared.expr.TField.{TField}
use Rattle.wdl_check_rules.specs.declared.literal_members.MemberValue.{MemberValue}
use Rattle.wdl_check_rules.specs.declared.typed.Typed.{Typed}
use Rattle.wdl_check_rules.specs.Rules.{typing, literal, cast_to, coerced}

abbrev pub is_member : List Member → List ℕ → Bool
is_member [] name = false
is_member (m ∷ ms) name = bytes_eq m.name name || is_member ms name

abbrev pub is_listed : List Ident → List ℕ → Bool
is_listed [] name = false
is_listed (n ∷ ns) name = bytes_eq n.name name || is_listed ns name

-- a name that the struct lacks, or that stands before
abbrev pub is_stray : List Member → List Ident → List ℕ → Bool
is_stray ms before name = not (is_member ms name) || is_listed before name

abbrev pub has_stray : List Member → List Ident → List Ident → Bool
has_stray ms before [] = false
has_stray ms before (n ∷ ns) = is_stray ms before n.name || has_stray ms (before ++ n ∷ []) ns

-- what is given under each name
abbrev pub GivenAt : Type 0
GivenAt = List ℕ → Option MemberValue

abbrev pub given_of : List MemberValue → GivenAt
given_of [] name = None
given_of (g ∷ gs) name = if bytes_eq g.name name then Some g else given_of gs name

-- the same, but nothing under one name
abbrev pub without : GivenAt → List ℕ → GivenAt
without gs name q = if bytes_eq name q then None else gs q

-- a member that is not given is undefined, where its type is optional
abbrev pub left_out : Ty → Option TExpr
left_out t = if is_optional (out-Ty t) then Some (cast_to (literal v.Absent ty.Absent) t) else None

abbrev pub member_value : Ty → Option MemberValue → Option TExpr
member_value t None = left_out t
member_value t (Some g) = coerced g.value t

abbrev pub field : List ℕ → TExpr → TField TExpr
field name e = record { name = name; value = e }

-- the value of each member, in the order of the struct
abbrev pub fields_of : List Member → GivenAt → Option (List (TField TExpr))
fields_of [] gs = Some []
fields_of (m ∷ ms) gs =
    option_and_then (λ e. option_map (λ fields. field m.name e ∷ fields) (fields_of ms (without gs m.name)))
    (member_value m.ty (gs m.name))

abbrev pub struct_with : List ℕ → List (TField TExpr) → Typed
struct_with name fields = typing (te.StructOf name fields) (ty.Struct name)
