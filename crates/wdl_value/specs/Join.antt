-- The type that two types have in common: that of a list's items, of the branches of `if`, and of what `==` compares.
use Rattle.std.specs.Prelude.{◌≡◌, Bool, ◌&&◌, Option, Some, None, option_map, option_and_then, if◌then◌else◌}
use Rattle.std.proofs.Common.{ap, refl}
use Rattle.wdl_value.specs.declared.ty.Ty.{Ty, Ty-F, out-Ty, map-Ty, more_of-Ty, end_of-Ty}
use Rattle.wdl_value.specs.declared.ty.Ty.TheVariants as ty
use Rattle.wdl_value.specs.declared.ty.Ty.TheOpen as type
use Rattle.wdl_value.specs.declared.ty.Ty.TheBlock.{shape-the_row-Ty-0, hidden-the_row-Ty-0}
use denote.Hole.Carrier.{hidden}
use Rattle.wdl_value.specs.Bare.{bare}
use Rattle.wdl_value.specs.Kinds.{is_absent, is_empty, is_text}
use Rattle.wdl_value.specs.SameType.{same_type}
use Rattle.wdl_value.specs.RecurType.{recur_type, recur_type_out}

-- what a type joins with another to
abbrev pub Joiner : Type 0
Joiner = Ty → Option Ty

-- the second type with the question marks of the first one
abbrev pub marked : Ty → Ty → Ty
marked (ty.Opt' s (more_of-Ty u end_of-Ty)) t = ty.Opt (marked u t)
marked u t = t

pub marked-Opt : (u t : Ty) → marked (ty.Opt u) t ≡ ty.Opt (marked u t)
unfolding shape-the_row-Ty-0 hidden-the_row-Ty-0 hidden
marked-Opt u t = refl

pub marked-other : (u t : Ty) → ((x : Ty) → u ≡ ty.Opt x → ⊥) → t ≡ marked u t
unfolding shape-the_row-Ty-0 hidden-the_row-Ty-0 hidden
marked-other (ty.Opt' s (more_of-Ty u end_of-Ty)) t h = absurd (h u refl)
marked-other ty.Bool t h = refl
marked-other ty.Int t h = refl
marked-other ty.Str t h = refl
marked-other ty.File t h = refl
marked-other (ty.Array' s u some) t h = refl
marked-other (ty.Map' s u z w) t h = refl
marked-other (ty.Pair' s u z w) t h = refl
marked-other (ty.Struct n) t h = refl
marked-other ty.Absent t h = refl
marked-other ty.Empty t h = refl

-- the type of `None` with a type: the type, optional
abbrev pub absent_join : Ty → Ty-F Ty → Ty
absent_join u (type.Opt v) = u
absent_join u type.Absent = u
absent_join u type.Empty = ty.Absent
absent_join u y = ty.Opt u

abbrev pub array_of : Option Ty → Bool → Option Ty
array_of j some = option_map (λ t. ty.Array t some) j

abbrev pub map_of : Option Ty → Option Ty → Option Ty
map_of j k = option_and_then (λ t. option_map (ty.Map t) k) j

abbrev pub pair_of : Option Ty → Option Ty → Option Ty
pair_of j k = option_and_then (λ t. option_map (ty.Pair t) k) j

-- types that have no parts with a join: equal ones, and String with File
abbrev pub other_join : Ty → Ty → Option Ty
other_join t u = if same_type t u then Some t else (if is_text t && is_text u then Some ty.Str else None)

abbrev pub parts_join : Ty → Ty-F Joiner → Ty → Ty-F Ty → Option Ty
parts_join t (type.Array f some) u (type.Array v also) = array_of (f v) (some && also)
parts_join t (type.Map f g) u (type.Map v w) = map_of (f v) (g w)
parts_join t (type.Pair f g) u (type.Pair v w) = pair_of (f v) (g w)
parts_join t x u y = other_join t u

-- a type that is no optional with another one that is none
abbrev pub plain_join : Ty → Ty-F Joiner → Ty → Option Ty
plain_join t x u =
    if is_empty u then Some t
    else (if is_absent u then Some (ty.Opt t) else parts_join t x u (out-Ty u))

-- with any type: where that is optional, so is the join
abbrev pub right_join : Ty → Ty-F Joiner → Ty → Option Ty
right_join t x u = option_map (marked u) (plain_join t x (bare u))

-- an optional type with another one: the join of the inner types, optional
abbrev pub opt_join : Ty → Joiner → Ty → Ty-F Ty → Option Ty
opt_join t f u (type.Opt v) = option_map ty.Opt (f v)
opt_join t f u type.Empty = Some t
opt_join t f u type.Absent = Some t
opt_join t f u y = option_map ty.Opt (f u)

abbrev pub join_at : Ty → Ty-F Joiner → Ty → Option Ty
join_at t type.Empty u = Some u
join_at t type.Absent u = Some (absent_join u (out-Ty u))
join_at t (type.Opt f) u = opt_join t f u (out-Ty u)
join_at t x u = right_join t x u

unfoldable pub join : Ty → Ty → Option Ty
join = recur_type Joiner join_at

pub join_out : (t u : Ty) → join t u ≡ join_at t (map-Ty Ty Joiner join (out-Ty t)) u
unfolding join
join_out t u = ap (λ (f : Joiner). f u) (recur_type_out Joiner join_at t)

-- what a proof of code about `join` uses
pub ruleset join_steps = (join_out, ty.outs-Bool, ty.outs-Int, ty.outs-Str, ty.outs-File, ty.outs-Array, ty.outs-Map, ty.outs-Pair, ty.outs-Struct, ty.outs-Opt, ty.outs-Absent, ty.outs-Empty)
