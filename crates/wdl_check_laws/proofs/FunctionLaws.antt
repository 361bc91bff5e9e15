-- The arguments of a function coerce to the parameters of its row of the table, which have the same row.
use Rattle.std.proofs.Common.{◌≡◌, Bool, true, false, ◌&&◌, List, [], ◌∷◌, Option, Some, None, option_and_then, refl, ap, sym, ◌∙◌, subst, if◌then◌else◌}
use Rattle.std.proofs.lemmas.Option.{same_Some}
use Rattle.wdl_value.specs.declared.operator.Func.{Func}
use Rattle.wdl_value.specs.declared.operator.Func.TheVariants as func
use Rattle.wdl_value.specs.declared.ty.Ty.{Ty, Ty-F, out-Ty}
use Rattle.wdl_value.specs.declared.ty.Ty.TheVariants as ty
use Rattle.wdl_value.specs.declared.ty.Ty.TheOpen as type
use Rattle.wdl_value.specs.declared.typing.FuncTyping.{FuncTyping}
use Rattle.wdl_value.specs.Bare.{is_optional}
use Rattle.wdl_value.specs.Coerces.{coerces}
use Rattle.wdl_value.specs.FunctionTypes.{array, item_of, item_type, known_at, known_type, is_plain, unary, binary, taking, with_items, with_rows, plain_only, with_plain_items, parts_at, part_types, entries_at, entry_types, plain_first, with_two, with_pairs, with_plain_pairs, with_entries, defined_type, unary_type, taking_both, texts_type, pairing_type, binary_type, nullary_type, function_type}
use Rattle.wdl_check_laws.proofs.CoercionLaws.{coerces-refl, co_empty, to_opt, absent_to_opt, to_array, to_map, to_pair, of_layers}

-- ---- one parameter

-- a parameter that the argument coerces to, with the same row
abbrev Taken : (Ty → Option FuncTyping) → Ty → FuncTyping → Type 0
Taken f t row = (a : Ty) × (row.args ≡ a ∷ []) × (coerces t a ≡ true) × (f a ≡ Some row)

abbrev Takes : (Ty → Option FuncTyping) → Type 0
Takes f = (t : Ty) (row : FuncTyping) → f t ≡ Some row → Taken f t row

args_of : (a result : Ty) (row : FuncTyping) → unary a result ≡ Some row → row.args ≡ a ∷ []
args_of a result row h = cc

taken_by : (f : Ty → Option FuncTyping) (t a result : Ty) (row : FuncTyping) → coerces t a ≡ true → f a ≡ unary a result → unary a result ≡ Some row → Taken f t row
taken_by f t a result row c e h = (a, args_of a result row h, c, e ∙ h)

taking_takes : (param result : Ty) → Takes (λ t. taking t param result)
taking_takes param result t row h = by_test (coerces t param) refl h
  where
    by_test : (b : Bool) → coerces t param ≡ b → (if b then unary param result else None) ≡ Some row → Taken (λ t. taking t param result) t row
    by_test true e h = taken_by (λ t. taking t param result) t param result row e (ap (λ (b : Bool). if b then unary param result else None) (coerces-refl param)) h
    by_test false e h = cc

-- ---- arrays

-- the items' type, and that the array coerces to one of what it coerces to
item_at : (t x y : Ty) (z : Ty-F Ty) → out-Ty t ≡ z → item_of t z ≡ Some x → coerces x y ≡ true → coerces t (array y) ≡ true
item_at t x y (type.Array u some) is h c = to_array t (array y) u y some false is (ty.outs-Array y false) (subst (λ (i : Ty). coerces i y ≡ true) (some_is u x h) c)
  where
    some_is : (a b : Ty) → Some a ≡ Some b → b ≡ a
    some_is a b h = cc
item_at t x y type.Empty is h c = co_empty t (array y) is
item_at t x y z is h c = cc

from_items : (t x y : Ty) → item_type t ≡ Some x → coerces x y ≡ true → coerces t (array y) ≡ true
from_items t x y h c = item_at t x y (out-Ty t) refl h c

item_array : (x : Ty) → item_type (array x) ≡ Some x
item_array x = ap (item_of (array x)) (ty.outs-Array x false)

-- a function whose row depends on the type of the items, through `g`
items_take : (g : Ty → Ty) (result : Ty → Ty) → ((x : Ty) → coerces x (g x) ≡ true) → ((x : Ty) → g (g x) ≡ g x) → ((x : Ty) → result (g x) ≡ result x) → Takes (λ t. with_items t (λ x. unary (array (g x)) (result x)))
items_take g result c i r t row h = by_item (item_type t) refl h
  where
    again : (x : Ty) → with_items (array (g x)) (λ x. unary (array (g x)) (result x)) ≡ unary (array (g x)) (result x)
    again x =
        ap (option_and_then (λ x. unary (array (g x)) (result x))) (item_array (g x))
        ∙ ap (λ (a : Ty). unary (array a) (result (g x))) (i x) ∙ ap (unary (array (g x))) (r x)

    by_item : (o : Option Ty) → item_type t ≡ o → option_and_then (λ x. unary (array (g x)) (result x)) o ≡ Some row → Taken (λ t. with_items t (λ x. unary (array (g x)) (result x))) t row
    by_item None e h = cc
    by_item (Some x) e h = taken_by (λ t. with_items t (λ x. unary (array (g x)) (result x))) t (array (g x)) (result x) row (from_items t x (g x) e (c x)) (again x) h

-- the inner type of an optional, made optional again
opt_known : Ty → Ty
opt_known x = ty.Opt (known_type x)

known_of_opt : (x : Ty) → known_type (ty.Opt x) ≡ x
known_of_opt x = ap (known_at (ty.Opt x)) (ty.outs-Opt x)

to_known_at : (x : Ty) (z : Ty-F Ty) → out-Ty x ≡ z → coerces x (ty.Opt (known_at x z)) ≡ true
to_known_at x (type.Opt u) is = ap (λ (i : Ty). coerces i (ty.Opt u)) (of_layers x (ty.Opt u) (type.Opt u) is (ty.outs-Opt u)) ∙ coerces-refl (ty.Opt u)
to_known_at x type.Absent is = ap (λ (i : Ty). coerces i (ty.Opt ty.Empty)) (of_layers x ty.Absent type.Absent is ty.outs-Absent) ∙ absent_to_opt (ty.Opt ty.Empty) (ap is_optional (ty.outs-Opt ty.Empty))
to_known_at x z is = to_opt x x (ap is_optional is) (coerces-refl x)

to_known : (x : Ty) → coerces x (ty.Opt (known_type x)) ≡ true
to_known x = to_known_at x (out-Ty x) refl

-- Array[P]
plain_take : (result : Ty) → Takes (λ t. with_plain_items t (λ p. unary (array p) result))
plain_take result t row h = by_item (item_type t) refl h
  where
    by_plain : (x : Ty) (b : Bool) → item_type t ≡ Some x → is_plain x ≡ b → option_and_then (λ p. unary (array p) result) (if b then Some x else None) ≡ Some row → Taken (λ t. with_plain_items t (λ p. unary (array p) result)) t row
    by_plain x true e p h =
        taken_by (λ t. with_plain_items t (λ p. unary (array p) result)) t (array x) result row (from_items t x x e (coerces-refl x))
        (ap (λ (o : Option Ty). option_and_then (λ p. unary (array p) result) (option_and_then plain_only o)) (item_array x) ∙ ap (λ (b : Bool). option_and_then (λ p. unary (array p) result) (if b then Some x else None)) p) h
    by_plain x false e p h = cc

    by_item : (o : Option Ty) → item_type t ≡ o → option_and_then (λ p. unary (array p) result) (option_and_then plain_only o) ≡ Some row → Taken (λ t. with_plain_items t (λ p. unary (array p) result)) t row
    by_item None e h = cc
    by_item (Some x) e h = by_plain x (is_plain x) e refl h

-- Array[Array[X]]
rows_take : (result : Ty → Ty) → Takes (λ t. with_rows t (λ x. unary (array (array x)) (result x)))
rows_take result t row h = by_item (item_type t) refl h
  where
    by_row : (x : Ty) (o : Option Ty) → item_type t ≡ Some x → item_type x ≡ o → option_and_then (λ x. unary (array (array x)) (result x)) o ≡ Some row → Taken (λ t. with_rows t (λ x. unary (array (array x)) (result x))) t row
    by_row x None e f h = cc
    by_row x (Some y) e f h =
        taken_by (λ t. with_rows t (λ x. unary (array (array x)) (result x))) t (array (array y)) (result y) row
        (from_items t x (array y) e (from_items x y y f (coerces-refl y)))
        (ap (λ (o : Option Ty). option_and_then (λ x. unary (array (array x)) (result x)) (option_and_then item_type o)) (item_array (array y)) ∙ ap (option_and_then (λ x. unary (array (array x)) (result x))) (item_array y)) h

    by_item : (o : Option Ty) → item_type t ≡ o → option_and_then (λ x. unary (array (array x)) (result x)) (option_and_then item_type o) ≡ Some row → Taken (λ t. with_rows t (λ x. unary (array (array x)) (result x))) t row
    by_item None e h = cc
    by_item (Some x) e h = by_row x (item_type x) e refl h

-- ---- pairs and maps

two_are : (a b u w : Ty) → ◌≡◌ {A = Option (Ty × Ty)} (Some (a, b)) (Some (u, w)) → (a ≡ u) × (b ≡ w)
two_are a b u w h =
    let e : ◌≡◌ {A = Ty × Ty} (a, b) (u, w) = same_Some {A = Ty × Ty} (a, b) (u, w) h in
    (ap (λ (p : Ty × Ty). p.0) e, ap (λ (p : Ty × Ty). p.1) e)

pair_at : (x u w : Ty) (z : Ty-F Ty) → out-Ty x ≡ z → parts_at x z ≡ Some (u, w) → coerces x (ty.Pair u w) ≡ true
pair_at x u w (type.Pair a b) is h =
    let e = two_are a b u w h in
    to_pair x (ty.Pair u w) a u b w is (ty.outs-Pair u w) (subst (λ (i : Ty). coerces a i ≡ true) e.0 (coerces-refl a)) (subst (λ (i : Ty). coerces b i ≡ true) e.1 (coerces-refl b))
pair_at x u w type.Empty is h = co_empty x (ty.Pair u w) is
pair_at x u w z is h = cc

map_at : (x u w : Ty) (z : Ty-F Ty) → out-Ty x ≡ z → entries_at x z ≡ Some (u, w) → coerces x (ty.Map u w) ≡ true
map_at x u w (type.Map a b) is h =
    let e = two_are a b u w h in
    to_map x (ty.Map u w) a u b w is (ty.outs-Map u w) (subst (λ (i : Ty). coerces a i ≡ true) e.0 (coerces-refl a)) (subst (λ (i : Ty). coerces b i ≡ true) e.1 (coerces-refl b))
map_at x u w type.Empty is h = co_empty x (ty.Map u w) is
map_at x u w z is h = cc

parts_pair : (u w : Ty) → part_types (ty.Pair u w) ≡ Some (u, w)
parts_pair u w = ap (parts_at (ty.Pair u w)) (ty.outs-Pair u w)

entries_map : (u w : Ty) → entry_types (ty.Map u w) ≡ Some (u, w)
entries_map u w = ap (entries_at (ty.Map u w)) (ty.outs-Map u w)

abbrev Two : Type 0
Two = Option (Ty × Ty)

-- Array[Pair[X, Y]]
pairs_take : (result : Ty → Ty → Ty) → Takes (λ t. with_pairs t (λ x y. unary (array (ty.Pair x y)) (result x y)))
pairs_take result t row h = by_item (item_type t) refl h
  where
    by_parts : (x : Ty) (o : Two) → item_type t ≡ Some x → part_types x ≡ o → with_two (λ x y. unary (array (ty.Pair x y)) (result x y)) o ≡ Some row → Taken (λ t. with_pairs t (λ x y. unary (array (ty.Pair x y)) (result x y))) t row
    by_parts x None e f h = cc
    by_parts x (Some (u, w)) e f h =
        taken_by (λ t. with_pairs t (λ x y. unary (array (ty.Pair x y)) (result x y))) t (array (ty.Pair u w)) (result u w) row
        (from_items t x (ty.Pair u w) e (pair_at x u w (out-Ty x) refl f))
        (ap (λ (o : Option Ty). with_two (λ x y. unary (array (ty.Pair x y)) (result x y)) (option_and_then part_types o)) (item_array (ty.Pair u w)) ∙ ap (with_two (λ x y. unary (array (ty.Pair x y)) (result x y))) (parts_pair u w)) h

    by_item : (o : Option Ty) → item_type t ≡ o → with_two (λ x y. unary (array (ty.Pair x y)) (result x y)) (option_and_then part_types o) ≡ Some row → Taken (λ t. with_pairs t (λ x y. unary (array (ty.Pair x y)) (result x y))) t row
    by_item None e h = cc
    by_item (Some x) e h = by_parts x (part_types x) e refl h

-- Array[Pair[P, Y]]
plain_pairs_take : (result : Ty → Ty → Ty) → Takes (λ t. with_plain_pairs t (λ x y. unary (array (ty.Pair x y)) (result x y)))
plain_pairs_take result t row h = by_item (item_type t) refl h
  where
    by_plain : (x u w : Ty) (b : Bool) → item_type t ≡ Some x → part_types x ≡ Some (u, w) → is_plain u ≡ b → with_two (λ x y. unary (array (ty.Pair x y)) (result x y)) (if b then Some (u, w) else None) ≡ Some row → Taken (λ t. with_plain_pairs t (λ x y. unary (array (ty.Pair x y)) (result x y))) t row
    by_plain x u w false e f p h = cc
    by_plain x u w true e f p h =
        taken_by (λ t. with_plain_pairs t (λ x y. unary (array (ty.Pair x y)) (result x y))) t (array (ty.Pair u w)) (result u w) row
        (from_items t x (ty.Pair u w) e (pair_at x u w (out-Ty x) refl f))
        (ap (λ (o : Option Ty). with_two (λ x y. unary (array (ty.Pair x y)) (result x y)) (option_and_then plain_first (option_and_then part_types o))) (item_array (ty.Pair u w))
        ∙ ap (λ (o : Two). with_two (λ x y. unary (array (ty.Pair x y)) (result x y)) (option_and_then plain_first o)) (parts_pair u w)
        ∙ ap (λ (b : Bool). with_two (λ x y. unary (array (ty.Pair x y)) (result x y)) (if b then Some (u, w) else None)) p) h

    by_parts : (x : Ty) (o : Two) → item_type t ≡ Some x → part_types x ≡ o → with_two (λ x y. unary (array (ty.Pair x y)) (result x y)) (option_and_then plain_first o) ≡ Some row → Taken (λ t. with_plain_pairs t (λ x y. unary (array (ty.Pair x y)) (result x y))) t row
    by_parts x None e f h = cc
    by_parts x (Some (u, w)) e f h = by_plain x u w (is_plain u) e f refl h

    by_item : (o : Option Ty) → item_type t ≡ o → with_two (λ x y. unary (array (ty.Pair x y)) (result x y)) (option_and_then plain_first (option_and_then part_types o)) ≡ Some row → Taken (λ t. with_plain_pairs t (λ x y. unary (array (ty.Pair x y)) (result x y))) t row
    by_item None e h = cc
    by_item (Some x) e h = by_parts x (part_types x) e refl h

-- Map[P, Y]
entries_take : (result : Ty → Ty → Ty) → Takes (λ t. with_entries t (λ x y. unary (ty.Map x y) (result x y)))
entries_take result t row h = by_parts (entry_types t) refl h
  where
    by_plain : (u w : Ty) (b : Bool) → entry_types t ≡ Some (u, w) → is_plain u ≡ b → with_two (λ x y. unary (ty.Map x y) (result x y)) (if b then Some (u, w) else None) ≡ Some row → Taken (λ t. with_entries t (λ x y. unary (ty.Map x y) (result x y))) t row
    by_plain u w false f p h = cc
    by_plain u w true f p h =
        taken_by (λ t. with_entries t (λ x y. unary (ty.Map x y) (result x y))) t (ty.Map u w) (result u w) row (map_at t u w (out-Ty t) refl f)
        (ap (λ (o : Two). with_two (λ x y. unary (ty.Map x y) (result x y)) (option_and_then plain_first o)) (entries_map u w)
        ∙ ap (λ (b : Bool). with_two (λ x y. unary (ty.Map x y) (result x y)) (if b then Some (u, w) else None)) p) h

    by_parts : (o : Two) → entry_types t ≡ o → with_two (λ x y. unary (ty.Map x y) (result x y)) (option_and_then plain_first o) ≡ Some row → Taken (λ t. with_entries t (λ x y. unary (ty.Map x y) (result x y))) t row
    by_parts None f h = cc
    by_parts (Some (u, w)) f h = by_plain u w (is_plain u) f refl h

none_takes : (f : Ty → Option FuncTyping) (t : Ty) (row : FuncTyping) → None ≡ Some row → Taken f t row
none_takes f t row h = cc

unary_takes : (f : Func) → Takes (unary_type f)
unary_takes func.Length = items_take (λ x. x) (λ x. ty.Int) coerces-refl (λ x. refl) (λ x. refl)
unary_takes func.Transpose = rows_take (λ x. array (array x))
unary_takes func.Flatten = rows_take (λ x. array x)
unary_takes func.Unzip = pairs_take (λ x y. ty.Pair (array x) (array y))
unary_takes func.Quote = plain_take (array ty.Str)
unary_takes func.Squote = plain_take (array ty.Str)
unary_takes func.AsPairs = entries_take (λ p y. array (ty.Pair p y))
unary_takes func.Keys = entries_take (λ p y. array p)
unary_takes func.AsMap = plain_pairs_take (λ p y. ty.Map p y)
unary_takes func.CollectByKey = plain_pairs_take (λ p y. ty.Map p (array y))
unary_takes func.Defined = λ t row h. taken_by defined_type t t ty.Bool row (coerces-refl t) refl h
unary_takes func.SelectFirst = items_take (λ x. ty.Opt (known_type x)) known_type to_known (λ x. ap ty.Opt (known_of_opt (known_type x))) (λ x. known_of_opt (known_type x))
unary_takes func.SelectAll = items_take (λ x. ty.Opt (known_type x)) (λ x. array (known_type x)) to_known (λ x. ap ty.Opt (known_of_opt (known_type x))) (λ x. ap array (known_of_opt (known_type x)))
unary_takes func.Range = taking_takes ty.Int (array ty.Int)
unary_takes func.Basename = taking_takes ty.Str ty.Str
unary_takes func.Glob = taking_takes ty.Str (array ty.File)
unary_takes func.ReadString = taking_takes ty.File ty.Str
unary_takes func.ReadLines = taking_takes ty.File (array ty.Str)
unary_takes func.ReadInt = taking_takes ty.File ty.Int
unary_takes func.ReadBoolean = taking_takes ty.File ty.Bool
unary_takes func.ReadTsv = taking_takes ty.File (array (array ty.Str))
unary_takes func.ReadMap = taking_takes ty.File (ty.Map ty.Str ty.Str)
unary_takes func.WriteLines = taking_takes (array ty.Str) ty.File
unary_takes func.WriteTsv = taking_takes (array (array ty.Str)) ty.File
unary_takes func.WriteMap = taking_takes (ty.Map ty.Str ty.Str) ty.File
unary_takes f = λ t row h. none_takes (unary_type f) t row h

-- ---- two parameters

abbrev TakenTwo : (Ty → Ty → Option FuncTyping) → Ty → Ty → FuncTyping → Type 0
TakenTwo f t u row = (a : Ty) × (b : Ty) × (row.args ≡ a ∷ b ∷ []) × (coerces t a ≡ true) × (coerces u b ≡ true) × (f a b ≡ Some row)

abbrev TakesTwo : (Ty → Ty → Option FuncTyping) → Type 0
TakesTwo f = (t u : Ty) (row : FuncTyping) → f t u ≡ Some row → TakenTwo f t u row

two_args : (a b result : Ty) (row : FuncTyping) → binary a b result ≡ Some row → row.args ≡ a ∷ b ∷ []
two_args a b result row h = cc

taken_two : (f : Ty → Ty → Option FuncTyping) (t u a b result : Ty) (row : FuncTyping) → coerces t a ≡ true → coerces u b ≡ true → f a b ≡ binary a b result → binary a b result ≡ Some row → TakenTwo f t u row
taken_two f t u a b result row c d e h = (a, b, two_args a b result row h, c, d, e ∙ h)

both_take : (param result : Ty) → TakesTwo (λ t u. taking_both t u param result)
both_take param result t u row h = by_test (coerces t param) (coerces u param) refl refl h
  where
    by_test : (b d : Bool) → coerces t param ≡ b → coerces u param ≡ d → (if b && d then binary param param result else None) ≡ Some row → TakenTwo (λ t u. taking_both t u param result) t u row
    by_test true true e f h =
        taken_two (λ t u. taking_both t u param result) t u param param result row e f
        (ap (λ (b : Bool). if b && b then binary param param result else None) (coerces-refl param)) h
    by_test true false e f h = cc
    by_test false d e f h = cc

-- String, Array[P]
texts_take : (result : Ty) → TakesTwo (λ t u. texts_type t u result)
texts_take result t u row h = by_test (coerces t ty.Str) refl h
  where
    again : (x : Ty) → is_plain x ≡ true → texts_type ty.Str (array x) result ≡ binary ty.Str (array x) result
    again x p =
        ap (λ (b : Bool). if b then with_plain_items (array x) (λ p. binary ty.Str (array p) result) else None) (coerces-refl ty.Str)
        ∙ ap (λ (o : Option Ty). option_and_then (λ p. binary ty.Str (array p) result) (option_and_then plain_only o)) (item_array x)
        ∙ ap (λ (b : Bool). option_and_then (λ p. binary ty.Str (array p) result) (if b then Some x else None)) p

    by_plain : (x : Ty) (b : Bool) → coerces t ty.Str ≡ true → item_type u ≡ Some x → is_plain x ≡ b → option_and_then (λ p. binary ty.Str (array p) result) (if b then Some x else None) ≡ Some row → TakenTwo (λ t u. texts_type t u result) t u row
    by_plain x true c e p h = taken_two (λ t u. texts_type t u result) t u ty.Str (array x) result row c (from_items u x x e (coerces-refl x)) (again x p) h
    by_plain x false c e p h = cc

    by_item : (o : Option Ty) → coerces t ty.Str ≡ true → item_type u ≡ o → option_and_then (λ p. binary ty.Str (array p) result) (option_and_then plain_only o) ≡ Some row → TakenTwo (λ t u. texts_type t u result) t u row
    by_item None c e h = cc
    by_item (Some x) c e h = by_plain x (is_plain x) c e refl h

    by_test : (b : Bool) → coerces t ty.Str ≡ b → (if b then with_plain_items u (λ p. binary ty.Str (array p) result) else None) ≡ Some row → TakenTwo (λ t u. texts_type t u result) t u row
    by_test true c h = by_item (item_type u) c refl h
    by_test false c h = cc

pairing_takes : TakesTwo pairing_type
pairing_takes t u row h = by_items (item_type t) (item_type u) refl refl h
  where
    by_items : (o q : Option Ty) → item_type t ≡ o → item_type u ≡ q → option_and_then (λ x. option_and_then (λ y. binary (array x) (array y) (array (ty.Pair x y))) q) o ≡ Some row → TakenTwo pairing_type t u row
    by_items None q e f h = cc
    by_items (Some x) None e f h = cc
    by_items (Some x) (Some y) e f h =
        taken_two pairing_type t u (array x) (array y) (array (ty.Pair x y)) row (from_items t x x e (coerces-refl x)) (from_items u y y f (coerces-refl y))
        (ap (λ (o : Option Ty). option_and_then (λ x. option_and_then (λ y. binary (array x) (array y) (array (ty.Pair x y))) (item_type (array y))) o) (item_array x)
        ∙ ap (λ (o : Option Ty). option_and_then (λ y. binary (array x) (array y) (array (ty.Pair x y))) o) (item_array y)) h

none_takes_two : (f : Ty → Ty → Option FuncTyping) (t u : Ty) (row : FuncTyping) → None ≡ Some row → TakenTwo f t u row
none_takes_two f t u row h = cc

binary_takes : (f : Func) → TakesTwo (binary_type f)
binary_takes func.Min = both_take ty.Int ty.Int
binary_takes func.Max = both_take ty.Int ty.Int
binary_takes func.Cross = pairing_takes
binary_takes func.Zip = pairing_takes
binary_takes func.Prefix = texts_take (array ty.Str)
binary_takes func.Suffix = texts_take (array ty.Str)
binary_takes func.Sep = texts_take ty.Str
binary_takes func.Basename = both_take ty.Str ty.Str
binary_takes f = λ t u row h. none_takes_two (binary_type f) t u row h

-- ---- any number of parameters

abbrev pub CoerceAll : List Ty → List Ty → Type 0
CoerceAll [] [] = Unit {0}
CoerceAll (t ∷ ts) (u ∷ us) = (coerces t u ≡ true) × CoerceAll ts us
CoerceAll ts us = ⊥

abbrev Called : Func → List Ty → FuncTyping → Type 0
Called f ts row = CoerceAll ts row.args × (function_type f row.args ≡ Some row)

nullary_called : (f : Func) (row : FuncTyping) → nullary_type f ≡ Some row → row.args ≡ []
nullary_called func.Stdout row h = cc
nullary_called func.Stderr row h = cc
nullary_called f row h = cc

pub called : (f : Func) (ts : List Ty) (row : FuncTyping) → function_type f ts ≡ Some row → Called f ts row
called f [] row h = subst (λ (us : List Ty). CoerceAll [] us × (function_type f us ≡ Some row)) (sym (nullary_called f row h)) (tt, h)
called f (t ∷ []) row h =
    let p = unary_takes f t row h in
    subst (λ (us : List Ty). CoerceAll (t ∷ []) us × (function_type f us ≡ Some row)) (sym p.1) ((p.2, tt), p.3)
called f (t ∷ (u ∷ [])) row h =
    let p = binary_takes f t u row h in
    subst (λ (us : List Ty). CoerceAll (t ∷ u ∷ []) us × (function_type f us ≡ Some row)) (sym p.2) ((p.3, (p.4, tt)), p.5)
called f (t ∷ (u ∷ (w ∷ more))) row h = cc
