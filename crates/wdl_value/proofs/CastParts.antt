-- What a cast makes of a value, layer by layer: from it, that casts of two values of one type differ where the values
-- do, and that maps keep distinct keys.
use Rattle.std.proofs.Common.{◌≡◌, ◌⊎◌, inl, inr, ℕ, Bool, true, false, not, ◌&&◌, List, [], ◌∷◌, map, Ok, Err, sym, ap, ◌∙◌, subst, refl, arith, ℤ, pos, negsuc}
use Rattle.std.proofs.lemmas.Bool.{false≢true, and_parts, and_from, or_parts, or_from, false_from_ne_true}
use Rattle.std.proofs.lemmas.Bool.Decides.{nat_tests}
use Rattle.std.proofs.lemmas.Fmt.{signed_decimal_injective}
use Rattle.std.specs.Fmt.{signed_decimal}
use Rattle.wdl_value.specs.declared.value.Value.{Value, Value-F, out-Value, roll-Value, roll-out-Value, out-roll-Value, map-Value, ind-Value}
use Rattle.wdl_value.specs.declared.value.Value.TheVariants as v
use Rattle.wdl_value.specs.declared.value.Value.TheOpen as layer
use Rattle.wdl_value.specs.declared.value.MapRow.{MapRow}
use Rattle.wdl_value.specs.declared.ty.Ty.{Ty, Ty-F, out-Ty}
use Rattle.wdl_value.specs.declared.ty.Ty.TheOpen as type
use Rattle.wdl_value.specs.Bare.{bare}
use Rattle.wdl_value.specs.Cast.{Checked, and_then, Caster, list_cast, cast_at, cast, cast_all, cast_rows}
use Rattle.wdl_value.specs.CastOut.{cast_out}
use Rattle.wdl_value.specs.Fits.{Structs, is_int, takes_at, takes_step, takes, takes_all, takes_rows, is_absent}
use Rattle.wdl_value.specs.Keyed.{has_key, distinct_keys, rows_of, keyed_step, keyed, keyed_out, keyed_all, keyed_rows}
use Rattle.wdl_value.specs.SameValue.{same_value}
use Rattle.wdl_value.specs.ValueText.{bool_text}
use Rattle.wdl_value.proofs.FitsLemmas.{tests, takes_out, takes_plain, tests_absent, absent_or, bool_layer, int_layer, str_layer, file_layer, list_items, list_layer, pair_layer, map_layer, struct_layer}
use Rattle.wdl_value.proofs.SameValueLemmas.{same_value-true, same_value-refl}
use Rattle.wdl_value.proofs.ValueLayers.{Known, plain, firsts, first_rows}

-- ---- the parts of a cast

-- each item, and each row, with its cast
abbrev EachCast : Ty → List Value → List Value → Type 0
EachCast u [] [] = Unit {0}
EachCast u (x ∷ xs) (y ∷ ys) = (cast x u ≡ Ok y) × EachCast u xs ys
EachCast u xs ys = ⊥

abbrev RowsCast : Ty → Ty → List (MapRow Value) → List (MapRow Value) → Type 0
RowsCast u w [] [] = Unit {0}
RowsCast u w (x ∷ xs) (y ∷ ys) = (cast x.key u ≡ Ok y.key) × (cast x.value w ≡ Ok y.value) × RowsCast u w xs ys
RowsCast u w xs ys = ⊥

-- by the layer of the value, and that of the type without its question marks
abbrev Parts : Value-F Value → Ty-F Ty → Value → Type 0
Parts (layer.Bool b) type.Str a = out-Value a ≡ layer.Str (bool_text b)
Parts (layer.Int n) type.Str a = out-Value a ≡ layer.Str (signed_decimal n)
Parts (layer.File s) type.Str a = out-Value a ≡ layer.Str s
Parts (layer.Str s) type.File a = out-Value a ≡ layer.File s
Parts (layer.List xs) (type.Array u some) a = (ys : List Value) × (out-Value a ≡ layer.List ys) × EachCast u xs ys
Parts (layer.Pair x y) (type.Pair u w) a = (b : Value) × (c : Value) × (out-Value a ≡ layer.Pair b c) × (cast x u ≡ Ok b) × (cast y w ≡ Ok c)
Parts (layer.Map xs) (type.Map u w) a = (ys : List (MapRow Value)) × (out-Value a ≡ layer.Map ys) × RowsCast u w xs ys
Parts l w a = out-Value a ≡ l

abbrev done : {A : Type 0} → A → Checked A
done x = Ok x

same_ok : {A : Type 0} (x a : A) → done x ≡ Ok a → a ≡ x
same_ok x a e = cc

made : (x a : Value) (l : Value-F Value) → done x ≡ Ok a → out-Value x ≡ l → out-Value a ≡ l
made x a l e is = ap out-Value (same_ok x a e) ∙ is

cons_parts : (r : Checked Value) (rs : Checked (List Value)) (ys : List Value) → and_then r (λ x. and_then rs (λ xs. Ok (x ∷ xs))) ≡ Ok ys
    → (z : Value) × (zs : List Value) × (r ≡ Ok z) × (rs ≡ Ok zs) × (ys ≡ z ∷ zs)
cons_parts (Ok x) (Ok xs) ys e = (x, xs, refl, refl, same_ok (x ∷ xs) ys e)
cons_parts (Ok x) (Err f) ys e = absurd (cc)
cons_parts (Err f) rs ys e = absurd (cc)

each_parts : (xs : List Value) (u : Ty) (ys : List Value) → cast_all xs u ≡ Ok ys → EachCast u xs ys
each_parts [] u ys e = subst (EachCast u []) (sym (same_ok [] ys e)) tt
each_parts (x ∷ xs) u ys e =
    let p = cons_parts (cast x u) (cast_all xs u) ys e in
    subst (EachCast u (x ∷ xs)) (sym p.4) (p.2, each_parts xs u p.1 p.3)

list_parts : (x : Value) (xs : List Value) (u : Ty) (some : Bool) (a : Value) → list_cast (map cast xs) u some ≡ Ok a → (ys : List Value) × (out-Value a ≡ layer.List ys) × EachCast u xs ys
list_parts x [] u true a e = absurd (cc)
list_parts x [] u false a e = ([], made (v.List []) a (layer.List []) e (v.outs-List []), tt)
list_parts x (y ∷ ys) u some a e = by_all (cast_all (y ∷ ys) u) refl e
  where
    by_all : (r : Checked (List Value)) → cast_all (y ∷ ys) u ≡ r → and_then r (λ zs. Ok (v.List zs)) ≡ Ok a → (zs : List Value) × (out-Value a ≡ layer.List zs) × EachCast u (y ∷ ys) zs
    by_all (Ok zs) is e = (zs, made (v.List zs) a (layer.List zs) e (v.outs-List zs), each_parts (y ∷ ys) u zs is)
    by_all (Err f) is e = absurd (cc)

pair_parts : (r q : Checked Value) (a : Value) → and_then r (λ b. and_then q (λ c. Ok (v.Pair b c))) ≡ Ok a → (b : Value) × (c : Value) × (out-Value a ≡ layer.Pair b c) × (r ≡ Ok b) × (q ≡ Ok c)
pair_parts (Ok b) (Ok c) a e = (b, c, made (v.Pair b c) a (layer.Pair b c) e (v.outs-Pair b c), refl, refl)
pair_parts (Ok b) (Err f) a e = absurd (cc)
pair_parts (Err f) q a e = absurd (cc)

abbrev row : Value → Value → MapRow Value
row k x = record { key = k; value = x }

cons_row_parts : (r q : Checked Value) (rs : Checked (List (MapRow Value))) (ys : List (MapRow Value)) → and_then r (λ k. and_then q (λ x. and_then rs (λ xs. Ok (row k x ∷ xs)))) ≡ Ok ys
    → (k : Value) × (x : Value) × (zs : List (MapRow Value)) × (r ≡ Ok k) × (q ≡ Ok x) × (rs ≡ Ok zs) × (ys ≡ row k x ∷ zs)
cons_row_parts (Ok k) (Ok x) (Ok xs) ys e = (k, x, xs, refl, refl, refl, same_ok (row k x ∷ xs) ys e)
cons_row_parts (Ok k) (Ok x) (Err f) ys e = absurd (cc)
cons_row_parts (Ok k) (Err f) rs ys e = absurd (cc)
cons_row_parts (Err f) q rs ys e = absurd (cc)

rows_parts : (xs : List (MapRow Value)) (u w : Ty) (ys : List (MapRow Value)) → cast_rows xs u w ≡ Ok ys → RowsCast u w xs ys
rows_parts [] u w ys e = subst (RowsCast u w []) (sym (same_ok [] ys e)) tt
rows_parts (x ∷ xs) u w ys e =
    let p = cons_row_parts (cast x.key u) (cast x.value w) (cast_rows xs u w) ys e in
    subst (RowsCast u w (x ∷ xs)) (sym p.6) (p.3, p.4, rows_parts xs u w p.2 p.5)

map_parts : (xs : List (MapRow Value)) (u w : Ty) (a : Value) → and_then (cast_rows xs u w) (λ ys. Ok (v.Map ys)) ≡ Ok a → (ys : List (MapRow Value)) × (out-Value a ≡ layer.Map ys) × RowsCast u w xs ys
map_parts xs u w a e = by_rows (cast_rows xs u w) refl e
  where
    by_rows : (r : Checked (List (MapRow Value))) → cast_rows xs u w ≡ r → and_then r (λ ys. Ok (v.Map ys)) ≡ Ok a → (ys : List (MapRow Value)) × (out-Value a ≡ layer.Map ys) × RowsCast u w xs ys
    by_rows (Ok ys) is e = (ys, made (v.Map ys) a (layer.Map ys) e (v.outs-Map ys), rows_parts xs u w ys is)
    by_rows (Err f) is e = absurd (cc)

layer_parts : (x : Value) (l : Value-F Value) (w : Ty-F Ty) (a : Value) → out-Value x ≡ l → cast_at x (map-Value Value Caster cast l) w ≡ Ok a → Parts l w a
layer_parts x (layer.Bool b) type.Str a is e = made (v.Str (bool_text b)) a _ e (v.outs-Str _)
layer_parts x (layer.Int n) type.Str a is e = made (v.Str (signed_decimal n)) a _ e (v.outs-Str _)
layer_parts x (layer.File s) type.Str a is e = made (v.Str s) a _ e (v.outs-Str _)
layer_parts x (layer.Str s) type.File a is e = made (v.File s) a _ e (v.outs-File _)
layer_parts x (layer.List xs) (type.Array u some) a is e = list_parts x xs u some a e
layer_parts x (layer.Pair y z) (type.Pair u w) a is e = pair_parts (cast y u) (cast z w) a e
layer_parts x (layer.Map xs) (type.Map u w) a is e = map_parts xs u w a e
layer_parts x l w a is e = made x a _ e is

cast_parts : (x : Value) (u : Ty) (a : Value) → cast x u ≡ Ok a → Parts (out-Value x) (out-Ty (bare u)) a
cast_parts x u a e = layer_parts x (out-Value x) (out-Ty (bare u)) a refl (sym (cast_out x u) ∙ e)

-- ---- casts of one type differ where the values do

-- only Absent is cast to Absent
absent_back : (l : Value-F Value) (w : Ty-F Ty) (a : Value) → Parts l w a → out-Value a ≡ layer.Absent → l ≡ layer.Absent
absent_back (layer.Bool b) type.Str a p e = absurd (cc)
absent_back (layer.Int n) type.Str a p e = absurd (cc)
absent_back (layer.File s) type.Str a p e = absurd (cc)
absent_back (layer.Str s) type.File a p e = absurd (cc)
absent_back (layer.List xs) (type.Array u some) a p e = let q = p.1 in absurd (cc)
absent_back (layer.Pair y z) (type.Pair u w) a p e = let q = p.2 in absurd (cc)
absent_back (layer.Map xs) (type.Map u w) a p e = let q = p.1 in absurd (cc)
absent_back l w a p e = sym p ∙ e

pub bool_text_injective : (b c : Bool) → bool_text b ≡ bool_text c → b ≡ c
bool_text_injective true true e = refl
bool_text_injective false false e = refl
bool_text_injective true false e = absurd (cc)
bool_text_injective false true e = absurd (cc)

pub int_text_injective : (m n : ℤ) → is_int m ≡ true → is_int n ≡ true → signed_decimal m ≡ signed_decimal n → m ≡ n
unfolding is_int
int_text_injective (pos m) (pos n) h k e = signed_decimal_injective (pos m) (pos n) (grind (arith, nat_tests)) (grind (arith, nat_tests)) e
int_text_injective (pos m) (negsuc n) h k e = signed_decimal_injective (pos m) (negsuc n) (grind (arith, nat_tests)) (grind (arith, nat_tests)) e
int_text_injective (negsuc m) (pos n) h k e = signed_decimal_injective (negsuc m) (pos n) (grind (arith, nat_tests)) (grind (arith, nat_tests)) e
int_text_injective (negsuc m) (negsuc n) h k e = signed_decimal_injective (negsuc m) (negsuc n) (grind (arith, nat_tests)) (grind (arith, nat_tests)) e

bools : (b c : Bool) (w : Ty-F Ty) (a : Value) → Parts (layer.Bool b) w a → Parts (layer.Bool c) w a → b ≡ c
bools b c type.Str a p q = bool_text_injective b c (cc)
bools b c w a p q = let e : layer.Bool b ≡ layer.Bool c = sym p ∙ q in cc

ints : (m n : ℤ) (w : Ty-F Ty) (a : Value) → is_int m ≡ true → is_int n ≡ true → Parts (layer.Int m) w a → Parts (layer.Int n) w a → m ≡ n
ints m n type.Str a h k p q = int_text_injective m n h k (cc)
ints m n w a h k p q = let e : layer.Int m ≡ layer.Int n = sym p ∙ q in cc

strs : (s t : List ℕ) (w : Ty-F Ty) (a : Value) → Parts (layer.Str s) w a → Parts (layer.Str t) w a → s ≡ t
strs s t type.File a p q = cc
strs s t w a p q = let e : layer.Str s ≡ layer.Str t = sym p ∙ q in cc

files : (s t : List ℕ) (w : Ty-F Ty) (a : Value) → Parts (layer.File s) w a → Parts (layer.File t) w a → s ≡ t
files s t type.Str a p q = cc
files s t w a p q = let e : layer.File s ≡ layer.File t = sym p ∙ q in cc

module _ (structs : Structs) where
  abbrev Differs : Value → Type 0
  Differs x = (y : Value) (t u : Ty) (a : Value) → takes structs x t ≡ true → takes structs y t ≡ true → cast x u ≡ Ok a → cast y u ≡ Ok a → x ≡ y

  items_differ : (ks : List (Known Differs)) (ys : List Value) (t u : Ty) (bs : List Value) → takes_all structs (firsts Differs ks) t ≡ true → takes_all structs ys t ≡ true
      → EachCast u (firsts Differs ks) bs → EachCast u ys bs → firsts Differs ks ≡ ys
  items_differ [] [] t u bs h i p q = refl
  items_differ [] (y ∷ ys) t u [] h i p q = absurd q
  items_differ [] (y ∷ ys) t u (a ∷ bs) h i p q = absurd p
  items_differ (k ∷ ks) [] t u [] h i p q = absurd p
  items_differ (k ∷ ks) [] t u (a ∷ bs) h i p q = absurd q
  items_differ (k ∷ ks) (y ∷ ys) t u [] h i p q = absurd p
  items_differ (k ∷ ks) (y ∷ ys) t u (a ∷ bs) h i p q =
      let m = and_parts (takes structs k.0 t) (takes_all structs (firsts Differs ks) t) h in
      let n = and_parts (takes structs y t) (takes_all structs ys t) i in
      let e = k.1 y t u a m.0 n.0 p.0 q.0 in
      let f = items_differ ks ys t u bs m.1 n.1 p.1 q.1 in
      ap (λ z. z ∷ firsts Differs ks) e ∙ ap (λ zs. y ∷ zs) f

  rows_differ : (ks : List (MapRow (Known Differs))) (ys : List (MapRow Value)) (t s u w : Ty) (bs : List (MapRow Value)) → takes_rows structs (first_rows Differs ks) t s ≡ true → takes_rows structs ys t s ≡ true
      → RowsCast u w (first_rows Differs ks) bs → RowsCast u w ys bs → first_rows Differs ks ≡ ys
  rows_differ [] [] t s u w bs h i p q = refl
  rows_differ [] (y ∷ ys) t s u w [] h i p q = absurd q
  rows_differ [] (y ∷ ys) t s u w (a ∷ bs) h i p q = absurd p
  rows_differ (k ∷ ks) [] t s u w [] h i p q = absurd p
  rows_differ (k ∷ ks) [] t s u w (a ∷ bs) h i p q = absurd q
  rows_differ (k ∷ ks) (y ∷ ys) t s u w [] h i p q = absurd p
  rows_differ (k ∷ ks) (y ∷ ys) t s u w (a ∷ bs) h i p q =
      let m = and_parts (takes structs k.key.0 t && takes structs k.value.0 s) (takes_rows structs (first_rows Differs ks) t s) h in
      let n = and_parts (takes structs y.key t && takes structs y.value s) (takes_rows structs ys t s) i in
      let mm = and_parts (takes structs k.key.0 t) (takes structs k.value.0 s) m.0 in
      let nn = and_parts (takes structs y.key t) (takes structs y.value s) n.0 in
      let e = k.key.1 y.key t u a.key mm.0 nn.0 p.0 q.0 in
      let f = k.value.1 y.value s w a.value mm.1 nn.1 p.1 q.1 in
      let g = rows_differ ks ys t s u w bs m.1 n.1 p.2 q.2 in
      ap (λ (z : Value). row z k.value.0 ∷ first_rows Differs ks) e ∙ ap (λ (z : Value). row y.key z ∷ first_rows Differs ks) f ∙ ap (λ zs. y ∷ zs) g

  lists : (ks : List (Known Differs)) (ys : List Value) (t : Ty) (w : Ty-F Ty) (a : Value) → takes_all structs (firsts Differs ks) t ≡ true → takes_all structs ys t ≡ true
      → Parts (layer.List (firsts Differs ks)) w a → Parts (layer.List ys) w a → firsts Differs ks ≡ ys
  lists ks ys t (type.Array u some) a h i p q =
      let e : layer.List q.0 ≡ layer.List p.0 = sym q.1 ∙ p.1 in
      let same : q.0 ≡ p.0 = cc in
      items_differ ks ys t u p.0 h i p.2 (subst (EachCast u ys) same q.2)
  lists ks ys t w a h i p q = let e : layer.List (firsts Differs ks) ≡ layer.List ys = sym p ∙ q in cc

  maps : (ks : List (MapRow (Known Differs))) (ys : List (MapRow Value)) (t s : Ty) (w : Ty-F Ty) (a : Value) → takes_rows structs (first_rows Differs ks) t s ≡ true → takes_rows structs ys t s ≡ true
      → Parts (layer.Map (first_rows Differs ks)) w a → Parts (layer.Map ys) w a → first_rows Differs ks ≡ ys
  maps ks ys t s (type.Map u w) a h i p q =
      let e : layer.Map q.0 ≡ layer.Map p.0 = sym q.1 ∙ p.1 in
      let same : q.0 ≡ p.0 = cc in
      rows_differ ks ys t s u w p.0 h i p.2 (subst (RowsCast u w ys) same q.2)
  maps ks ys t s w a h i p q = let e : layer.Map (first_rows Differs ks) ≡ layer.Map ys = sym p ∙ q in cc

  pairs : (k l : Known Differs) (x y : Value) (t s : Ty) (w : Ty-F Ty) (a : Value) → takes structs k.0 t ≡ true → takes structs l.0 s ≡ true → takes structs x t ≡ true → takes structs y s ≡ true
      → Parts (layer.Pair k.0 l.0) w a → Parts (layer.Pair x y) w a → (k.0 ≡ x) × (l.0 ≡ y)
  pairs k l x y t s (type.Pair u w) a h i m n p q =
      let e : layer.Pair q.0 q.1 ≡ layer.Pair p.0 p.1 = sym q.2 ∙ p.2 in
      let b : q.0 ≡ p.0 = cc in
      let c : q.1 ≡ p.1 = cc in
      (k.1 x t u p.0 h m p.3 (q.3 ∙ ap (λ z. Ok z) b), l.1 y s w p.1 i n p.4 (q.4 ∙ ap (λ z. Ok z) c))
  pairs k l x y t s w a h i m n p q = let e : layer.Pair k.0 l.0 ≡ layer.Pair x y = sym p ∙ q in (cc, cc)

  layer_differs : (y : Value-F (Known Differs)) (l : Value-F Value) (z w : Ty-F Ty) (a : Value) → takes_at structs (tests structs (plain Differs y)) z ≡ true → takes_at structs (tests structs l) z ≡ true
      → Parts (plain Differs y) w a → Parts l w a → plain Differs y ≡ l
  layer_differs (layer.Bool b) l type.Bool w a h i p q =
      let c = bool_layer structs l i in
      ap layer.Bool (bools b c.0 w a p (subst (λ m. Parts m w a) c.1 q)) ∙ sym c.1
  layer_differs (layer.Int n) l type.Int w a h i p q =
      let c = int_layer structs l i in
      ap layer.Int (ints n c.0 w a h c.2 p (subst (λ m. Parts m w a) c.1 q)) ∙ sym c.1
  layer_differs (layer.Str s) l type.Str w a h i p q =
      let c = str_layer structs l i in
      ap layer.Str (strs s c.0 w a p (subst (λ m. Parts m w a) c.1 q)) ∙ sym c.1
  layer_differs (layer.File s) l type.File w a h i p q =
      let c = file_layer structs l i in
      ap layer.File (files s c.0 w a p (subst (λ m. Parts m w a) c.1 q)) ∙ sym c.1
  layer_differs (layer.List ks) l (type.Array t some) w a h i p q =
      let c = list_layer structs l t some i in
      ap layer.List (lists ks c.0 t w a (list_items structs (firsts Differs ks) t some h) c.2 p (subst (λ m. Parts m w a) c.1 q)) ∙ sym c.1
  layer_differs (layer.Pair k m) l (type.Pair t s) w a h i p q =
      let c = pair_layer structs l t s i in
      let g = and_parts (takes structs k.0 t) (takes structs m.0 s) h in
      let e = pairs k m c.0 c.1 t s w a g.0 g.1 c.3 c.4 p (subst (λ m. Parts m w a) c.2 q) in
      ap (λ z. layer.Pair z m.0) e.0 ∙ ap (layer.Pair c.0) e.1 ∙ sym c.2
  layer_differs (layer.Map ks) l (type.Map t s) w a h i p q =
      let c = map_layer structs l t s i in
      ap layer.Map (maps ks c.0 t s w a h c.2 p (subst (λ m. Parts m w a) c.1 q)) ∙ sym c.1
  layer_differs (layer.Struct n ks) l (type.Struct m) w a h i p q =
      let c = struct_layer structs l m i in
      sym p ∙ subst (λ m. Parts m w a) c.2 q ∙ sym c.2
  layer_differs layer.Absent l z w a h i p q = sym (absent_back l w a q p)
  layer_differs y l z w a h i p q = absurd (false≢true h)

  -- what is not Absent
  at_bare : (l : Value-F Value) (t : Ty) → is_absent l ≡ false → takes_step structs (tests structs l) t ≡ true → takes_at structs (tests structs l) (out-Ty (bare t)) ≡ true
  at_bare l t n h = sym (takes_plain structs l t (tests_absent structs l n)) ∙ h

  any_differs : (x : Value) (y : Value-F (Known Differs)) → out-Value x ≡ plain Differs y → Differs x
  any_differs x y is z t u a h i e f =
      let p : Parts (plain Differs y) (out-Ty (bare u)) a = subst (λ m. Parts m (out-Ty (bare u)) a) is (cast_parts x u a e) in
      let q = cast_parts z u a f in
      let hx : takes_step structs (tests structs (plain Differs y)) t ≡ true = sym (takes_out structs x t ∙ ap (λ m. takes_step structs (tests structs m) t) is) ∙ h in
      let hz : takes_step structs (tests structs (out-Value z)) t ≡ true = sym (takes_out structs z t) ∙ i in
      sym (roll-out-Value x) ∙ ap roll-Value (is ∙ layers (absent_or (plain Differs y)) (absent_or (out-Value z)) p q hx hz) ∙ roll-out-Value z
    where
      layers : (plain Differs y ≡ layer.Absent) ⊎ (is_absent (plain Differs y) ≡ false) → (out-Value z ≡ layer.Absent) ⊎ (is_absent (out-Value z) ≡ false)
          → Parts (plain Differs y) (out-Ty (bare u)) a → Parts (out-Value z) (out-Ty (bare u)) a
          → takes_step structs (tests structs (plain Differs y)) t ≡ true → takes_step structs (tests structs (out-Value z)) t ≡ true → plain Differs y ≡ out-Value z
      layers (inl m) n p q hx hz = m ∙ sym (absent_back _ _ a q (subst (λ l. Parts l (out-Ty (bare u)) a) m p))
      layers (inr m) (inl n) p q hx hz = absent_back _ _ a p (subst (λ l. Parts l (out-Ty (bare u)) a) n q) ∙ sym n
      layers (inr m) (inr n) p q hx hz = layer_differs y (out-Value z) (out-Ty (bare t)) (out-Ty (bare u)) a (at_bare _ t m hx) (at_bare _ t n hz) p q

  pub casts_differ : (x : Value) → Differs x
  casts_differ = ind-Value Differs (λ l y is. any_differs (roll-Value l) y (out-roll-Value l ∙ sym is))

  -- ---- maps keep distinct keys

  abbrev Keeps : Value → Type 0
  Keeps x = (t u : Ty) (a : Value) → takes structs x t ≡ true → keyed x ≡ true → cast x u ≡ Ok a → keyed a ≡ true

  items_keep : (ks : List (Known Keeps)) (t u : Ty) (bs : List Value) → takes_all structs (firsts Keeps ks) t ≡ true → keyed_all (firsts Keeps ks) ≡ true → EachCast u (firsts Keeps ks) bs → keyed_all bs ≡ true
  items_keep [] t u [] h i p = refl
  items_keep [] t u (a ∷ bs) h i p = absurd p
  items_keep (k ∷ ks) t u [] h i p = absurd p
  items_keep (k ∷ ks) t u (a ∷ bs) h i p =
      let m = and_parts (takes structs k.0 t) (takes_all structs (firsts Keeps ks) t) h in
      let n = and_parts (keyed k.0) (keyed_all (firsts Keeps ks)) i in
      and_from (keyed a) (keyed_all bs) (k.1 t u a m.0 n.0 p.0) (items_keep ks t u bs m.1 n.1 p.1)

  rows_keep : (ks : List (MapRow (Known Keeps))) (t s u w : Ty) (bs : List (MapRow Value)) → takes_rows structs (first_rows Keeps ks) t s ≡ true → keyed_rows (first_rows Keeps ks) ≡ true
      → RowsCast u w (first_rows Keeps ks) bs → keyed_rows bs ≡ true
  rows_keep [] t s u w [] h i p = refl
  rows_keep [] t s u w (a ∷ bs) h i p = absurd p
  rows_keep (k ∷ ks) t s u w [] h i p = absurd p
  rows_keep (k ∷ ks) t s u w (a ∷ bs) h i p =
      let m = and_parts (takes structs k.key.0 t && takes structs k.value.0 s) (takes_rows structs (first_rows Keeps ks) t s) h in
      let mm = and_parts (takes structs k.key.0 t) (takes structs k.value.0 s) m.0 in
      let n = and_parts (keyed k.key.0 && keyed k.value.0) (keyed_rows (first_rows Keeps ks)) i in
      let nn = and_parts (keyed k.key.0) (keyed k.value.0) n.0 in
      and_from (keyed a.key && keyed a.value) (keyed_rows bs) (and_from (keyed a.key) (keyed a.value) (k.key.1 t u a.key mm.0 nn.0 p.0) (k.value.1 s w a.value mm.1 nn.1 p.1)) (rows_keep ks t s u w bs m.1 n.1 p.2)

  -- a key that no row has is cast to one that no row has
  key_kept : (x b : Value) (xs bs : List (MapRow Value)) (t s u w : Ty) → takes structs x t ≡ true → takes_rows structs xs t s ≡ true → cast x u ≡ Ok b → RowsCast u w xs bs
      → has_key x xs ≡ false → has_key b bs ≡ false
  key_kept x b [] [] t s u w h i e p n = refl
  key_kept x b [] (a ∷ bs) t s u w h i e p n = absurd p
  key_kept x b (y ∷ ys) [] t s u w h i e p n = absurd p
  key_kept x b (y ∷ ys) (a ∷ bs) t s u w h i e p n =
      let m = and_parts (takes structs y.key t && takes structs y.value s) (takes_rows structs ys t s) i in
      let mm = and_parts (takes structs y.key t) (takes structs y.value s) m.0 in
      let o = or_parts (same_value x y.key) (has_key x ys) n in
      or_from (same_value b a.key) (has_key b bs)
      (false_from_ne_true (same_value b a.key) (λ g.
      let same : b ≡ a.key = same_value-true b a.key g in
      let xy : x ≡ y.key = casts_differ x y.key t u b h mm.0 e (p.0 ∙ ap (λ z. Ok z) (sym same)) in
      false≢true (sym o.0 ∙ subst (λ z. same_value x z ≡ true) xy (same_value-refl x))))
      (key_kept x b ys bs t s u w h m.1 e p.2 o.1)

  keys_kept : (xs bs : List (MapRow Value)) (t s u w : Ty) → takes_rows structs xs t s ≡ true → RowsCast u w xs bs → distinct_keys xs ≡ true → distinct_keys bs ≡ true
  keys_kept [] [] t s u w i p d = refl
  keys_kept [] (a ∷ bs) t s u w i p d = absurd p
  keys_kept (x ∷ xs) [] t s u w i p d = absurd p
  keys_kept (x ∷ xs) (a ∷ bs) t s u w i p d =
      let m = and_parts (takes structs x.key t && takes structs x.value s) (takes_rows structs xs t s) i in
      let mm = and_parts (takes structs x.key t) (takes structs x.value s) m.0 in
      let n = and_parts (not (has_key x.key xs)) (distinct_keys xs) d in
      and_from (not (has_key a.key bs)) (distinct_keys bs)
      (ap not (key_kept x.key a.key xs bs t s u w mm.0 m.1 p.0 p.2 (not_true (has_key x.key xs) n.0)))
      (keys_kept xs bs t s u w m.1 p.2 n.1)
    where
      not_true : (b : Bool) → not b ≡ true → b ≡ false
      not_true true h = absurd (false≢true h)
      not_true false h = refl

  abbrev keys : Value-F Value → Value-F Bool
  keys = map-Value Value Bool keyed

  keyed_at : (a : Value) (l : Value-F Value) → out-Value a ≡ l → keyed a ≡ keyed_step a (keys l)
  keyed_at a l is = keyed_out a ∙ ap (λ m. keyed_step a (keys m)) is

  stays : (x a : Value) → out-Value a ≡ out-Value x → keyed x ≡ true → keyed a ≡ true
  stays x a e h = subst (λ z. keyed z ≡ true) (sym (sym (roll-out-Value a) ∙ ap roll-Value e ∙ roll-out-Value x)) h

  layer_keeps : (x a : Value) (y : Value-F (Known Keeps)) (z w : Ty-F Ty) → out-Value x ≡ plain Keeps y → takes_at structs (tests structs (plain Keeps y)) z ≡ true → keyed x ≡ true
      → Parts (plain Keeps y) w a → keyed a ≡ true
  layer_keeps x a (layer.Bool b) type.Bool type.Str is h i p = keyed_at a _ p
  layer_keeps x a (layer.Int n) type.Int type.Str is h i p = keyed_at a _ p
  layer_keeps x a (layer.Str s) type.Str type.File is h i p = keyed_at a _ p
  layer_keeps x a (layer.File s) type.File type.Str is h i p = keyed_at a _ p
  layer_keeps x a (layer.List ks) (type.Array t some) (type.Array u also) is h i p =
      keyed_at a _ p.1 ∙ items_keep ks t u p.0 (list_items structs (firsts Keeps ks) t some h) (sym (keyed_at x _ is) ∙ i) p.2
  layer_keeps x a (layer.Pair k l) (type.Pair t s) (type.Pair u w) is h i p =
      let m = and_parts (takes structs k.0 t) (takes structs l.0 s) h in
      let n = and_parts (keyed k.0) (keyed l.0) (sym (keyed_at x _ is) ∙ i) in
      keyed_at a _ p.2 ∙ and_from (keyed p.0) (keyed p.1) (k.1 t u p.0 m.0 n.0 p.3) (l.1 s w p.1 m.1 n.1 p.4)
  layer_keeps x a (layer.Map ks) (type.Map t s) (type.Map u w) is h i p =
      let xs = first_rows Keeps ks in
      let n = and_parts (distinct_keys (rows_of (out-Value x))) (keyed_rows xs) (sym (keyed_at x _ is) ∙ i) in
      let d : distinct_keys xs ≡ true = sym (ap (λ m. distinct_keys (rows_of m)) is) ∙ n.0 in
      keyed_at a _ p.1
      ∙ and_from (distinct_keys (rows_of (out-Value a))) (keyed_rows p.0) (ap (λ m. distinct_keys (rows_of m)) p.1 ∙ keys_kept xs p.0 t s u w h p.2 d) (rows_keep ks t s u w p.0 h n.1 p.2)
  layer_keeps x a (layer.Bool b) type.Bool w is h i p = stays x a (p ∙ sym is) i
  layer_keeps x a (layer.Int n) type.Int w is h i p = stays x a (p ∙ sym is) i
  layer_keeps x a (layer.Str s) type.Str w is h i p = stays x a (p ∙ sym is) i
  layer_keeps x a (layer.File s) type.File w is h i p = stays x a (p ∙ sym is) i
  layer_keeps x a (layer.List ks) (type.Array t some) w is h i p = stays x a (p ∙ sym is) i
  layer_keeps x a (layer.Pair k l) (type.Pair t s) w is h i p = stays x a (p ∙ sym is) i
  layer_keeps x a (layer.Map ks) (type.Map t s) w is h i p = stays x a (p ∙ sym is) i
  layer_keeps x a (layer.Struct n ks) z w is h i p = stays x a (p ∙ sym is) i
  layer_keeps x a layer.Absent z w is h i p = stays x a (p ∙ sym is) i
  layer_keeps x a y z w is h i p = absurd (false≢true h)

  any_keeps : (x : Value) (y : Value-F (Known Keeps)) → out-Value x ≡ plain Keeps y → Keeps x
  any_keeps x y is t u a h i e =
      let p : Parts (plain Keeps y) (out-Ty (bare u)) a = subst (λ m. Parts m (out-Ty (bare u)) a) is (cast_parts x u a e) in
      let hx : takes_step structs (tests structs (plain Keeps y)) t ≡ true = sym (takes_out structs x t ∙ ap (λ m. takes_step structs (tests structs m) t) is) ∙ h in
      by_absence (absent_or (plain Keeps y)) p hx
    where
      by_absence : (plain Keeps y ≡ layer.Absent) ⊎ (is_absent (plain Keeps y) ≡ false) → Parts (plain Keeps y) (out-Ty (bare u)) a → takes_step structs (tests structs (plain Keeps y)) t ≡ true → keyed a ≡ true
      by_absence (inl m) p hx = stays x a (subst (λ l. Parts l (out-Ty (bare u)) a) m p ∙ sym (is ∙ m)) i
      by_absence (inr m) p hx = layer_keeps x a y (out-Ty (bare t)) (out-Ty (bare u)) is (at_bare _ t m hx) i p

  pub casts_keep_keys : (x : Value) → Keeps x
  casts_keep_keys = ind-Value Keeps (λ l y is. any_keeps (roll-Value l) y (out-roll-Value l ∙ sym is))
