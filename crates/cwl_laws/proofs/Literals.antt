-- Literals of the subset: they name nothing, and have the value that is written.
use Rattle.std.proofs.Common.{arith, ◌≡◌, ◌≤◌, ◌<◌, ℕ, zero, suc, ◌+◌, ◌^◌, nat_le, ℤ, pos, negsuc, Bool, true, false, cond, ◌&&◌, List, [], ◌∷◌, ◌++◌, length, map, Option, Some, None, option_and_then, Ok, Err, sym, ap, ◌∙◌, subst, refl}
use Rattle.std.specs.List.{list_all}
use Rattle.std.specs.Prelude.{neg_ℤ}
use Rattle.std.proofs.lemmas.Bool.{false≢true, and_from, and_parts, le-leb, leb-true, lt-ltb, ltb-true}
use Rattle.std.proofs.lemmas.Option.{none-some, same_Some}
use Rattle.wdl_base.specs.declared.fault.EvalCode.TheVariants.{Overflow, TooLarge}
use Rattle.wdl_base.specs.declared.name.Key.{Key}
use Rattle.wdl_value.specs.declared.ty.Ty.{Ty, Ty-F, fold-roll-Ty, out-Ty, roll-Ty, roll-out-Ty}
use Rattle.wdl_value.specs.declared.ty.Ty.TheOpen as type
use Rattle.wdl_value.specs.declared.ty.Ty.TheVariants as ty
use Rattle.wdl_value.specs.declared.value.Value.{Value, Value-F, fold-roll-Value, out-Value, roll-Value, roll-out-Value}
use Rattle.wdl_value.specs.declared.value.Value.TheOpen as value
use Rattle.wdl_value.specs.declared.value.Value.TheVariants as v
use Rattle.wdl_value.specs.Cast.{cast}
use Rattle.wdl_value.specs.Coerces.{coerces}
use Rattle.wdl_value.specs.Fits.{Structs, fits, is_int as in_range}
use Rattle.wdl_value.specs.Kinds.{int_at, is_int}
use Rattle.wdl_value.specs.Limits.{all_short, is_short, is_within, limited, short_step}
use Rattle.wdl_value.specs.Operate.{int_of}
use Rattle.wdl_value.specs.Parts.{int_at as int_part, int_in}
use Rattle.wdl_value.specs.SameType.{same_type}
use Rattle.wdl_value.specs.Size.{size, size_step, sum_of}
use Rattle.wdl_value.proofs.FitsForms.{all_fit, an_int, bool_fits, int_fits, some_fit, str_fits}
use Rattle.wdl_value.proofs.SameTypeLemmas.{same_type-refl, same_type-true}
use Rattle.wdl_typed.specs.declared.expr.TExpr.{TExpr, TExpr-F, fold-TExpr, fold-roll-TExpr, ind-TExpr, map-TExpr, para-roll-TExpr, roll-TExpr}
use Rattle.wdl_typed.specs.declared.expr.TExpr.TheOpen as layer
use Rattle.wdl_typed.specs.Declarations.{Placed, or_type, placed_step, plain_of, type_in_place}
use Rattle.wdl_typed.specs.Evaluation.{Met, Setting, all_of, from_cast, met, neg_at, then_, value_met, value_step}
use Rattle.wdl_typed.specs.KnownTypes.{is_some}
use Rattle.wdl_typed.specs.Scope.{all_names, names_of, names_step}
use Rattle.wdl_typed.specs.Typing.{Context, Typing, all_same, all_types, items_in, list_type, literal_at, type_of as type_by, type_step, when}
use Rattle.cwl_image.specs.declared.literal.Literal.{Literal}
use Rattle.cwl_image.specs.Expressions.{Placing, casts_step, casts_widen, is_simple, is_written_at, items_hold, literal_of, literal_step as kind_step, minus, number_at, simple_step, some_widens}
use Rattle.cwl_image.specs.Image.{literal, literal_step, negated}
use Rattle.cwl_laws.proofs.Casts.{casts_keep, simple_from}
use Rattle.cwl_laws.proofs.References.{cast_met}

-- ---- limits

size_list_is : (xs : List Value) → size (v.List xs) ≡ 1 + sum_of (map size xs)
size_list_is xs = ap size (sym (v.rolls-List xs)) ∙ fold-roll-Value ℕ size_step (value.List xs)

short_list_is : (xs : List Value) → is_short (v.List xs) ≡ (nat_le (length (map is_short xs)) 100000 && all_short (map is_short xs))
short_list_is xs = ap is_short (sym (v.rolls-List xs)) ∙ fold-roll-Value Bool short_step (value.List xs)

-- The items of a list within the limits are within them.
pub items_within : (xs : List Value) → is_within (v.List xs) ≡ true → list_all is_within xs ≡ true
items_within xs h =
    let p = and_parts (nat_le (size (v.List xs)) 4194304) (is_short (v.List xs)) h in
    each xs (leb-true (1 + sum_of (map size xs)) 4194304 (ap (λ n. nat_le n 4194304) (sym (size_list_is xs)) ∙ p.0)) (and_parts (nat_le (length (map is_short xs)) 100000) (all_short (map is_short xs)) (sym (short_list_is xs) ∙ p.1)).1
  where
    first_small : (a b n : ℕ) → 1 + (a + b) ≤ n → a ≤ n
    first_small a b n h = omega arith

    rest_small : (a b n : ℕ) → 1 + (a + b) ≤ n → 1 + b ≤ n
    rest_small a b n h = omega arith

    each : (ys : List Value) → 1 + sum_of (map size ys) ≤ 4194304 → all_short (map is_short ys) ≡ true → list_all is_within ys ≡ true
    each [] h s = refl
    each (y ∷ ys) h s =
        let p = and_parts (is_short y) (all_short (map is_short ys)) s in
        and_from (is_within y) (list_all is_within ys)
        (and_from (nat_le (size y) 4194304) (is_short y) (le-leb (size y) 4194304 (first_small (size y) (sum_of (map size ys)) 4194304 h)) p.0)
        (each ys (rest_small (size y) (sum_of (map size ys)) 4194304 h) p.1)

int_size : (n : ℤ) → size (v.Int n) ≡ 1
int_size n = ap size (sym (v.rolls-Int n)) ∙ fold-roll-Value ℕ size_step (value.Int n)

int_short : (n : ℤ) → is_short (v.Int n) ≡ true
int_short n = ap is_short (sym (v.rolls-Int n)) ∙ fold-roll-Value Bool short_step (value.Int n)

pub int_within : (n : ℤ) → is_within (v.Int n) ≡ true
int_within n = and_from (nat_le (size (v.Int n)) 4194304) (is_short (v.Int n)) (ap (λ m. nat_le m 4194304) (int_size n)) (int_short n)

pub is_int_value : (x : Value) (n : ℤ) → out-Value x ≡ value.Int n → x ≡ v.Int n
is_int_value x n e = sym (roll-out-Value x) ∙ ap roll-Value e ∙ v.rolls-Int n

-- ---- numbers

abbrev Numbers : TExpr → Type 0
Numbers x = (n : ℤ) → (literal_of x).number ≡ Some n → (literal x ≡ v.Int n) × ((literal_of x).is_literal ≡ true)

abbrev KnownNumbers : Type 0
KnownNumbers = (x : TExpr) × Numbers x

abbrev number_plain : TExpr-F KnownNumbers → TExpr-F TExpr
number_plain = map-TExpr KnownNumbers TExpr (λ (k : KnownNumbers). k.0)

minus_is : (o : Option ℤ) (n : ℤ) → minus o ≡ Some n → (m : ℕ) × (o ≡ Some (pos m)) × (negated (pos m) ≡ n)
minus_is None n h = absurd (none-some _ h)
minus_is (Some (pos m)) n h = (m, refl, same_Some _ _ h)
minus_is (Some (negsuc m)) n h = absurd (none-some _ h)

layer_number : (y : TExpr-F KnownNumbers) (n : ℤ) → (kind_step (map-TExpr TExpr Literal literal_of (number_plain y))).number ≡ Some n
    → (literal_step (map-TExpr TExpr Value literal (number_plain y)) ≡ v.Int n) × ((kind_step (map-TExpr TExpr Literal literal_of (number_plain y))).is_literal ≡ true)
layer_number (layer.Lit x) n h = by_layer (out-Value x) refl h
  where
    by_layer : (y : Value-F Value) → out-Value x ≡ y → number_at y ≡ Some n → (x ≡ v.Int n) × (is_written_at y ≡ true)
    by_layer (value.Int m) e h = (is_int_value x m e ∙ ap v.Int (same_Some _ _ h), refl)
    by_layer y e h = absurd (none-some _ h)
layer_number (layer.Neg k) n h =
    let r = minus_is (literal_of k.0).number n h in
    let x = (k.1 (pos r.0) r.1).0 in (
      ap (λ y. v.Int (negated (int_in y))) x ∙ ap (λ (z : Value-F Value). v.Int (negated (int_part z))) (v.outs-Int (pos r.0)) ∙ ap v.Int r.2,
      ap (λ o. is_some o) h,
    )
layer_number (layer.Cast k t) n h = k.1 n h
layer_number y n h = absurd (none-some _ h)

-- A literal that has a number is that number.
pub number_is : (x : TExpr) (n : ℤ) → (literal_of x).number ≡ Some n → (literal x ≡ v.Int n) × ((literal_of x).is_literal ≡ true)
number_is = ind-TExpr Numbers (λ a y is. subst (λ (z : TExpr-F TExpr). Numbers (roll-TExpr z)) is (λ n h.
    let kind = fold-roll-TExpr Literal kind_step (number_plain y) in
    let r = layer_number y n (sym (ap (λ (l : Literal). l.number) kind) ∙ h) in
    (fold-roll-TExpr Value literal_step (number_plain y) ∙ r.0, ap (λ (l : Literal). l.is_literal) kind ∙ r.1)))

-- ---- helpers on outcomes

abbrev if_all : Bool → List Value → Met (List Value)
if_all true xs = Ok xs
if_all false xs = Err (Some TooLarge)

joined : (a b : Bool) (x : Value) (xs : List Value) → then_ (met (cond a (Ok x) (Err TooLarge))) (λ y. then_ (if_all b xs) (λ ys. Ok (y ∷ ys))) ≡ if_all (a && b) (x ∷ xs)
joined true true x xs = refl
joined true false x xs = refl
joined false b x xs = refl

negative_is : (n : ℕ) → neg_ℤ (pos n) ≡ negated (pos n)
negative_is zero = refl
negative_is (suc n) = refl

int_range : (n : ℤ) → (m : ℤ) × (v.Int n ≡ v.Int m) × (in_range m ≡ true) → in_range n ≡ true
int_range n r = ap in_range (same n r.0 r.1) ∙ r.2
  where
    same : (n m : ℤ) → v.Int n ≡ v.Int m → n ≡ m
    same n m e = ap int_part (sym (v.outs-Int n) ∙ ap out-Value e ∙ v.outs-Int m)

negated_range : (n : ℕ) → in_range (pos n) ≡ true → in_range (negated (pos n)) ≡ true
unfolding in_range
negated_range zero h = h
negated_range (suc n) h = lt-ltb n (2 ^ 63) (less n (2 ^ 63) (ltb-true (suc n) (2 ^ 63) h))
  where
    less : (m b : ℕ) → suc m < b → m < b
    less m b h = omega arith

-- ---- literals

-- what is known of a literal of a type
pub record IsLit (structs : Structs) (x : TExpr) (t : Ty) : Type 0 where
  pub names : names_of x ≡ []
  pub met : (s : Setting) → value_met s x ≡ met (limited (literal x))
  pub ok : fits structs (literal x) t ≡ true

module _ (structs : Structs) where
  abbrev Lits : TExpr → Type 0
  Lits x = (literal_of x).is_literal ≡ true → (c : Context) (p : Bool)
      → (((fold-TExpr Placed (placed_step c) x).plain p ≡ type_by c x p) × ((fold-TExpr Placed (placed_step c) x).write p ≡ None))
      × ((t : Ty) → casts_widen c x p ≡ true → type_by c x p ≡ Some t → is_simple t ≡ true → IsLit structs x t)

  abbrev KnownLits : Type 0
  KnownLits = (x : TExpr) × Lits x

  abbrev plain : TExpr-F KnownLits → TExpr-F TExpr
  plain = map-TExpr KnownLits TExpr (λ (k : KnownLits). k.0)

  abbrev firsts : List KnownLits → List TExpr
  firsts = map (λ (k : KnownLits). k.0)

  -- what is known of the layer
  pub record LayerLit (y : TExpr-F TExpr) (t : Ty) : Type 0 where
    pub names : names_step (map-TExpr TExpr (List Key) names_of y) ≡ []
    pub met : (s : Setting) → value_step s (map-TExpr TExpr (Met Value) (value_met s) y) ≡ met (limited (literal_step (map-TExpr TExpr Value literal y)))
    pub ok : fits structs (literal_step (map-TExpr TExpr Value literal y)) t ≡ true

  -- ---- items

  pub record AreLits (ks : List KnownLits) (t : Ty) : Type 0 where
    pub names : all_names (map names_of (firsts ks)) ≡ []
    pub met : (s : Setting) → all_of (map (value_met s) (firsts ks)) ≡ if_all (list_all is_within (map literal (firsts ks))) (map literal (firsts ks))
    pub ok : all_fit structs (map literal (firsts ks)) t ≡ true

  module _ (c : Context) (p : Bool) where
    abbrev pairs : List TExpr → List (TExpr × Placing)
    pairs = map (λ (x : TExpr). (x, casts_widen c x))

    items_lit : (ks : List KnownLits) (t : Ty) (ts : List Ty) → list_all (λ (l : Literal). l.is_literal) (map literal_of (firsts ks)) ≡ true → items_hold (pairs (firsts ks)) p ≡ true
        → all_types (items_in (map (type_by c) (firsts ks)) p) ≡ Some ts → all_same t ts ≡ true → is_simple t ≡ true → AreLits ks t
    items_lit [] t ts l h q a s = record { names = refl; met = λ z. refl; ok = refl }
    items_lit (k ∷ ks) t ts l h q a s =
        let m = and_parts (literal_of k.0).is_literal (list_all (λ (l : Literal). l.is_literal) (map literal_of (firsts ks))) l in
        let n = and_parts (casts_widen c k.0 p) (items_hold (pairs (firsts ks)) p) h in
        by_type (type_by c k.0 p) (all_types (items_in (map (type_by c) (firsts ks)) p)) refl q a ((k.1 m.0 c p).1) n.0 (λ us b d. items_lit ks t us m.1 n.1 b d s)
      where
        by_type : (o : Option Ty) (w : Option (List Ty)) → type_by c k.0 p ≡ o → option_and_then (λ u. option_and_then (λ us. Some (u ∷ us)) w) o ≡ Some ts → all_same t ts ≡ true
            → ((u : Ty) → casts_widen c k.0 p ≡ true → type_by c k.0 p ≡ Some u → is_simple u ≡ true → IsLit structs k.0 u) → casts_widen c k.0 p ≡ true
            → ((us : List Ty) → w ≡ Some us → all_same t us ≡ true → AreLits ks t) → AreLits (k ∷ ks) t
        by_type None w e q a own h rest = absurd (none-some _ q)
        by_type (Some u) None e q a own h rest = absurd (none-some _ q)
        by_type (Some u) (Some us) e q a own h rest =
            let d = and_parts (same_type u t) (all_same t us) (subst (λ zs. all_same t zs ≡ true) (sym (same_Some _ _ q)) a) in
            let same : u ≡ t = same_type-true u t d.0 in
            let here = own u h e (ap is_simple same ∙ s) in
            let there = rest us refl d.1 in
            record {
              names = ap (λ ns. ns ++ all_names (map names_of (firsts ks))) here.names ∙ there.names;
              met = λ z.
                  ap (λ r. then_ r (λ x. then_ (all_of (map (value_met z) (firsts ks))) (λ xs. Ok (x ∷ xs)))) (here.met z)
                  ∙ ap (λ r. then_ (met (limited (literal k.0))) (λ x. then_ r (λ xs. Ok (x ∷ xs)))) (there.met z)
                  ∙ joined (is_within (literal k.0)) (list_all is_within (map literal (firsts ks))) (literal k.0) (map literal (firsts ks));
              ok = and_from (fits structs (literal k.0) t) (all_fit structs (map literal (firsts ks)) t) (subst (λ z. fits structs (literal k.0) z ≡ true) same here.ok) there.ok;
            }

  -- ---- layers

  list_met : (b : Bool) (xs : List Value) → list_all is_within xs ≡ b → then_ (then_ (if_all b xs) (λ ys. Ok (v.List ys))) (λ x. met (limited x)) ≡ met (limited (v.List xs))
  list_met true xs e = refl
  list_met false xs e = by_limit (is_within (v.List xs)) refl
    where
      coded_list : Met Value
      coded_list = Err (Some TooLarge)

      by_limit : (w : Bool) → is_within (v.List xs) ≡ w → coded_list ≡ met (cond w (Ok (v.List xs)) (Err TooLarge))
      by_limit true w = absurd (false≢true (sym e ∙ items_within xs w))
      by_limit false w = refl

  layer_lit : (y : TExpr-F KnownLits) → (kind_step (map-TExpr TExpr Literal literal_of (plain y))).is_literal ≡ true → (c : Context) (p : Bool) (t : Ty)
      → casts_step c (map-TExpr TExpr (TExpr × Placing) (λ x. (x, casts_widen c x)) (plain y)) p ≡ true → type_step c (map-TExpr TExpr Typing (type_by c) (plain y)) p ≡ Some t → is_simple t ≡ true → LayerLit (plain y) t
  layer_lit (layer.Lit x) l c p t h q s = record { names = refl; met = λ z. refl; ok = by_layer (out-Value x) refl l q }
    where
      by_layer : (y : Value-F Value) → out-Value x ≡ y → is_written_at y ≡ true → literal_at y ≡ Some t → fits structs x t ≡ true
      by_layer (value.Bool b) e l q = ap (fits structs x) (sym (same_Some _ _ q)) ∙ ap (λ z. fits structs z ty.Bool) (sym (roll-out-Value x) ∙ ap roll-Value e ∙ v.rolls-Bool b) ∙ bool_fits structs b
      by_layer (value.Str w) e l q = ap (fits structs x) (sym (same_Some _ _ q)) ∙ ap (λ z. fits structs z ty.Str) (sym (roll-out-Value x) ∙ ap roll-Value e ∙ v.rolls-Str w) ∙ str_fits structs w
      by_layer (value.Int n) e l q = by_range (in_range n) refl q
        where
          by_range : (b : Bool) → in_range n ≡ b → when b ty.Int ≡ Some t → fits structs x t ≡ true
          by_range true r q = ap (fits structs x) (sym (same_Some _ _ q)) ∙ ap (λ z. fits structs z ty.Int) (is_int_value x n e) ∙ int_fits structs n r
          by_range false r q = absurd (none-some _ q)
      by_layer y e l q = absurd (false≢true l)
  layer_lit (layer.Neg k) l c p t h q s =
      let o = some_number (minus (literal_of k.0).number) l in
      let r = minus_is (literal_of k.0).number o.0 o.1 in
      let num = number_is k.0 (pos r.0) r.1 in
      by_type (type_by c k.0 p) refl q r.0 num.0 ((k.1 num.1 c p).1)
    where
      some_number : (o : Option ℤ) → is_some o ≡ true → (n : ℤ) × (o ≡ Some n)
      some_number None h = absurd (false≢true h)
      some_number (Some n) h = (n, refl)

      int_type : (u : Ty) → is_int u ≡ true → u ≡ ty.Int
      int_type u i = by_layer (out-Ty u) refl i
        where
          by_layer : (z : Ty-F Ty) → out-Ty u ≡ z → int_at z ≡ true → u ≡ ty.Int
          by_layer type.Int e i = sym (roll-out-Ty u) ∙ ap roll-Ty e ∙ ty.rolls-Int
          by_layer z e i = absurd (false≢true i)

      by_type : (o : Option Ty) → type_by c k.0 p ≡ o → option_and_then (λ u. when (is_int u) ty.Int) o ≡ Some t → (n : ℕ) → literal k.0 ≡ v.Int (pos n)
          → ((u : Ty) → casts_widen c k.0 p ≡ true → type_by c k.0 p ≡ Some u → is_simple u ≡ true → IsLit structs k.0 u) → LayerLit (layer.Neg k.0) t
      by_type None e q n x own = absurd (none-some _ q)
      by_type (Some u) e q n x own = by_int (is_int u) refl q
        where
          by_int : (b : Bool) → is_int u ≡ b → when b ty.Int ≡ Some t → LayerLit (layer.Neg k.0) t
          by_int false i q = absurd (none-some _ q)
          by_int true i q =
              let int : u ≡ ty.Int = int_type u i in
              let here = own u h e (ap is_simple int ∙ ap is_simple (sym ty.rolls-Int) ∙ fold-roll-Ty Bool simple_step type.Int) in
              let ok : fits structs (v.Int (pos n)) ty.Int ≡ true = ap (λ z. fits structs z ty.Int) (sym x) ∙ ap (fits structs (literal k.0)) (sym int) ∙ here.ok in
              let range = negated_range n (int_range (pos n) (an_int structs (v.Int (pos n)) ok)) in
              record {
                names = here.names;
                met = λ z.
                    ap (λ m. then_ (then_ m (λ y. neg_at y (out-Value y))) (λ y. met (limited y))) (here.met z ∙ ap (λ y. met (limited y)) x ∙ ap (λ b. met (cond b (Ok (v.Int (pos n))) (Err TooLarge))) (int_within (pos n)))
                    ∙ ap (λ (y : Value-F Value). then_ (neg_at (v.Int (pos n)) y) (λ y. met (limited y))) (v.outs-Int (pos n))
                    ∙ ap (λ (y : Value-F Value). then_ (met (int_of (neg_ℤ (int_part y)))) (λ y. met (limited y))) (v.outs-Int (pos n))
                    ∙ ap (λ m. then_ (met (int_of m)) (λ y. met (limited y))) (negative_is n)
                    ∙ ap (λ b. then_ (met (cond b (Ok (v.Int (negated (pos n)))) (Err Overflow))) (λ y. met (limited y))) range
                    ∙ ap (λ y. met (limited y)) (sym (written x));
                ok = ap (λ y. fits structs y t) (written x) ∙ ap (fits structs (v.Int (negated (pos n)))) (sym (same_Some _ _ q)) ∙ int_fits structs (negated (pos n)) range;
              }
            where
              written : literal k.0 ≡ v.Int (pos n) → v.Int (negated (int_in (literal k.0))) ≡ v.Int (negated (pos n))
              written x = ap (λ y. v.Int (negated (int_in y))) x ∙ ap (λ (y : Value-F Value). v.Int (negated (int_part y))) (v.outs-Int (pos n))
  layer_lit (layer.ListOf ks) l c p t h q s = by_types ks l h (all_types (items_in (map (type_by c) (firsts ks)) p)) refl q
    where
      by_types : (ks : List KnownLits) → list_all (λ (l : Literal). l.is_literal) (map literal_of (firsts ks)) ≡ true → items_hold (pairs c p (firsts ks)) p ≡ true → (o : Option (List Ty))
          → all_types (items_in (map (type_by c) (firsts ks)) p) ≡ o → option_and_then list_type o ≡ Some t → LayerLit (layer.ListOf (firsts ks)) t
      by_types ks l h None e q = absurd (none-some _ q)
      by_types ks l h (Some []) e q = absurd (false≢true (sym (not_simple t (same_Some _ _ q)) ∙ s))
        where
          not_simple : (t : Ty) → ty.Array ty.Empty false ≡ t → is_simple t ≡ false
          not_simple t e =
              ap is_simple (sym e) ∙ ap is_simple (sym (ty.rolls-Array ty.Empty false)) ∙ fold-roll-Ty Bool simple_step (type.Array ty.Empty false)
              ∙ ap is_simple (sym ty.rolls-Empty) ∙ fold-roll-Ty Bool simple_step type.Empty
      by_types [] l h (Some (u ∷ us)) e q = cc
      by_types (k ∷ ks) l h (Some (u ∷ us)) e q = by_same (all_same u us) refl q
        where
          by_same : (b : Bool) → all_same u us ≡ b → when b (ty.Array u true) ≡ Some t → LayerLit (layer.ListOf (firsts (k ∷ ks))) t
          by_same false w q = absurd (none-some _ q)
          by_same true w q =
              let array : is_simple u ≡ true = sym (ap is_simple (sym (ty.rolls-Array u true)) ∙ fold-roll-Ty Bool simple_step (type.Array u true)) ∙ ap is_simple (same_Some _ _ q) ∙ s in
              let r = items_lit c p (k ∷ ks) u (u ∷ us) l h e (and_from (same_type u u) (all_same u us) (same_type-refl u) w) array in
              record {
                names = r.names;
                met = λ z.
                    ap (λ m. then_ (then_ m (λ xs. Ok (v.List xs))) (λ x. met (limited x))) (r.met z)
                    ∙ list_met (list_all is_within (map literal (firsts (k ∷ ks)))) (map literal (firsts (k ∷ ks))) refl;
                ok = ap (fits structs (v.List (map literal (firsts (k ∷ ks))))) (sym (same_Some _ _ q)) ∙ some_fit structs (literal k.0) (map literal (firsts ks)) u true r.ok;
              }
  layer_lit (layer.Cast k u) l c p t h q s =
      let r = k.1 l c p in
      let place : type_in_place c k.0 p ≡ type_by c k.0 p =
      ap (λ o. or_type o ((fold-TExpr Placed (placed_step c) k.0).write p)) r.0.0 ∙ ap (or_type (type_by c k.0 p)) r.0.1 ∙ or_none (type_by c k.0 p) in
      let w = and_parts (some_widens (type_in_place c k.0 p) u) (casts_widen c k.0 p) h in
      by_type (type_by c k.0 p) refl q (sym (ap (λ o. some_widens o u) place) ∙ w.0) w.1 r.1
    where
      or_none : (o : Option Ty) → or_type o None ≡ o
      or_none None = refl
      or_none (Some t) = refl

      by_type : (o : Option Ty) → type_by c k.0 p ≡ o → option_and_then (λ w. when (coerces w u) u) o ≡ Some t → some_widens o u ≡ true → casts_widen c k.0 p ≡ true
          → ((w : Ty) → casts_widen c k.0 p ≡ true → type_by c k.0 p ≡ Some w → is_simple w ≡ true → IsLit structs k.0 w) → LayerLit (layer.Cast k.0 u) t
      by_type None e q w a own = absurd (none-some _ q)
      by_type (Some d) e q w a own =
          let same : u ≡ t = made (coerces d u) q in
          let from : is_simple d ≡ true = simple_from d u (ap is_simple same ∙ s) w in
          let here = own d a e from in
          let kept = casts_keep structs d from u (literal k.0) w here.ok in
          record {
            names = here.names;
            met = λ z.
                ap (λ m. then_ (then_ m (λ y. from_cast (cast y u))) (λ y. met (limited y))) (here.met z)
                ∙ cast_met (literal k.0) u kept.0;
            ok = subst (λ z. fits structs (literal k.0) z ≡ true) same kept.1;
          }
        where
          made : (b : Bool) → when b u ≡ Some t → u ≡ t
          made true h = same_Some _ _ h
          made false h = absurd (none-some _ h)
  layer_lit y l c p t h q s = absurd (false≢true l)

  -- ---- where files are written

  abbrev Places : Context → Bool → TExpr-F TExpr → Type 0
  Places c p y =
      ((placed_step c (map-TExpr TExpr Placed (fold-TExpr Placed (placed_step c)) y)).plain p ≡ type_step c (map-TExpr TExpr Typing (type_by c) y) p)
      × ((placed_step c (map-TExpr TExpr Placed (fold-TExpr Placed (placed_step c)) y)).write p ≡ None)

  items_placed : (c : Context) (p : Bool) (ks : List KnownLits) → list_all (λ (l : Literal). l.is_literal) (map literal_of (firsts ks)) ≡ true
      → items_in (map plain_of (map (fold-TExpr Placed (placed_step c)) (firsts ks))) p ≡ items_in (map (type_by c) (firsts ks)) p
  items_placed c p [] l = refl
  items_placed c p (k ∷ ks) l =
      let m = and_parts (literal_of k.0).is_literal (list_all (λ (l : Literal). l.is_literal) (map literal_of (firsts ks))) l in
      ap (λ o. o ∷ items_in (map plain_of (map (fold-TExpr Placed (placed_step c)) (firsts ks))) p) (k.1 m.0 c p).0.0
      ∙ ap (λ os. type_by c k.0 p ∷ os) (items_placed c p ks m.1)

  layer_place : (y : TExpr-F KnownLits) → (kind_step (map-TExpr TExpr Literal literal_of (plain y))).is_literal ≡ true → (c : Context) (p : Bool) → Places c p (plain y)
  layer_place (layer.Lit x) l c p = (refl, refl)
  layer_place (layer.Neg k) l c p =
      let o = some_number (minus (literal_of k.0).number) l in
      let num = number_is k.0 (pos (minus_is (literal_of k.0).number o.0 o.1).0) (minus_is (literal_of k.0).number o.0 o.1).1 in
      (ap (λ o. option_and_then (λ u. when (is_int u) ty.Int) o) (k.1 num.1 c p).0.0, refl)
    where
      some_number : (o : Option ℤ) → is_some o ≡ true → (n : ℤ) × (o ≡ Some n)
      some_number None h = absurd (false≢true h)
      some_number (Some n) h = (n, refl)
  layer_place (layer.ListOf ks) l c p = (ap (λ os. option_and_then list_type (all_types os)) (items_placed c p ks l), refl)
  layer_place (layer.Cast k u) l c p =
      let r = (k.1 l c p).0 in
      (ap (λ o. option_and_then (λ w. when (coerces w u) u) o) r.0, ap (λ o. option_and_then (λ w. when (coerces w u) u) o) r.1)
  layer_place y l c p = absurd (false≢true l)

  -- A literal names nothing, has the value that is written, and fits its type.
  pub literals : (x : TExpr) → Lits x
  unfolding casts_widen
  literals = ind-TExpr Lits (λ a y is. subst (λ (z : TExpr-F TExpr). Lits (roll-TExpr z)) is (λ l c p.
      let kind = fold-roll-TExpr Literal kind_step (plain y) in
      let k = sym (ap (λ (i : Literal). i.is_literal) kind) ∙ l in
      let place = layer_place y k c p in
      let type = ap (λ (f : Typing). f p) (fold-roll-TExpr Typing (type_step c) (plain y)) in
      let placed = fold-roll-TExpr Placed (placed_step c) (plain y) in (
        (ap (λ (q : Placed). q.plain p) placed ∙ place.0 ∙ sym type, ap (λ (q : Placed). q.write p) placed ∙ place.1),
        (λ t h q s.
            let r = layer_lit y k c p t (sym (ap (λ (f : Placing). f p) (para-roll-TExpr Placing (casts_step c) (plain y))) ∙ h) (sym type ∙ q) s in
            let value = fold-roll-TExpr Value literal_step (plain y) in
            record {
              names = fold-roll-TExpr (List Key) names_step (plain y) ∙ r.names;
              met = λ z. fold-roll-TExpr (Met Value) (value_step z) (plain y) ∙ r.met z ∙ ap (λ x. met (limited x)) (sym value);
              ok = ap (λ x. fits structs x t) value ∙ r.ok;
            }),
      )))

-- ---- in any context

abbrev SameTypes : TExpr → Type 0
SameTypes x = (literal_of x).is_literal ≡ true → (c d : Context) (p q : Bool) → type_by c x p ≡ type_by d x q

abbrev KnownTypes : Type 0
KnownTypes = (x : TExpr) × SameTypes x

abbrev type_plain : TExpr-F KnownTypes → TExpr-F TExpr
type_plain = map-TExpr KnownTypes TExpr (λ (k : KnownTypes). k.0)

abbrev type_firsts : List KnownTypes → List TExpr
type_firsts = map (λ (k : KnownTypes). k.0)

items_same : (ks : List KnownTypes) → list_all (λ (l : Literal). l.is_literal) (map literal_of (type_firsts ks)) ≡ true → (c d : Context) (p q : Bool)
    → items_in (map (type_by c) (type_firsts ks)) p ≡ items_in (map (type_by d) (type_firsts ks)) q
items_same [] l c d p q = refl
items_same (k ∷ ks) l c d p q =
    let m = and_parts (literal_of k.0).is_literal (list_all (λ (l : Literal). l.is_literal) (map literal_of (type_firsts ks))) l in
    ap (λ o. o ∷ items_in (map (type_by c) (type_firsts ks)) p) (k.1 m.0 c d p q) ∙ ap (λ os. type_by d k.0 q ∷ os) (items_same ks m.1 c d p q)

layer_same : (y : TExpr-F KnownTypes) → (kind_step (map-TExpr TExpr Literal literal_of (type_plain y))).is_literal ≡ true → (c d : Context) (p q : Bool)
    → type_step c (map-TExpr TExpr Typing (type_by c) (type_plain y)) p ≡ type_step d (map-TExpr TExpr Typing (type_by d) (type_plain y)) q
layer_same (layer.Lit x) l c d p q = refl
layer_same (layer.Neg k) l c d p q =
    let o = some_number (minus (literal_of k.0).number) l in
    let r = minus_is (literal_of k.0).number o.0 o.1 in
    ap (λ o. option_and_then (λ u. when (is_int u) ty.Int) o) (k.1 (number_is k.0 (pos r.0) r.1).1 c d p q)
  where
    some_number : (o : Option ℤ) → is_some o ≡ true → (n : ℤ) × (o ≡ Some n)
    some_number None h = absurd (false≢true h)
    some_number (Some n) h = (n, refl)
layer_same (layer.ListOf ks) l c d p q = ap (λ os. option_and_then list_type (all_types os)) (items_same ks l c d p q)
layer_same (layer.Cast k u) l c d p q = ap (λ o. option_and_then (λ w. when (coerces w u) u) o) (k.1 l c d p q)
layer_same y l c d p q = absurd (false≢true l)

-- The type of a literal is the same everywhere.
literal_types : (x : TExpr) → SameTypes x
literal_types = ind-TExpr SameTypes (λ a y is. subst (λ (z : TExpr-F TExpr). SameTypes (roll-TExpr z)) is (λ l c d p q.
    let k = sym (ap (λ (i : Literal). i.is_literal) (fold-roll-TExpr Literal kind_step (type_plain y))) ∙ l in
    ap (λ (f : Typing). f p) (fold-roll-TExpr Typing (type_step c) (type_plain y)) ∙ layer_same y k c d p q ∙ sym (ap (λ (f : Typing). f q) (fold-roll-TExpr Typing (type_step d) (type_plain y)))))

-- A literal of a type of the subset, whose casts are allowed.
pub literal_is : (structs : Structs) (x : TExpr) (c d : Context) (p q : Bool) (t : Ty) → (literal_of x).is_literal ≡ true → casts_widen c x p ≡ true → type_by d x q ≡ Some t → is_simple t ≡ true → IsLit structs x t
literal_is structs x c d p q t l w h s = (literals structs x l c p).1 t w (literal_types x l c d p q ∙ h) s
