-- The operands of an operator coerce to those of its row of the table, which has the same row.
use Rattle.std.proofs.Common.{◌≡◌, Bool, true, false, ◌&&◌, ◌||◌, Option, Some, None, option_map, option_and_then, refl, ap, sym, ◌∙◌, subst, if◌then◌else◌}
use Rattle.std.proofs.lemmas.Bool.{false≢true, and_parts, and_from}
use Rattle.wdl_value.specs.declared.operator.Op.{Op}
use Rattle.wdl_value.specs.declared.operator.Op.TheVariants as op
use Rattle.wdl_value.specs.declared.ty.Ty.{Ty, Ty-F, out-Ty}
use Rattle.wdl_value.specs.declared.ty.Ty.TheVariants as ty
use Rattle.wdl_value.specs.declared.ty.Ty.TheOpen as type
use Rattle.wdl_value.specs.declared.typing.OpTyping.{OpTyping}
use Rattle.wdl_value.specs.Coerces.{coerces}
use Rattle.wdl_value.specs.Join.{join}
use Rattle.wdl_value.specs.Kinds.{is_bool, is_int, is_str, is_empty, int_at, bool_at, empty_at}
use Rattle.wdl_value.specs.OperatorTypes.{operator_type, row, arithmetic_type, adds, add_type, is_loose, adds_maybe, or_else, equality_type, logic_type}
use Rattle.wdl_value.proofs.SameTypeLemmas.{same_type-refl}
use Rattle.wdl_ast.specs.declared.expr.BinaryOperator.{BinaryOperator}
use Rattle.wdl_ast.specs.declared.expr.BinaryOperator.TheVariants as binary
use Rattle.wdl_typed.specs.Typing.{when, exact_row, is_maybe, binary_type}
use Rattle.wdl_check_rules.specs.Rules.{op_of, maybe_row, row_of}
use Rattle.wdl_check_rules.specs.Rules as rule
use Rattle.wdl_check_laws.proofs.CoercionLaws.{of_layers, coerces-refl, join_left, join_right, join_same, no_empty}

-- ---- kinds

int_layer : (x : Ty-F Ty) → int_at x ≡ true → x ≡ type.Int
int_layer type.Int h = refl
int_layer x h = absurd (false≢true h)

bool_layer : (x : Ty-F Ty) → bool_at x ≡ true → x ≡ type.Bool
bool_layer type.Bool h = refl
bool_layer x h = absurd (false≢true h)

pub an_int : (t : Ty) → is_int t ≡ true → t ≡ ty.Int
an_int t h = of_layers t ty.Int type.Int (int_layer (out-Ty t) h) ty.outs-Int

pub a_bool : (t : Ty) → is_bool t ≡ true → t ≡ ty.Bool
a_bool t h = of_layers t ty.Bool type.Bool (bool_layer (out-Ty t) h) ty.outs-Bool

-- ---- rows

-- the operands are just those of the row
abbrev Exact : Option OpTyping → Ty → Ty → Type 0
Exact o t u = (r : OpTyping) → o ≡ Some r → (t ≡ r.left) × (u ≡ r.right)

row_is : (left right result : Ty) (r : OpTyping) → row left right result ≡ Some r → (left ≡ r.left) × (right ≡ r.right)
row_is left right result r h = (cc, cc)

row_exact : (b : Bool) (t u w : Ty) → Exact (if b then row t u w else None) t u
row_exact true t u w r h = row_is t u w r h
row_exact false t u w r h = cc

arithmetic_exact : (t u : Ty) → Exact (arithmetic_type t u) t u
arithmetic_exact t u r h = by_test (is_int t && is_int u) refl h
  where
    by_test : (b : Bool) → (is_int t && is_int u) ≡ b → (if b then row ty.Int ty.Int ty.Int else None) ≡ Some r → (t ≡ r.left) × (u ≡ r.right)
    by_test true e h =
        let p = and_parts (is_int t) (is_int u) e in
        let q = row_is ty.Int ty.Int ty.Int r h in
        (an_int t p.0 ∙ q.0, an_int u p.1 ∙ q.1)
    by_test false e h = cc

logic_exact : (t u : Ty) → Exact (logic_type t u) t u
logic_exact t u r h = by_test (is_bool t && is_bool u) refl h
  where
    by_test : (b : Bool) → (is_bool t && is_bool u) ≡ b → (if b then row ty.Bool ty.Bool ty.Bool else None) ≡ Some r → (t ≡ r.left) × (u ≡ r.right)
    by_test true e h =
        let p = and_parts (is_bool t) (is_bool u) e in
        let q = row_is ty.Bool ty.Bool ty.Bool r h in
        (a_bool t p.0 ∙ q.0, a_bool u p.1 ∙ q.1)
    by_test false e h = cc

add_exact : (t u : Ty) → Exact (add_type t u) t u
add_exact t u r h = by_test (adds t u) h
  where
    by_test : (b : Bool) → (if b then row t u ty.Str else arithmetic_type t u) ≡ Some r → (t ≡ r.left) × (u ≡ r.right)
    by_test true h = row_is t u ty.Str r h
    by_test false h = arithmetic_exact t u r h

or_none : (o : Option OpTyping) → or_else o None ≡ o
or_none None = refl
or_none (Some r) = refl

-- ---- what a row is for

abbrev Taken : Op → Bool → Ty → Ty → OpTyping → Type 0
Taken o placeholder t u r = (coerces t r.left ≡ true) × (coerces u r.right ≡ true) × (operator_type o r.left r.right placeholder ≡ Some r)

by_exact : (o : Op) (placeholder : Bool) (t u : Ty) (r : OpTyping) → (t ≡ r.left) × (u ≡ r.right) → operator_type o t u placeholder ≡ Some r → Taken o placeholder t u r
by_exact o placeholder t u r e h = (
  subst (λ (w : Ty). coerces t w ≡ true) e.0 (coerces-refl t),
  subst (λ (w : Ty). coerces u w ≡ true) e.1 (coerces-refl u),
  subst (λ (w : Ty). operator_type o w r.right placeholder ≡ Some r) e.0 (subst (λ (w : Ty). operator_type o t w placeholder ≡ Some r) e.1 h),
)

equality_taken : (t u : Ty) (r : OpTyping) → equality_type t u ≡ Some r → (coerces t r.left ≡ true) × (coerces u r.right ≡ true) × (equality_type r.left r.right ≡ Some r)
equality_taken t u r h = by_empty (is_empty t) (is_empty u) refl refl h
  where
    by_join : (o : Option Ty) → is_empty t ≡ false → join t u ≡ o → option_and_then (λ j. row j j ty.Bool) o ≡ Some r → (coerces t r.left ≡ true) × (coerces u r.right ≡ true) × (equality_type r.left r.right ≡ Some r)
    by_join None n e h = cc
    by_join (Some j) n e h =
        let c : coerces t j ≡ true = join_left t u j t e (coerces-refl t) in
        let m : empty_at (out-Ty j) ≡ false = no_empty t j c n in
        let is : equality_type j j ≡ row j j ty.Bool =
        ap (λ (b : Bool). if b || b then None else option_and_then (λ k. row k k ty.Bool) (join j j)) m ∙ ap (option_and_then (λ k. row k k ty.Bool)) (join_same j) in
        let q = row_is j j ty.Bool r h in (
          subst (λ (w : Ty). coerces t w ≡ true) q.0 c,
          subst (λ (w : Ty). coerces u w ≡ true) q.1 (join_right t u j e),
          subst (λ (w : Ty). equality_type w r.right ≡ Some r) q.0 (subst (λ (w : Ty). equality_type j w ≡ Some r) q.1 (is ∙ h)),
        )

    by_empty : (a b : Bool) → is_empty t ≡ a → is_empty u ≡ b → (if a || b then None else option_and_then (λ j. row j j ty.Bool) (join t u)) ≡ Some r → (coerces t r.left ≡ true) × (coerces u r.right ≡ true) × (equality_type r.left r.right ≡ Some r)
    by_empty true b e f h = cc
    by_empty false true e f h = cc
    by_empty false false e f h = by_join (join t u) e refl h

taken : (o : Op) (t u : Ty) (r : OpTyping) → operator_type o t u false ≡ Some r → Taken o false t u r
taken op.Mul t u r h = by_exact op.Mul false t u r (arithmetic_exact t u r h) h
taken op.Div t u r h = by_exact op.Div false t u r (arithmetic_exact t u r h) h
taken op.Rem t u r h = by_exact op.Rem false t u r (arithmetic_exact t u r h) h
taken op.Sub t u r h = by_exact op.Sub false t u r (arithmetic_exact t u r h) h
taken op.Add t u r h = by_exact op.Add false t u r (add_exact t u r (sym (or_none (add_type t u)) ∙ h)) h
taken op.AddMaybe t u r h = cc
taken op.Lt t u r h = by_exact op.Lt false t u r (row_exact (is_int t && is_int u || is_bool t && is_bool u || is_str t && is_str u) t u ty.Bool r h) h
taken op.Le t u r h = by_exact op.Le false t u r (row_exact (is_int t && is_int u || is_bool t && is_bool u || is_str t && is_str u) t u ty.Bool r h) h
taken op.Gt t u r h = by_exact op.Gt false t u r (row_exact (is_int t && is_int u || is_bool t && is_bool u || is_str t && is_str u) t u ty.Bool r h) h
taken op.Ge t u r h = by_exact op.Ge false t u r (row_exact (is_int t && is_int u || is_bool t && is_bool u || is_str t && is_str u) t u ty.Bool r h) h
taken op.Eq t u r h = equality_taken t u r h
taken op.Ne t u r h = equality_taken t u r h
taken op.And t u r h = by_exact op.And false t u r (logic_exact t u r h) h
taken op.Or t u r h = by_exact op.Or false t u r (logic_exact t u r h) h

maybe_taken : (placeholder : Bool) (t u : Ty) (r : OpTyping) → operator_type op.AddMaybe t u placeholder ≡ Some r → Taken op.AddMaybe placeholder t u r
maybe_taken false t u r h = cc
maybe_taken true t u r h = by_exact op.AddMaybe true t u r (row_exact ((is_loose t || is_loose u) && adds_maybe t u) t u (ty.Opt ty.Str) r h) h

-- ---- the row that the checker takes

exact_self : (r : OpTyping) → exact_row r.left r.right r ≡ Some r.result
exact_self r = ap (λ (b : Bool). when b r.result) (and_from _ _ (same_type-refl r.left) (same_type-refl r.right))

typed_by : (o : Op) (placeholder : Bool) (r : OpTyping) → operator_type o r.left r.right (is_maybe o && placeholder) ≡ Some r → binary_type o placeholder r.left r.right ≡ Some r.result
typed_by o placeholder r h = ap (option_and_then (exact_row r.left r.right)) h ∙ exact_self r

not_maybe : (o : BinaryOperator) → is_maybe (op_of o) ≡ false
not_maybe binary.Or = refl
not_maybe binary.And = refl
not_maybe binary.Equal = refl
not_maybe binary.NotEqual = refl
not_maybe binary.Less = refl
not_maybe binary.LessEqual = refl
not_maybe binary.Greater = refl
not_maybe binary.GreaterEqual = refl
not_maybe binary.Add = refl
not_maybe binary.Subtract = refl
not_maybe binary.Multiply = refl
not_maybe binary.Divide = refl
not_maybe binary.Remainder = refl

abbrev Operating : Bool → Ty → Ty → Op × OpTyping → Type 0
Operating placeholder t u r = (coerces t r.1.left ≡ true) × (coerces u r.1.right ≡ true) × (binary_type r.0 placeholder r.1.left r.1.right ≡ Some r.1.result)

maybe_operating : (o : Op) (placeholder : Bool) (t u : Ty) (r : Op × OpTyping) → maybe_row o t u placeholder ≡ Some r → Operating placeholder t u r
maybe_operating op.Add placeholder t u r h = by_row (operator_type op.AddMaybe t u placeholder) refl h
  where
    by_row : (q : Option OpTyping) → operator_type op.AddMaybe t u placeholder ≡ q → option_map (λ k. (op.AddMaybe, k)) q ≡ Some r → Operating placeholder t u r
    by_row None e h = cc
    by_row (Some k) e h =
        let p = maybe_taken placeholder t u k e in
        subst (λ (i : Op × OpTyping). Operating placeholder t u i) (pair_is k h) (p.0, p.1, typed_by op.AddMaybe placeholder k p.2)
      where
        pair_is : (k : OpTyping) → Some (op.AddMaybe, k) ≡ Some r → (op.AddMaybe, k) ≡ r
        pair_is k h = cc
maybe_operating o placeholder t u r h = cc

pub operating : (o : BinaryOperator) (placeholder : Bool) (t u : Ty) (r : Op × OpTyping) → row_of (op_of o) t u placeholder ≡ Some r → Operating placeholder t u r
operating o placeholder t u r h = by_row (operator_type (op_of o) t u false) refl h
  where
    pair_is : (k : OpTyping) → Some (op_of o, k) ≡ Some r → (op_of o, k) ≡ r
    pair_is k h = cc

    by_row : (q : Option OpTyping) → operator_type (op_of o) t u false ≡ q → rule.or_else (option_map (λ k. (op_of o, k)) q) (maybe_row (op_of o) t u placeholder) ≡ Some r → Operating placeholder t u r
    by_row None e h = maybe_operating (op_of o) placeholder t u r h
    by_row (Some k) e h =
        let p = taken (op_of o) t u k e in
        subst (λ (i : Op × OpTyping). Operating placeholder t u i) (pair_is k h)
        (p.0, p.1, typed_by (op_of o) placeholder k (ap (λ (b : Bool). operator_type (op_of o) k.left k.right (b && placeholder)) (not_maybe o) ∙ p.2))
