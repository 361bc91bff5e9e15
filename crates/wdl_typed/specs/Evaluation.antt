-- The value of a typed expression (OpenWDL 1.1, "Expressions"): operands from left to right, the first code being the
-- result; `&&`, `||` and `if` evaluate only what they need; each node's value keeps the limits of values.
use Rattle.std.specs.Prelude.{ℕ, ℤ, pos, negsuc, true, false, not, List, [], ◌∷◌, ◌++◌, Option, Some, None, Result, Ok, Err, if◌then◌else◌, slice_get, codes}
use Rattle.std.specs.List.{join_by}
use Rattle.std.specs.Str.{bytes_eq}
use Rattle.wdl_base.specs.declared.answer.Answer.{Answer}
use Rattle.wdl_base.specs.declared.fault.EvalCode.{EvalCode}
use Rattle.wdl_base.specs.declared.fault.EvalCode.TheVariants.{EmptyArray, IndexOut, KeyMissing, RepeatedKey}
use Rattle.wdl_value.specs.declared.casting.CastFault.{CastFault}
use Rattle.wdl_value.specs.declared.env.Bind.{Bind}
use Rattle.wdl_value.specs.declared.operator.Op.{Op}
use Rattle.wdl_value.specs.declared.operator.Op.TheVariants as op
use Rattle.wdl_value.specs.declared.value.Field.{Field}
use Rattle.wdl_value.specs.declared.value.MapRow.{MapRow}
use Rattle.wdl_value.specs.declared.value.Value.{Value, Value-F, out-Value}
use Rattle.wdl_value.specs.declared.value.Value.TheVariants as v
use Rattle.wdl_value.specs.declared.value.Value.TheOpen as value
use Rattle.wdl_value.specs.Apply.{apply}
use Rattle.wdl_value.specs.Cast.{cast}
use Rattle.wdl_value.specs.Keyed.{distinct_keys}
use Rattle.wdl_value.specs.Limits.{limited}
use Rattle.wdl_value.specs.Operate.{negate, operate}
use Rattle.wdl_value.specs.Outcome.{Outcome}
use Rattle.wdl_value.specs.SameValue.{same_value}
use Rattle.wdl_value.specs.ValueText.{has_text_at, text_at}
use Rattle.wdl_typed.specs.declared.expr.Choice.{Choice}
use Rattle.wdl_typed.specs.declared.expr.Choice.TheVariants as choice
use Rattle.wdl_typed.specs.declared.expr.TExpr.{TExpr, TExpr-F, fold-TExpr}
use Rattle.wdl_typed.specs.declared.expr.TExpr.TheOpen as layer
use Rattle.wdl_typed.specs.declared.expr.TField.{TField}
use Rattle.wdl_typed.specs.declared.expr.TPair.{TPair}
use Rattle.wdl_typed.specs.declared.expr.TPart.{TPart}
use Rattle.wdl_typed.specs.declared.expr.TPart.TheVariants as part
use Rattle.wdl_typed.specs.Scope.{lookup}

-- what an evaluation meets: a value, a code, or (None) a value of a wrong kind, which no well-typed expression meets
abbrev pub Met : Type 0 → Type 0
Met A = Result A (Option EvalCode)

abbrev pub wrong : {A : Type 0} → Met A
wrong = Err None

abbrev pub coded : {A : Type 0} → EvalCode → Met A
coded c = Err (Some c)

abbrev pub then_ : {A B : Type 0} → Met A → (A → Met B) → Met B
then_ (Ok a) f = f a
then_ (Err e) f = Err e

abbrev pub met : {A : Type 0} → Outcome A → Met A
met (Ok a) = Ok a
met (Err c) = Err (Some c)

-- the names' values, the directory of the job, and what its command left
pub record Setting : Type 0 where
  pub env : List Bind
  pub dir : List ℕ
  pub answer : Option Answer

abbrev pub found : Option Value → Met Value
found (Some x) = Ok x
found None = wrong

abbrev pub field_among : List (Field Value) → List ℕ → Met Value
field_among [] name = wrong
field_among (f ∷ fs) name = if bytes_eq f.name name then Ok f.value else field_among fs name

abbrev pub member_at : List ℕ → Value-F Value → Met Value
member_at name (value.Pair x y) =
    if bytes_eq name (codes "left") then Ok x else (if bytes_eq name (codes "right") then Ok y else wrong)
member_at name (value.Struct s fields) = field_among fields name
member_at name x = wrong

abbrev pub item_of : Option Value → Met Value
item_of (Some x) = Ok x
item_of None = coded IndexOut

abbrev pub item_at : List Value → ℤ → Met Value
item_at xs (pos n) = item_of (slice_get xs n)
item_at xs (negsuc n) = coded IndexOut

abbrev pub value_at : List (MapRow Value) → Value → Met Value
value_at [] key = coded KeyMissing
value_at (r ∷ rows) key = if same_value r.key key then Ok r.value else value_at rows key

abbrev pub indexed : Value-F Value → Value → Value-F Value → Met Value
indexed (value.List xs) index (value.Int n) = item_at xs n
indexed (value.List xs) index y = wrong
indexed (value.Map rows) index y = value_at rows index
indexed x index y = wrong

abbrev pub not_at : Value-F Value → Met Value
not_at (value.Bool b) = Ok (v.Bool (not b))
not_at x = wrong

abbrev pub neg_at : Value → Value-F Value → Met Value
neg_at x (value.Int n) = met (negate x)
neg_at x y = wrong

abbrev pub only_bool : Value-F Value → Met Value
only_bool (value.Bool b) = Ok (v.Bool b)
only_bool x = wrong

-- the right side counts only where the left one does not decide
abbrev pub and_at : Value-F Value → Met Value → Met Value
and_at (value.Bool true) right = then_ right (λ y. only_bool (out-Value y))
and_at (value.Bool false) right = Ok (v.Bool false)
and_at x right = wrong

abbrev pub or_at : Value-F Value → Met Value → Met Value
or_at (value.Bool true) right = Ok (v.Bool true)
or_at (value.Bool false) right = then_ right (λ y. only_bool (out-Value y))
or_at x right = wrong

-- an operator, once its left side has a value
abbrev pub after_left : Op → Value → Met Value → Met Value
after_left op.And x right = and_at (out-Value x) right
after_left op.Or x right = or_at (out-Value x) right
after_left o x right = then_ right (λ y. met (operate o x y))

abbrev pub chosen : Value-F Value → Met Value → Met Value → Met Value
chosen (value.Bool true) a b = a
chosen (value.Bool false) a b = b
chosen x a b = wrong

abbrev pub all_of : List (Met Value) → Met (List Value)
all_of [] = Ok []
all_of (r ∷ rs) = then_ r (λ x. then_ (all_of rs) (λ xs. Ok (x ∷ xs)))

abbrev pub all_rows : List (TPair (Met Value)) → Met (List (MapRow Value))
all_rows [] = Ok []
all_rows (r ∷ rows) = then_ r.key (λ k. then_ r.value (λ x. then_ (all_rows rows) (λ xs. Ok (record { key = k; value = x } ∷ xs))))

abbrev pub all_fields : List (TField (Met Value)) → Met (List (Field Value))
all_fields [] = Ok []
all_fields (f ∷ fs) = then_ f.value (λ x. then_ (all_fields fs) (λ xs. Ok (record { name = f.name; value = x } ∷ xs)))

abbrev pub map_of : List (MapRow Value) → Met Value
map_of rows = if distinct_keys rows then Ok (v.Map rows) else coded RepeatedKey

abbrev pub from_cast : Result Value CastFault → Met Value
from_cast (Ok x) = Ok x
from_cast (Err e) = coded EmptyArray

-- the text of a value that has one
abbrev pub text_met : Value-F Value → Met (List ℕ)
text_met x = if has_text_at x then Ok (text_at x) else wrong

abbrev pub texts_met : List Value → Met (List (List ℕ))
texts_met [] = Ok []
texts_met (x ∷ xs) = then_ (text_met (out-Value x)) (λ s. then_ (texts_met xs) (λ ss. Ok (s ∷ ss)))

abbrev pub separated : List ℕ → Value-F Value → Met (List ℕ)
separated sep (value.List xs) = then_ (texts_met xs) (λ ss. Ok (join_by (λ s. s) sep ss))
separated sep x = wrong

-- the first text for true, the second one for false
abbrev pub one_of_two : List ℕ → List ℕ → Value-F Value → Met (List ℕ)
one_of_two first second (value.Bool b) = Ok (if b then first else second)
one_of_two first second value.Absent = Ok []
one_of_two first second x = wrong

abbrev pub or_default : List ℕ → Value-F Value → Met (List ℕ)
or_default text value.Absent = Ok text
or_default text x = text_met x

-- the text that a placeholder prints, by its option; an undefined value prints nothing
abbrev pub hole_text : Choice → Value-F Value → Met (List ℕ)
hole_text choice.Plain x = or_default [] x
hole_text (choice.Sep s) x = separated s x
hole_text (choice.Both first second) x = one_of_two first second x
hole_text (choice.Default s) x = or_default s x

abbrev pub strung : List (TPart (Met Value)) → Met (List ℕ)
strung [] = Ok []
strung (part.Chars s ∷ parts) = then_ (strung parts) (λ t. Ok (s ++ t))
strung (part.Hole h ∷ parts) =
    then_ h.expr (λ x. then_ (hole_text h.choice (out-Value x)) (λ s. then_ (strung parts) (λ t. Ok (s ++ t))))

abbrev pub node_step : Setting → TExpr-F (Met Value) → Met Value
node_step s (layer.Lit x) = Ok x
node_step s (layer.Get key) = found (lookup s.env key)
node_step s (layer.Member r name) = then_ r (λ x. member_at name (out-Value x))
node_step s (layer.At r q) = then_ r (λ x. then_ q (λ y. indexed (out-Value x) y (out-Value y)))
node_step s (layer.Not r) = then_ r (λ x. not_at (out-Value x))
node_step s (layer.Neg r) = then_ r (λ x. neg_at x (out-Value x))
node_step s (layer.Binary o r q) = then_ r (λ x. after_left o x q)
node_step s (layer.Choose c r q) = then_ c (λ x. chosen (out-Value x) r q)
node_step s (layer.ListOf rs) = then_ (all_of rs) (λ xs. Ok (v.List xs))
node_step s (layer.MapOf rows) = then_ (all_rows rows) map_of
node_step s (layer.PairOf r q) = then_ r (λ x. then_ q (λ y. Ok (v.Pair x y)))
node_step s (layer.StructOf name fields) = then_ (all_fields fields) (λ xs. Ok (v.Struct name xs))
node_step s (layer.Apply f rs) = then_ (all_of rs) (λ xs. met (apply s.dir s.answer f xs))
node_step s (layer.Strung parts) = then_ (strung parts) (λ t. Ok (v.Str t))
node_step s (layer.Cast r t) = then_ r (λ x. from_cast (cast x t))

-- A value past a limit is refused at each node.
abbrev pub value_step : Setting → TExpr-F (Met Value) → Met Value
value_step s y = then_ (node_step s y) (λ x. met (limited x))

abbrev pub value_met : Setting → TExpr → Met Value
value_met s = fold-TExpr (Met Value) (value_step s)

-- a value or a code; what no well-typed expression meets counts as undefined
abbrev pub settled : Met Value → Outcome Value
settled (Ok x) = Ok x
settled (Err (Some c)) = Err c
settled (Err None) = Ok v.Absent

abbrev pub value_of : Setting → TExpr → Outcome Value
value_of s e = settled (value_met s e)
