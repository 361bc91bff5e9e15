-- The members of a value that keeps the limits of values keep them.
use Rattle.std.proofs.Common.{◌≡◌, ◌≤◌, ℕ, ◌+◌, nat_le, Bool, true, false, cond, codes, List, [], ◌∷◌, length, Ok, Err, sym, ap, ◌∙◌, subst, refl, arith}
use Rattle.std.specs.Str.{bytes_eq}
use Rattle.std.proofs.lemmas.Bool.{and_parts, and_from, le-leb, leb-true}
use Rattle.wdl_base.specs.declared.fault.EvalCode.TheVariants.{TooLarge}
use Rattle.wdl_value.specs.declared.value.Field.{Field}
use Rattle.wdl_value.specs.declared.value.Value.{Value, Value-F, map-Value, out-Value, fold_out-Value}
use Rattle.wdl_value.specs.declared.value.Value.TheOpen as layer
use Rattle.wdl_value.specs.Limits.{fields_are_short, is_short, is_within, short_step}
use Rattle.wdl_value.specs.Size.{size, size_field_list, size_step}
use Rattle.wdl_typed.specs.declared.expr.TExpr.{TExpr}
use Rattle.wdl_typed.specs.Evaluation.{Met, Setting, field_among, member_at, met, value_met, wrong}
use Rattle.wdl_eval.specs.Nodes.{within}
use Rattle.wdl_eval.proofs.Limited.{limited_once}

middle_below : (a b c n : ℕ) → a + b + c ≤ n → b ≤ n
middle_below a b c n h = omega (arith, h)

last_below : (a b c n : ℕ) → a + b + c ≤ n → c ≤ n
last_below a b c n h = omega (arith, h)

first_of_pair : (a b n : ℕ) → 1 + (a + b) ≤ n → a ≤ n
first_of_pair a b n h = omega (arith, h)

second_of_pair : (a b n : ℕ) → 1 + (a + b) ≤ n → b ≤ n
second_of_pair a b n h = omega (arith, h)

kept : (x : Value) → size x ≤ 4194304 → is_short x ≡ true → within (Ok x) ≡ Ok x
kept x h k = ap (λ (b : Bool). met (cond b (Ok x) (Err TooLarge))) (and_from (nat_le (size x) 4194304) (is_short x) (le-leb (size x) 4194304 h) k)

by_test : (r q : Met Value) → within r ≡ r → within q ≡ q → (t : Bool) → within (cond t r q) ≡ cond t r q
by_test r q h k true = h
by_test r q h k false = k

field_kept : (fields : List (Field Value)) (name : List ℕ) → size_field_list fields ≤ 4194304 → fields_are_short fields ≡ true
    → within (field_among fields name) ≡ field_among fields name
field_kept [] name h k = refl
field_kept (f ∷ fields) name h k =
    let p = and_parts (is_short f.value) (fields_are_short fields) k in
    by_test (Ok f.value) (field_among fields name) (kept f.value (middle_below (length f.name) (size f.value) (size_field_list fields) 4194304 h) p.0)
    (field_kept fields name (last_below (length f.name) (size f.value) (size_field_list fields) 4194304 h) p.1) (bytes_eq f.name name)

at_layer : (name : List ℕ) (z : Value-F Value) → size_step (map-Value Value ℕ size z) ≤ 4194304 → short_step (map-Value Value Bool is_short z) ≡ true
    → within (member_at name z) ≡ member_at name z
at_layer name (layer.Pair a b) h k =
    let p = and_parts (is_short a) (is_short b) k in
    let right = bytes_eq name (codes "right") in
    by_test (Ok a) (cond right (Ok b) wrong) (kept a (first_of_pair (size a) (size b) 4194304 h) p.0)
    (by_test (Ok b) wrong (kept b (second_of_pair (size a) (size b) 4194304 h) p.1) refl right) (bytes_eq name (codes "left"))
at_layer name (layer.Struct s fields) h k = field_kept fields name (second_of_pair (length s) (size_field_list fields) 4194304 h) k
at_layer name z h k = refl

pub member_kept : (x : Value) (name : List ℕ) → is_within x ≡ true → within (member_at name (out-Value x)) ≡ member_at name (out-Value x)
member_kept x name h =
    let p = and_parts (nat_le (size x) 4194304) (is_short x) h in
    at_layer name (out-Value x) (subst (λ (n : ℕ). n ≤ 4194304) (fold_out-Value ℕ size_step x) (leb-true (size x) 4194304 p.0))
    (sym (fold_out-Value Bool short_step x) ∙ p.1)

by_limit : (x : Value) (b : Bool) → met (cond b (Ok x) (Err TooLarge)) ≡ Ok x → b ≡ true
by_limit x true h = refl
by_limit x false h = cc

-- what an expression gives keeps them
pub given_within : (s : Setting) (e : TExpr) (x : Value) → value_met s e ≡ Ok x → is_within x ≡ true
given_within s e x is = by_limit x (is_within x) (subst (λ (m : Met Value). within m ≡ m) is (limited_once s e))
