-- Lists that pass a limit.
use Rattle.std.proofs.Common.{◌≡◌, ℕ, ◌+◌, ◌<◌, ◌≤◌, Bool, false, cond, ◌&&◌, nat_le, List, [], ◌∷◌, ◌++◌, length, map, Ok, Err, sym, ap, ◌∙◌, refl, arith, get_or, drop, append_assoc, append-nil, subst, Result, IsErr, IsErrAnd, IfErr}
use Rattle.std.proofs.lemmas.Bool.{and_right}
use Rattle.std.proofs.lemmas.Bool.Decides.{nat_tests}
use Rattle.std.proofs.lemmas.List.{length-append, length-map, drop_more}
use Rattle.wdl_base.specs.declared.fault.EvalCode.TheVariants.{TooLarge}
use Rattle.wdl_value.specs.declared.value.Value.{Value, Value-F, map-Value, fold_out-Value}
use Rattle.wdl_value.specs.declared.value.Value.TheVariants as v
use Rattle.wdl_value.specs.Limits.{list_is_short, short_step, is_short, limited}
use Rattle.wdl_base.specs.declared.fault.EvalCode.{EvalCode}
use Rattle.wdl_value.specs.Outcome.{Outcome}
use Rattle.wdl_stdlib.specs.declared.fault.EvalFault.{EvalFault}
use Rattle.wdl_stdlib.specs.declared.fault.EvalFault.TheVariants.{Code}
use Rattle.wdl_stdlib.specs.Gives.{IsPast, IsPastText}
use Rattle.wdl_value.specs.Size.{size, size_step, size_list}

pub size-List : (xs : List Value) → size (v.List xs) ≡ 1 + size_list xs
size-List xs = fold_out-Value ℕ size_step (v.List xs) ∙ ap (λ (l : Value-F Value). size_step (map-Value Value ℕ size l)) (v.outs-List xs)

pub is_short-List : (xs : List Value) → is_short (v.List xs) ≡ (nat_le (length (map is_short xs)) 100000 && list_is_short xs)
is_short-List xs = fold_out-Value Bool short_step (v.List xs) ∙ ap (λ (l : Value-F Value). short_step (map-Value Value Bool is_short l)) (v.outs-List xs)

pub size_list-append : (xs ys : List Value) → size_list (xs ++ ys) ≡ size_list xs + size_list ys
size_list-append [] ys = omega arith
size_list-append (x ∷ xs) ys = omega (arith, size_list-append xs ys)

-- a list with too many items, or of too large a size
pub past_count : (xs : List Value) → 100000 < length xs → limited (v.List xs) ≡ Err TooLarge
past_count xs h =
    let l = length-map xs is_short in
    let e : nat_le (length (map is_short xs)) 100000 ≡ false = grind (arith, nat_tests) in
    ap (λ b. cond b (Ok (v.List xs)) (Err TooLarge)) (and_right (nat_le (size (v.List xs)) 4194304) _ (is_short-List xs ∙ ap (λ b. b && list_is_short xs) e))

pub past_size : (xs : List Value) → 4194303 < size_list xs → limited (v.List xs) ≡ Err TooLarge
past_size xs h =
    let s = size-List xs in
    let e : nat_le (size (v.List xs)) 4194304 ≡ false = grind (arith, nat_tests) in
    ap (λ b. cond (b && is_short (v.List xs)) (Ok (v.List xs)) (Err TooLarge)) e

-- No list that begins with such a list keeps the limits.
too_large : (e : EvalFault) (r : Outcome Value) → e ≡ Code TooLarge → r ≡ Err TooLarge → (c : EvalCode) → e ≡ Code c → r ≡ Err c
too_large e r h k c i = cc

pub too_many : (xs : List Value) (x : Value) → 100000 ≤ length xs → IsPast (xs ++ x ∷ []) (Code TooLarge)
too_many xs x h c i more =
    too_large (Code TooLarge) _ refl (past_count ((xs ++ x ∷ []) ++ more) (omega (arith, length-append (xs ++ x ∷ []) more, length-append xs (x ∷ [])))) c i

pub too_long : (xs : List Value) (x : Value) → 4194303 < size_list xs + size x → IsPast (xs ++ x ∷ []) (Code TooLarge)
too_long xs x h c i more =
    too_large (Code TooLarge) _ refl (past_size ((xs ++ x ∷ []) ++ more) (omega (arith, size_list-append (xs ++ x ∷ []) more, size_list-append xs (x ∷ [])))) c i

pub ruleset past = (too_many, too_long, size_list-append)

-- a list of values f x, of which those made so far and the next pass a limit
pub past_map : {A : Type 0} (made all : List Value) (f : A → Value) (xs : List A) (i : ℕ) (x : A) (y : Value) (e : EvalFault)
    → IsPast (made ++ y ∷ []) e → y ≡ f x → x ≡ get_or xs i x → i < length xs → made ++ map f (drop i xs) ≡ all → IsPast all e
past_map made all f xs i x y e past is at below whole c h more =
    let next : drop i xs ≡ x ∷ drop (i + 1) xs = drop_more xs i x below ∙ ap (λ z. z ∷ drop (i + 1) xs) (sym at) in
    let rest : (made ++ y ∷ []) ++ (map f (drop (i + 1) xs) ++ more) ≡ all ++ more =
    sym (append_assoc (made ++ y ∷ []) (map f (drop (i + 1) xs)) more)
    ∙ ap (λ z. z ++ more) (append_assoc made (y ∷ []) (map f (drop (i + 1) xs)) ∙ ap (λ z. made ++ z ∷ map f (drop (i + 1) xs)) is ∙ ap (λ z. made ++ map f z) (sym next) ∙ whole) in
    ap (λ z. limited (v.List z)) (sym rest) ∙ past c h (map f (drop (i + 1) xs) ++ more)

pub limited_past : (all : List Value) (e : EvalFault) → IsPast all e → (c : EvalCode) → e ≡ Code c → limited (v.List all) ≡ Err c
limited_past all e past c h = ap (λ z. limited (v.List z)) (sym (append-nil all)) ∙ past c h []

-- a list made of parts g x: one part more
pub part_more : {A B : Type 0} (F : List A → List B) (g : A → List B) → ((x : A) (xs : List A) → F (x ∷ xs) ≡ g x ++ F xs)
    → (made : List B) (xs : List A) (i : ℕ) (x : A) → x ≡ get_or xs i x → i < length xs → (made ++ g x) ++ F (drop (i + 1) xs) ≡ made ++ F (drop i xs)
part_more F g step made xs i x at below =
    let next : drop i xs ≡ x ∷ drop (i + 1) xs = drop_more xs i x below ∙ ap (λ z. z ∷ drop (i + 1) xs) (sym at) in
    append_assoc made (g x) (F (drop (i + 1) xs)) ∙ ap (λ z. made ++ z) (sym (step x (drop (i + 1) xs)) ∙ ap F (sym next))

pub past_part : (made rest all : List Value) (e : EvalFault) → IsPast made e → made ++ rest ≡ all → IsPast all e
past_part made rest all e past whole c h more =
    ap (λ z. limited (v.List (z ++ more))) (sym whole) ∙ ap (λ z. limited (v.List z)) (append_assoc made rest more) ∙ past c h (rest ++ more)

-- ---- texts

pub past_text : (t : List ℕ) → 4194304 ≤ length t → IsPastText t (Code TooLarge)
past_text t h c i more = too_large (Code TooLarge) _ refl (limited-Str (t ++ more) (omega (arith, length-append t more))) c i
  where
    limited-Str : (s : List ℕ) → 4194304 ≤ length s → limited (v.Str s) ≡ Err TooLarge
    limited-Str s h =
        let k : size (v.Str s) ≡ 1 + length s = fold_out-Value ℕ size_step (v.Str s) ∙ ap (λ (l : Value-F Value). size_step (map-Value Value ℕ size l)) (v.outs-Str s) in
        let e : nat_le (size (v.Str s)) 4194304 ≡ false = grind (arith, nat_tests) in
        ap (λ b. cond (b && is_short (v.Str s)) (Ok (v.Str s)) (Err TooLarge)) e

pub limited_past_text : (made rest all : List ℕ) (e : EvalFault) → IsPastText made e → made ++ rest ≡ all → (c : EvalCode) → e ≡ Code c → limited (v.Str all) ≡ Err c
limited_past_text made rest all e past whole c h = ap (λ z. limited (v.Str z)) (sym whole) ∙ past c h rest

-- a fault that is handed on
pub handed_on : {A : Type 0} (r : Result A EvalFault) (e : EvalFault) (P : EvalFault → Type 0) → IsErr r × IsErrAnd r (λ y. y ≡ e) → P e → IfErr r P
handed_on (Ok x) e P h p = absurd h.1
handed_on (Err y) e P h p = subst P (sym h.1) p
