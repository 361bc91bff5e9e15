-- Files that are laid down, and calls that lay them down.
use Rattle.std.proofs.Common.{◌≡◌, ℕ, ◌+◌, ◌-◌, ◌^◌, ◌≤◌, ◌<◌, min, Bool, true, false, ◌&&◌, cond, List, [], ◌∷◌, ◌++◌, length, get_or, map, Option, Some, None, Ok, Err, sym, ap, ◌∙◌, subst, refl, arith, length-append}
use Rattle.std.proofs.lemmas.Bool.Decides.{nat_tests}
use denote.Ref.{Bor}
use Rattle.wdl_base.specs.declared.body.Laid.{Laid}
use Rattle.wdl_base.specs.declared.fault.EvalCode.TheVariants.{TooLarge}
use Rattle.wdl_value.specs.declared.operator.Func.{Func}
use Rattle.wdl_value.specs.declared.value.Value.{Value}
use Rattle.wdl_value.specs.FunctionTypes.{writes}
use Rattle.wdl_value.specs.Outcome.{Outcome, and_then}
use Rattle.wdl_value.specs.Written.{short_texts, written, written_name, written_within}
use Rattle.wdl_typed.specs.declared.expr.TExpr.{TExpr, TExpr-F, map-TExpr}
use Rattle.wdl_typed.specs.declared.expr.TExpr.TheVariants as e
use Rattle.wdl_typed.specs.Requests.{laid_size, next_file}
use Rattle.wdl_task.specs.Calls.{AreLaid, Call, IsCall, call_of, call_step, first_call, laid_bytes, named_value, stored_value, with_file}
use Rattle.wdl_task.proofs.CallOut.{call_out, with_call}

-- ---- sizes

size_more : (files : List Laid) (x : Laid) → laid_size (files ++ x ∷ []) ≡ laid_size files + (length x.name + length x.body)
size_more [] x = omega arith
size_more (f ∷ files) x = let rest = size_more files x in omega arith

-- What is too much stays so.
no_more : (b : Bool) (n m : ℕ) → n ≤ m → (b && written_within n) ≡ false → (b && written_within m) ≡ false
no_more false n m h e = refl
no_more true n m h e = grind (arith, nat_tests)

pub too_large : (f : Func) (x : Value) (files : List Laid) → (short_texts f x && written_within (length (written f x))) ≡ false → with_file f x files ≡ Err TooLarge
too_large f x files h =
    let more = size_more files (next_file f x files) in
    let past : length (written f x) ≤ laid_size (files ++ next_file f x files ∷ []) = omega arith in
    ap (λ b. cond b (Ok (files ++ next_file f x files ∷ [])) (Err TooLarge)) (no_more (short_texts f x) (length (written f x)) (laid_size (files ++ next_file f x files ∷ [])) past h)

name_is_long : (k : ℕ) → 1 ≤ length (written_name k)
name_is_long k = omega arith

least : (a b c : ℕ) → min a b ≤ c → c < b → a ≤ c
least a b c h k = omega arith

pub laid_more : (files more : List Laid) (x : Laid) (n k : ℕ) → AreLaid files → more ≡ files ++ x ∷ [] → x.name ≡ written_name k → n ≡ laid_bytes more → n ≤ 4194304 → AreLaid more
laid_more files more x n k laid is name e h =
    let size : laid_size more ≡ laid_size files + (length x.name + length x.body) = ap laid_size is ∙ size_more files x in
    let count : length more ≡ length files + 1 = ap length is ∙ length-append files (x ∷ []) in
    let long : 1 ≤ length x.name = subst (λ s. 1 ≤ length s) (sym name) (name_is_long k) in
    let before = laid.counted in
    let small : min (laid_size more) (2 ^ 64 - 1) ≤ 4194304 = subst (λ m. m ≤ 4194304) e h in
    record { counted = omega arith; limited = least (laid_size more) (2 ^ 64 - 1) 4194304 small (omega arith) }

pub stored_is : (x : TExpr) (f : Func) (y : Value) (files more : List Laid) (name : List ℕ) (n : ℕ) → with_file f y files ≡ Ok more → name ≡ written_name n → n ≡ length files
    → named_value x name more ≡ stored_value x f y files
stored_is x f y files more name n made is count =
    ap (λ s. named_value x s more) (is ∙ ap written_name count) ∙ ap (λ (o : Outcome (List Laid)). and_then o (named_value x (written_name (length files)))) (sym made)

-- ---- calls

call_apply : (x : TExpr) (f : Func) (es : List TExpr) → x ≡ e.Apply f es → writes f ≡ true → call_of x ≡ first_call f (map with_call es)
call_apply x f es is w =
    ap call_of is ∙ call_out (e.Apply f es)
    ∙ ap (λ (y : TExpr-F TExpr). call_step (map-TExpr TExpr (TExpr × Option Call) with_call y)) (e.outs-Apply f es)
    ∙ ap (λ b. cond b (first_call f (map with_call es)) None) w

pub call_empty : (x : TExpr) (f : Func) (es : List TExpr) → x ≡ e.Apply f es → writes f ≡ true → length es < 1 → IsCall (call_of x) None
call_empty x f [] is w h = subst (λ (o : Option Call). IsCall o None) (sym (call_apply x f [] is w)) tt
call_empty x f (y ∷ es) is w h = absurd (omega arith)

pub call_first : (x : TExpr) (f : Func) (es : List TExpr) (p : Func × Bor TExpr) → x ≡ e.Apply f es → writes f ≡ true → 1 ≤ length es → f ≡ p.0 → p.1.now ≡ get_or es 0 p.1.now → IsCall (call_of x) (Some p)
call_first x f [] p is w h g at = absurd (omega arith)
call_first x f (y ∷ es) p is w h g at = subst (λ (o : Option Call). IsCall o (Some p)) (sym (call_apply x f (y ∷ es) is w)) (g, sym at)

pub call_none : (o : Option Call) → IsCall o None → o ≡ None
call_none None h = refl
call_none (Some k) h = absurd h

pub call_some : (o : Option Call) (p : Func × Bor TExpr) → IsCall o (Some p) → o ≡ Some (record { func = p.0; argument = p.1.now })
call_some None p h = absurd h
call_some (Some k) p h =
    let made : Func → TExpr → Call = λ f a. record { func = f; argument = a } in
    ap (λ f. Some (made f k.argument)) h.0 ∙ ap (λ a. Some (made p.0 a)) h.1
