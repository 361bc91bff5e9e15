-- One step more of a loop over a list, and failures.
use Rattle.std.proofs.Common.{◌≡◌, ℕ, ◌+◌, ◌<◌, List, ◌∷◌, drop, length, get_or, Ok, Err, sym, ap, ◌∙◌}
use Rattle.std.proofs.lemmas.List.{drop_more}
use Rattle.wdl_base.specs.declared.fault.EvalCode.{EvalCode}
use Rattle.wdl_value.specs.Outcome.{Outcome, and_then}
use Rattle.wdl_stdlib.specs.declared.fault.EvalFault.{EvalFault}
use Rattle.wdl_stdlib.specs.declared.fault.EvalFault.TheVariants.{Code}
use Rattle.wdl_typed.specs.Requests.{Tried, tried}
use Rattle.wdl_task.specs.declared.fault.CallFault.{CallFault}
use Rattle.wdl_task.specs.declared.fault.CallFault.TheVariants.{Bad, NoMemory as OutOfMemory}
use Rattle.wdl_task.specs.Tells.{Fails}

-- ---- lists

pub cut : {A : Type 0} (xs : List A) (i : ℕ) (x : A) → x ≡ get_or xs i x → i < length xs → drop i xs ≡ x ∷ drop (i + 1) xs
cut xs i x at below = drop_more xs i x below ∙ ap (λ z. z ∷ drop (i + 1) xs) (sym at)

-- ---- failures

-- What failed stays failed.
pub fails_tried : {A B : Type 0} (o : Tried A) (f : A → Tried B) (e : CallFault) → Fails o e → Fails (tried o f) e
fails_tried o f OutOfMemory h = tt
fails_tried (Ok a) f (Bad n w) h = absurd (cc)
fails_tried (Err x) f (Bad n w) h = cc

-- a code, or want of memory
abbrev pub Codes : {A : Type 0} → Outcome A → EvalFault → Type 0
Codes outcome e = (c : EvalCode) → e ≡ Code c → outcome ≡ Err c

pub codes_then : {A B : Type 0} (o : Outcome A) (f : A → Outcome B) (e : EvalFault) → Codes o e → Codes (and_then o f) e
codes_then (Ok a) f e h c is = absurd (impossible (h c is))
  where
    impossible : {A : Type 0} {a : A} {c : EvalCode} → (let o : Outcome A = Ok a in o ≡ Err c) → ⊥
    impossible k = cc
codes_then (Err d) f e h c is = let k = h c is in cc
