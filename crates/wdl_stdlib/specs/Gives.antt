-- What a call gives: the value or the code of a definition, unless memory runs out.
use Rattle.std.specs.Prelude.{ℕ, ◌≡◌, ◌++◌, List, Result, Ok, Err}
use Rattle.wdl_base.specs.declared.fault.EvalCode.{EvalCode}
use Rattle.wdl_value.specs.declared.value.Value.{Value}
use Rattle.wdl_value.specs.declared.value.Value.TheVariants as v
use Rattle.wdl_value.specs.Limits.{limited}
use Rattle.wdl_value.specs.Outcome.{Outcome, and_then}
use Rattle.wdl_stdlib.specs.declared.fault.EvalFault.{EvalFault}
use Rattle.wdl_stdlib.specs.declared.fault.EvalFault.TheVariants.{Code}

abbrev pub Gives : {A : Type 0} → Outcome A → Result A EvalFault → Type 0
Gives outcome (Ok a) = outcome ≡ Ok a
Gives outcome (Err e) = (c : EvalCode) → e ≡ Code c → outcome ≡ Err c

-- The same for a value that is still to be limited: a code may also be that of the limits.
abbrev pub Makes : Outcome Value → Result Value EvalFault → Type 0
Makes outcome (Ok x) = outcome ≡ Ok x
Makes outcome (Err e) = (c : EvalCode) → e ≡ Code c → and_then outcome limited ≡ Err c

-- No list that begins with these items keeps the limits.
abbrev pub IsPast : List Value → EvalFault → Type 0
IsPast xs e = (c : EvalCode) → e ≡ Code c → (more : List Value) → limited (v.List (xs ++ more)) ≡ Err c

-- No text that begins so keeps the limits.
abbrev pub IsPastText : List ℕ → EvalFault → Type 0
IsPastText t e = (c : EvalCode) → e ≡ Code c → (more : List ℕ) → limited (v.Str (t ++ more)) ≡ Err c
