-- What an evaluation gives: a value, or a code.
use Rattle.std.specs.Prelude.{Result, Ok, Err}
use Rattle.wdl_base.specs.declared.fault.EvalCode.{EvalCode}

abbrev pub Outcome : Type 0 → Type 0
Outcome A = Result A EvalCode

abbrev pub and_then : {A B : Type 0} → Outcome A → (A → Outcome B) → Outcome B
and_then (Ok a) f = f a
and_then (Err c) f = Err c
