-- What the evaluation of a node gives: what the definition meets, unless memory runs out.
use Rattle.std.specs.Prelude.{◌≡◌, ◌≢◌, Option, Some, None, Result, Ok, Err}
use denote.Ref.{Bor}
use Rattle.wdl_base.specs.declared.fault.EvalCode.{EvalCode}
use Rattle.wdl_typed.specs.Evaluation.{Met}
use Rattle.wdl_eval.specs.declared.fault.NodeFault.{NodeFault}
use Rattle.wdl_eval.specs.declared.fault.NodeFault.TheVariants.{Code, Wrong, NoMemory as OutOfMemory}

-- the code that is met, or none for a part of a wrong kind
abbrev pub code_met : NodeFault → Option EvalCode
code_met (Code c) = Some c
code_met Wrong = None
code_met OutOfMemory = None

abbrev pub Meets : {A : Type 0} → Met A → Result A NodeFault → Type 0
Meets outcome (Ok a) = outcome ≡ Ok a
Meets outcome (Err e) = e ≢ OutOfMemory → outcome ≡ Err (code_met e)

-- the same of what is lent
abbrev pub Lends : {A : Type 0} → Met A → Result (Bor A) NodeFault → Type 0
Lends outcome (Ok a) = outcome ≡ Ok a.now
Lends outcome (Err e) = e ≢ OutOfMemory → outcome ≡ Err (code_met e)
