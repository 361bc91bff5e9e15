-- A value that is lent or made.
use Rattle.std.specs.Prelude.{◌≡◌, ◌≢◌, Option, Some, None, Result, Ok, Err}
use denote.Ref.{Bor}
use Rattle.wdl_value.specs.declared.value.Value.{Value}
use Rattle.wdl_typed.specs.Evaluation.{Met}
use Rattle.wdl_eval.specs.declared.fault.NodeFault.{NodeFault}
use Rattle.wdl_eval.specs.declared.fault.NodeFault.TheVariants.{NoMemory as OutOfMemory}
use Rattle.wdl_eval.specs.declared.lent.Found.{Found}
use Rattle.wdl_eval.specs.declared.lent.Found.TheVariants.{Lent, Made}
use Rattle.wdl_eval.specs.Meets.{code_met}

abbrev pub held : Found → Value
held (Lent x) = x.now
held (Made x) = x

-- the value that is met, where one is offered
abbrev pub Offers : Met Value → Result (Option (Bor Value)) NodeFault → Type 0
Offers outcome (Ok None) = Unit {0}
Offers outcome (Ok (Some x)) = outcome ≡ Ok x.now
Offers outcome (Err e) = e ≢ OutOfMemory → outcome ≡ Err (code_met e)

-- what is met, lent or made
abbrev pub Finds : Met Value → Result Found NodeFault → Type 0
Finds outcome (Ok f) = outcome ≡ Ok (held f)
Finds outcome (Err e) = e ≢ OutOfMemory → outcome ≡ Err (code_met e)
