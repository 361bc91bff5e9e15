-- What a step promises: all went well, or the flow is too many, or memory ran out.
use Rattle.std.specs.Prelude.{Result, Ok, Err}
use Rattle.plan_steps.specs.declared.fault.PlanFault.{PlanFault}
use Rattle.plan_steps.specs.declared.fault.PlanFault.TheVariants.{TooMany, NoMemory}

abbrev pub Passes : {A : Type 0} → Type 0 → Type 0 → Result A PlanFault → Type 0
Passes P Q (Ok a) = P
Passes P Q (Err TooMany) = Q
Passes P Q (Err NoMemory) = Unit {0}
