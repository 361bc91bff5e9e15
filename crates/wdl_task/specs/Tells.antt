-- What a call gives: what the definition says, unless memory runs out.
use Rattle.std.specs.Prelude.{◌≡◌, ℕ, List, Result, Ok, Err}
use Rattle.wdl_base.specs.declared.fault.Why.{Why}
use Rattle.wdl_base.specs.declared.fault.Why.TheVariants.{Code as CodeOf}
use Rattle.wdl_stdlib.specs.declared.fault.EvalFault.{EvalFault}
use Rattle.wdl_stdlib.specs.declared.fault.EvalFault.TheVariants.{Code, NoMemory}
use Rattle.wdl_typed.specs.Requests.{Tried}
use Rattle.wdl_task.specs.declared.fault.CallFault.{CallFault}
use Rattle.wdl_task.specs.declared.fault.CallFault.TheVariants.{Bad, NoMemory as OutOfMemory}

-- a failure of that name and cause, or want of memory
abbrev pub Failed : List ℕ → Why → CallFault → Type 0
Failed name why (Bad n w) = (n ≡ name) × (w ≡ why)
Failed name why OutOfMemory = Unit {0}

abbrev pub Fails : {A : Type 0} → Tried A → CallFault → Type 0
Fails outcome (Bad n w) = outcome ≡ Err (record { name = n; why = w })
Fails outcome OutOfMemory = Unit {0}

abbrev pub Tells : {A : Type 0} → Tried A → Result A CallFault → Type 0
Tells outcome (Ok a) = outcome ≡ Ok a
Tells outcome (Err e) = Fails outcome e

-- a code under a name, or want of memory
abbrev pub IsCoded : {A : Type 0} → List ℕ → EvalFault → Result A CallFault → Type 0
IsCoded name e (Ok a) = ⊥
IsCoded name (Code c) (Err f) = Failed name (CodeOf c) f
IsCoded name NoMemory (Err f) = f ≡ OutOfMemory

-- the value, or its code under a name
abbrev pub IsNamed : {A : Type 0} → List ℕ → Result A EvalFault → Result A CallFault → Type 0
IsNamed name (Ok a) result = result ≡ Ok a
IsNamed name (Err e) result = IsCoded name e result
