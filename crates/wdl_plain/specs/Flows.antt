-- What code gives: the flow of the definition, where it keeps the limits.
use Rattle.std.specs.Prelude.{◌≡◌, ℕ, true, false, [], Result, Ok, Err}
use Rattle.wdl_typed.specs.Flow as flow
use Rattle.wdl_plain.specs.declared.fault.PlainFault.{PlainFault}
use Rattle.wdl_plain.specs.declared.fault.PlainFault.TheVariants.{TooMany}
use Rattle.wdl_plain.specs.declared.flowing.Flowing.{Flowing}
use Rattle.wdl_plain.specs.Views.{flowing_of}

-- the flow, or its refusal where it is past a limit; nothing is said of want of memory
abbrev pub Flows : flow.Flowing → Result Flowing PlainFault → Type 0
Flows f (Ok g) = (flowing_of g ≡ f) × (flow.too_many f ≡ false)
Flows f (Err e) = e ≡ TooMany → flow.too_many f ≡ true

abbrev pub counted : ℕ → flow.Flowing
counted n = record { names = []; calls = []; jobs = []; codes = []; faults = []; waits = []; count = n }

-- a flow without its names and calls
abbrev pub quiet : flow.Flowing → flow.Flowing
quiet f = flow.with_names f [] []
