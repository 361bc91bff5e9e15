-- What each event does to the counts of a run.
use Rattle.std.specs.Prelude.{ℕ, zero, suc, ◌-◌, Bool, true, false}
use Rattle.wdl_port.specs.Memory.{counted}
use Rattle.run_notes.specs.declared.tally.Tally.{Tally}

-- an attempt behind the first one is of a job that had failed
abbrev pub attempted : ℕ → Tally → Tally
attempted zero t = t
attempted (suc n) t = record t { again = counted t.again; failed = t.failed - 1 }

abbrev pub begun : ℕ → Tally → Tally
begun attempt t = let u = attempted attempt t in record u { running = counted u.running }

abbrev pub kept : ℕ → Tally → Tally
kept attempt t = let u = attempted attempt t in record u { kept = counted u.kept; done = counted u.done }

abbrev pub given_up : Tally → Tally
given_up t = record t { running = t.running - 1 }

abbrev pub ended : Bool → Tally → Tally
ended true t = record t { running = t.running - 1; ran = counted t.ran; done = counted t.done }
ended false t = record t { running = t.running - 1; ran = counted t.ran; failed = counted t.failed }
