-- The values of the code as the definitions have them.
use Rattle.std.specs.Prelude.{◌≡◌, ℕ, ◌+◌, List, Result, Ok, Err}
use Rattle.wdl_base.specs.declared.fault.EvalCode.{EvalCode}
use Rattle.wdl_base.specs.declared.place.Segment.{Segment}
use Rattle.wdl_value.specs.Outcome.{Outcome}
use Rattle.wdl_stdlib.specs.declared.fault.EvalFault.{EvalFault}
use Rattle.wdl_stdlib.specs.declared.fault.EvalFault.TheVariants.{Code}
use Rattle.wdl_typed.specs.Requests as spec
use Rattle.wdl_typed.specs.Requests.{Asked, Tried, request}
use Rattle.wdl_task.specs.declared.command.Filled.{Filled}
use Rattle.wdl_task.specs.declared.fault.CallFault.{CallFault}
use Rattle.wdl_task.specs.declared.request.Prepared.{Prepared}
use Rattle.wdl_task.specs.declared.privates.Made.{Made}
use Rattle.wdl_task.specs.declared.writes.Laying.{Laying}
use Rattle.wdl_typed.specs.Statuses.{successes_of}
use Rattle.wdl_task.specs.Tells.{Fails}

abbrev pub laying_of : Laying → spec.Laying
laying_of l = record { value = l.value; files = l.files }

abbrev pub made_of : Made → spec.Prepared
made_of m = record { env = m.env; files = m.files }

abbrev pub filled_of : Filled → spec.Filled
filled_of f = record { text = f.text; files = f.files }

abbrev pub asked_of : Prepared → Asked
asked_of p =
    record {
      env = p.env;
      codes = successes_of p.codes;
      retries = p.retries;
      command = p.request.command;
      files = p.request.files;
      attributes = p.request.attributes;
      inputs = p.request.inputs;
      reads = p.request.reads;
    }

-- the same with the next attempt
abbrev pub next_of : List ℕ → Prepared → Prepared
next_of site p =
    record {
      request = request site p.request.place (p.request.attempt + 1) (asked_of p);
      env = p.env;
      codes = p.codes;
      retries = p.retries;
    }

-- what is given, by its view
abbrev pub GivesAs : {A B : Type 0} → (B → A) → Outcome A → Result B EvalFault → Type 0
GivesAs view outcome (Ok b) = outcome ≡ Ok (view b)
GivesAs view outcome (Err e) = (c : EvalCode) → e ≡ Code c → outcome ≡ Err c

-- what is told, by its view
abbrev pub TellsAs : {A B : Type 0} → (B → A) → Tried A → Result B CallFault → Type 0
TellsAs view outcome (Ok b) = outcome ≡ Ok (view b)
TellsAs view outcome (Err e) = Fails outcome e

-- what is asked, with the request of that site, place and attempt
abbrev pub Prepares : Tried Asked → List ℕ → List Segment → ℕ → Result Prepared CallFault → Type 0
Prepares outcome site place attempt (Ok p) = (outcome ≡ Ok (asked_of p)) × (p.request ≡ request site place attempt (asked_of p))
Prepares outcome site place attempt (Err e) = Fails outcome e
