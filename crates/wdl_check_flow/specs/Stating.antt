-- What code answers for a statement: the typed statement, and what is seen behind it.
use Rattle.std.specs.Prelude.{◌≡◌, List, Result, Ok, Err, Some}
use Rattle.wdl_typed.specs.declared.flow.Statement.{Statement}
use Rattle.wdl_typed.specs.Bodies.{Seen, joined}
use Rattle.wdl_check_rules.specs.declared.fault.CheckFault.{CheckFault}
use Rattle.wdl_check_types.specs.Outcome.{Answers, Outcome}
use Rattle.wdl_check_flow.specs.Bodies.{Typed_body}
use Rattle.wdl_check_flow.specs.Calls.{Stated}

-- the statement, behind which all that it gives is seen too; or a fault
abbrev pub States : Outcome Stated → Seen → Seen → Result Statement CheckFault → Type 0
States o before after (Ok s) = (given : Seen) × (o.typed ≡ Some (record { statement = s; given = given })) × (after ≡ joined before given)
States o before after (Err e) = Answers o (Err e)

-- the same of the statements of a body
abbrev pub StatesBody : Outcome Typed_body → Seen → Seen → Result (List Statement) CheckFault → Type 0
StatesBody o before after (Ok ss) = (given : Seen) × (o.typed ≡ Some (record { statements = ss; given = given })) × (after ≡ joined before given)
StatesBody o before after (Err e) = Answers o (Err e)
