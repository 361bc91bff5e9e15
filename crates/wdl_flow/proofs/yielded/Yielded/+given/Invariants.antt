use Rattle.std.proofs.Common.{◌≡◌, drop}
use Rattle.wdl_flow.specs.Given.{all_names, both}
use Rattle.wdl_flow.specs.Views.{given_of}
use Rattle.wdl_flow.proofs.yielded.Yielded.+given.Given as goal

abbrev pub invariant-add_body-loop-statement : goal.invariant-add_body-loop-statement
invariant-add_body-loop-statement l =
    both (given_of l.self) (all_names l.checked.tasks l.checked.flows (drop l.statement-index l.body))
    ≡ both (given_of l.initial.self) (all_names l.checked.tasks l.checked.flows l.body)
