use Rattle.std.proofs.Common.{◌≡◌, ◌++◌, drop}
use Rattle.wdl_same.specs.Partners.{all_called}
use Rattle.wdl_same.proofs.calls.+calls.Given as goal

abbrev pub invariant-push_all_called-loop-statement : goal.invariant-push_all_called-loop-statement
invariant-push_all_called-loop-statement l =
    l.numbers ++ all_called (drop l.statement-index l.body) ≡ l.initial.numbers ++ all_called l.body
