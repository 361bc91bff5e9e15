use Rattle.std.proofs.Common.{◌≡◌}
use Rattle.work_desk.proofs.desk.Desk.take_answer.Given as goal

abbrev pub invariant-loop : goal.invariant-loop
invariant-loop g l = l.shares ≡ l.initial.shares
