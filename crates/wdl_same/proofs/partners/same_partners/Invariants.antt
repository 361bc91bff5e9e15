use Rattle.std.proofs.Common.{◌≡◌, drop}
use Rattle.wdl_same.specs.Partners.{same_partners}
use Rattle.wdl_same.proofs.partners.same_partners.Given as goal

abbrev pub invariant-loop-task : goal.invariant-loop-task
invariant-loop-task l = same_partners l.others (drop l.task-index l.tasks) l.left ≡ same_partners l.others l.tasks l.partners
