use Rattle.std.proofs.Common.{◌≡◌, ◌++◌, drop, map}
use Rattle.wdl_check_doc.specs.Offered.{offer_of}
use Rattle.wdl_check_doc.specs.Offers.{task_offers}
use Rattle.wdl_check_doc.proofs.offer.offered_tasks.Given as goal

abbrev pub invariant-loop-task : goal.invariant-loop-task
invariant-loop-task l = map offer_of l.all.items ++ task_offers l.number (drop l.task-index l.tasks) ≡ task_offers 0 l.tasks
