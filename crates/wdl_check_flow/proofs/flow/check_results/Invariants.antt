use Rattle.std.proofs.Common.{[], drop, map}
use Rattle.wdl_typed.specs.Order.{picked}
use Rattle.wdl_check_decls.specs.Expressions.{world}
use Rattle.wdl_check_decls.proofs.ListLaws.{Leads}
use Rattle.wdl_check_flow.specs.Flows.{results_behind}
use Rattle.wdl_check_flow.proofs.flow.check_results.Given as goal

abbrev pub invariant-loop-position : goal.invariant-loop-position
invariant-loop-position l =
    Leads (results_behind (world l.seeing) l.done (picked (map (λ d. d.now) l.list) (drop l.position-index l.position-items)))
    (results_behind (world l.seeing) [] (picked (map (λ d. d.now) l.list) l.position-items))
