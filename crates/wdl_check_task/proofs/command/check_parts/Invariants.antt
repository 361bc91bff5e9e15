use Rattle.std.proofs.Common.{[], drop, map}
use Rattle.wdl_check_decls.specs.Expressions.{world}
use Rattle.wdl_check_decls.proofs.ListLaws.{Leads}
use Rattle.wdl_check_task.specs.Command.{parts_behind}
use Rattle.wdl_check_task.proofs.command.check_parts.Given as goal

abbrev pub invariant-loop-part : goal.invariant-loop-part
invariant-loop-part l =
    Leads (parts_behind (world l.seeing) l.names (map (λ p. p.now) l.parts) l.command (drop l.part-index l.template))
    (parts_behind (world l.seeing) l.names (map (λ p. p.now) l.parts) [] l.template)
