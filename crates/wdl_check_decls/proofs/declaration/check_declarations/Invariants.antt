use Rattle.std.proofs.Common.{◌≡◌, [], ◌++◌, drop, map}
use Rattle.wdl_typed.specs.Declarations.{decls_bound}
use Rattle.wdl_typed.specs.Order.{picked}
use Rattle.wdl_check_decls.specs.Declarations.{decls_behind}
use Rattle.wdl_check_decls.specs.Expressions.{world}
use Rattle.wdl_check_decls.proofs.ListLaws.{Leads}
use Rattle.wdl_check_decls.proofs.declaration.check_declarations.Given as goal

abbrev pub invariant-loop-position : goal.invariant-loop-position
invariant-loop-position l = record {
  leads : Leads
      (decls_behind l.standing (world l.seeing) l.fn.names l.done (picked (map (λ d. d.now) l.list) (drop l.position-index l.position-items)))
      (decls_behind l.standing (world l.seeing) l.fn.names [] (picked (map (λ d. d.now) l.list) l.position-items));
  names : l.names ≡ l.fn.names ++ decls_bound l.done;
}
