use Rattle.std.proofs.Common.{◌≡◌, [], drop, map}
use Rattle.wdl_typed.specs.Declarations.{inputs_bound}
use Rattle.wdl_typed.specs.Order.{picked}
use Rattle.wdl_check_decls.specs.Declarations.{inputs_behind}
use Rattle.wdl_check_decls.specs.Expressions.{world}
use Rattle.wdl_check_decls.proofs.ListLaws.{Leads}
use Rattle.wdl_check_decls.proofs.input.check_inputs.Given as goal

abbrev pub invariant-loop-position : goal.invariant-loop-position
invariant-loop-position l = record {
  leads : Leads
      (inputs_behind (world l.seeing) l.done (picked (map (λ i. i.now) l.list) (drop l.position-index l.position-items)))
      (inputs_behind (world l.seeing) [] (picked (map (λ i. i.now) l.list) l.position-items));
  names : l.names ≡ inputs_bound l.done;
}
