use Rattle.std.proofs.Common.{◌≡◌, [], drop}
use Rattle.wdl_typed.specs.Bodies.{arg_names}
use Rattle.wdl_check_decls.proofs.ListLaws.{Leads}
use Rattle.wdl_check_flow.specs.Calls.{arguments_behind}
use Rattle.wdl_check_flow.specs.Given.{seen_of}
use Rattle.wdl_check_flow.specs.Targets.{offer_of, place_of}
use Rattle.wdl_check_flow.proofs.call.check_arguments.Given as goal

abbrev pub invariant-loop-argument : goal.invariant-loop-argument
invariant-loop-argument l = record {
  given : l.given ≡ arg_names l.done;
  leads : Leads
      (arguments_behind (place_of l.context) (seen_of l.visible) (offer_of l.callable) l.done (drop l.argument-index l.arguments))
      (arguments_behind (place_of l.context) (seen_of l.visible) (offer_of l.callable) [] l.arguments);
}
