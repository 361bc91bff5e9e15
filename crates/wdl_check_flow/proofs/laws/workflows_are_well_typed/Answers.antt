use Rattle.wdl_check_decls.proofs.WellTyped.{cast_types, decl_types, decls_types, expr_types, inputs_types}
use Rattle.wdl_check_flow.proofs.BodyGives.{body_well}
use Rattle.wdl_check_flow.proofs.FlowCounts.{flows_counted}
use Rattle.wdl_check_flow.proofs.FlowsNamed.{flows_named}
use Rattle.wdl_check_flow.proofs.FlowGives.{flow_well, heads_fit}
use Rattle.wdl_check_flow.proofs.laws.workflows_are_well_typed.Goals as goal

pub returns : goal.returns
returns c = record {
  bodies = λ lib p ss seen b of h. body_well expr_types cast_types decl_types lib p of ss seen b h;
  heads = heads_fit;
  lists = flow_well expr_types cast_types decl_types inputs_types decls_types;
  counts = flows_counted;
  names = flows_named;
}
