use Rattle.std.proofs.Common.{subst, List}
use Rattle.wdl_value.specs.declared.ty.StructDef.{StructDef}
use Rattle.wdl_typed.specs.Bodies.{library}
use Rattle.wdl_json.specs.Inputs.{Gives, inputs_in}
use Rattle.wdl_json.proofs.InputsFit.{answer_fits}
use Rattle.wdl_json.proofs.inputs.inputs_of.Goals as goal

pub returns-clause-fit : goal.returns-clause-fit
returns-clause-fit c = λ f at.
    let checked = c.args.checked.now in
    answer_fits (library checked.structs checked.tasks checked.flows) checked.main f c.main_flow.result.now c.args.bytes.now c.flow_inputs.result checked.kept at c.main_flow.ensures
    (subst (λ (structs : List StructDef). Gives (inputs_in structs c.main_flow.result.now c.args.bytes.now) c.flow_inputs.result) c.as_slice.ensures c.flow_inputs.ensures.value)
