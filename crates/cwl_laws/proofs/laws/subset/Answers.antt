use Rattle.cwl_laws.proofs.CallRules.{flow_call_kept, task_call_kept}
use Rattle.cwl_laws.proofs.References.{reads_among}
use Rattle.cwl_laws.proofs.Tools.{inputs_are, task_inputs, tool_is}
use Rattle.cwl_laws.proofs.laws.subset.Goals as goal

pub returns : goal.returns
returns c =
    record {
      tasks = tool_is;
      task_inputs = task_inputs;
      inputs = inputs_are;
      references = reads_among;
      task_calls = task_call_kept;
      flow_calls = flow_call_kept;
    }
