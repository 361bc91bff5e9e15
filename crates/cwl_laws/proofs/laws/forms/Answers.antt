use Rattle.cwl_laws.proofs.Bodies.{bodies_agree}
use Rattle.cwl_laws.proofs.Callees.{callee_agrees}
use Rattle.cwl_laws.proofs.Conditions.{if_simulates}
use Rattle.cwl_laws.proofs.FlowCalls.{flow_call_simulates}
use Rattle.cwl_laws.proofs.Scatters.{scatter_simulates}
use Rattle.cwl_laws.proofs.TaskCalls.{call_simulates}
use Rattle.cwl_laws.proofs.laws.forms.Goals as goal

pub returns : goal.returns
returns c =
    record {
      bodies = bodies_agree;
      conditions = if_simulates;
      scatters = scatter_simulates;
      task_calls = call_simulates;
      flow_calls = flow_call_simulates;
      callees = callee_agrees;
    }
