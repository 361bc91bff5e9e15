-- A workflow to a depth, and its process.
use Rattle.std.proofs.Common.{◌≡◌, ℕ, suc, true, List, ◌++◌, map, length, Some, sym, ap, subst}
use Rattle.std.specs.List.{slice_get}
use Rattle.wdl_typed.specs.declared.flow.FlowDef.{FlowDef}
use Rattle.wdl_typed.specs.declared.flow.Statement.{fold-Statement}
use Rattle.wdl_typed.specs.Flow.{Part, Run, flow, flow_at, statement_step}
use Rattle.cwl_model.specs.declared.process.CwlFlow.{CwlFlow}
use Rattle.cwl_model.specs.Means.{Running, flow_means, running}
use Rattle.cwl_image.specs.Image.{Draft, Targets, body_links, body_steps, cwl_in, draft, flow_at as process_at, flow_image, flow_out, input_linkage, target_by}
use Rattle.cwl_laws.specs.Laws.{all_running}
use Rattle.cwl_laws.specs.Premises.{FlowsAgree, IsWorkflow}
use Rattle.cwl_laws.specs.Tools.{CalleeAgrees, drafts_of, ground_of, runners_of}
use Rattle.cwl_laws.proofs.Blocks.{running_flow}
use Rattle.cwl_laws.proofs.Workflows.{workflow_simulates}

-- A workflow whose statements agree with their steps agrees with its process.
pub callee_agrees : (r : Run) (depth k : ℕ) (f : FlowDef) → slice_get r.library.flows k ≡ Some f
    → IsWorkflow (ground_of r) r.library.structs f.inputs (runners_of r (flow r depth) f.body) (drafts_of r.library (flow_image r.library depth) f.body) f.outputs
    → CalleeAgrees r (flow r (suc depth)) k f (flow_image r.library (suc depth) k)
callee_agrees r depth k f there w given object place same met =
    subst (λ o. FlowsAgree f.outputs (flow_at r (flow r depth) o given place) (running (ground_of r) (process_at r.library processes o) true place object)) (sym there)
    (subst (FlowsAgree f.outputs (flow_at r (flow r depth) (Some f) given place)) (sym opened)
    (workflow_simulates (ground_of r) r.library.structs object given same f.inputs (runners_of r (flow r depth) f.body) (drafts_of r.library (flow_image r.library depth) f.body) f.outputs
    (length (map (fold-Statement Part (statement_step r (flow r depth))) f.body)) place w met))
  where
    processes : Targets
    processes = target_by r.library (flow_image r.library depth)

    ds : List Draft
    ds = map (draft r.library processes) f.body

    image : CwlFlow Running
    image =
        record {
          inputs = map cwl_in f.inputs;
          outputs = map (flow_out (map input_linkage f.inputs ++ body_links ds)) f.outputs;
          steps = all_running (ground_of r) (body_steps ds (map input_linkage f.inputs));
        }

    opened : running (ground_of r) (process_at r.library processes (Some f)) true place object ≡ flow_means image true place object
    opened =
        ap (λ (g : Running). g true place object) (running_flow (ground_of r) (map cwl_in f.inputs) (map (flow_out (map input_linkage f.inputs ++ body_links ds)) f.outputs) (body_steps ds (map input_linkage f.inputs)))
