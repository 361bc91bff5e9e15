use Rattle.cwl_emit.proofs.Flows.{value_stands}
use Rattle.cwl_emit.proofs.process.process_value.Goals as goal

pub returns : goal.returns
returns c = record {
  value = value_stands c.process_json.result c.args.outermost c.args.process.now c.process_json.ensures;
  written = c.process_json.ensures;
}
