use Rattle.std.proofs.Common.{◌≡◌, map, take}
use Rattle.serde_json.specs.View.{view}
use Rattle.cwl_emit.specs.Writing.{step_written, with_json}
use Rattle.cwl_emit.proofs.process.+processes.Given as goal

abbrev pub invariant-steps_json-loop-step : goal.invariant-steps_json-loop-step
invariant-steps_json-loop-step l = map view l.items.items ≡ map step_written (map with_json (take l.step-index l.steps))
