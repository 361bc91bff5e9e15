use Rattle.std.proofs.Common.{◌≡◌, map, take}
use Rattle.serde_json.specs.View.{view}
use Rattle.cwl_emit.specs.Writing.{code_json}
use Rattle.cwl_emit.proofs.tool.codes_json.Given as goal

abbrev pub invariant-loop-code : goal.invariant-loop-code
invariant-loop-code l = map view l.items.items ≡ map code_json (take l.code-index l.codes)
