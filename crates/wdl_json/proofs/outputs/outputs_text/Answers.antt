use Rattle.std.proofs.Common.{◌≡◌, false, ap, ◌∙◌}
use Rattle.serde_json.specs.View.{view}
use Rattle.serde_json.specs.Written.{has_float, compact_text}
use Rattle.wdl_base.specs.Plain.{has_nul}
use Rattle.wdl_json.proofs.Texts.{outputs_exact}
use Rattle.wdl_json.proofs.outputs.outputs_text.Goals as goal
use Rattle.json_laws.proofs.Texts.{text_nul}

pub from_string-requires : goal.from_string-requires
from_string-requires c =
    let exact : has_float (view c.in_ok-json.json) ≡ false = ap has_float c.in_ok-json.ensures ∙ outputs_exact c.args.flow.now c.args.outs.now in
    ap has_nul (c.in_ok-to_string.ensures.text exact) ∙ text_nul (view c.in_ok-json.json)

pub returns : goal.returns
returns c =
    let exact : has_float (view c.in_ok-json.json) ≡ false = ap has_float c.in_ok-json.ensures ∙ outputs_exact c.args.flow.now c.args.outs.now in
    record { value = c.from_string.ensures ∙ c.in_ok-to_string.ensures.text exact ∙ ap compact_text c.in_ok-json.ensures }
