use Rattle.std.proofs.Common.{false, ap, ◌≡◌, ◌∙◌}
use Rattle.serde_json.specs.View.{view}
use Rattle.serde_json.specs.Written.{compact_text, has_float}
use Rattle.wdl_base.specs.Plain.{has_nul}
use Rattle.wdl_json.proofs.Texts.{value_exact}
use Rattle.input_form.proofs.line.value_text.Goals as goal
use Rattle.json_laws.proofs.Texts.{text_nul}

pub from_string-requires : goal.from_string-requires
from_string-requires c =
    let exact : has_float (view c.in_ok-json.json) ≡ false = ap has_float c.in_ok-json.ensures.value ∙ value_exact c.args.value.now in
    ap has_nul (c.in_ok-to_string.ensures.text exact) ∙ text_nul (view c.in_ok-json.json)

pub returns : goal.returns
returns c =
    let exact : has_float (view c.in_ok-json.json) ≡ false = ap has_float c.in_ok-json.ensures.value ∙ value_exact c.args.value.now in
    c.from_string.ensures ∙ c.in_ok-to_string.ensures.text exact ∙ ap compact_text c.in_ok-json.ensures.value
