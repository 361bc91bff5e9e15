use Rattle.std.proofs.Common.{◌≡◌, false, sym, ap, ◌∙◌}
use Rattle.serde_json.specs.View.{view}
use Rattle.serde_json.specs.Written.{has_float, compact_text}
use Rattle.wdl_base.specs.Plain.{has_nul}
use Rattle.json_values.specs.Ordered.{is_ordered}
use Rattle.cwl_records.proofs.WideExact.{wide_exact}
use Rattle.cwl_records.proofs.WideProcesses.{wide_is}
use Rattle.cwl_records.proofs.writing.record_text.Goals as goal
use Rattle.json_laws.proofs.Texts.{text_nul}

pub from_string-requires : goal.from_string-requires
from_string-requires c =
    let j = view c.in_ok-json.json in
    let exact : has_float j ≡ false = ap has_float c.in_ok-json.ensures ∙ wide_exact c.args.process.now in
    ap has_nul (c.in_ok-to_string.ensures.text exact) ∙ text_nul j

pub returns : goal.returns
returns c =
    let j = view c.in_ok-json.json in
    let p = c.args.process.now in
    let exact : has_float j ≡ false = ap has_float c.in_ok-json.ensures ∙ wide_exact p in
    let is_text = c.from_string.ensures ∙ c.in_ok-to_string.ensures.text exact in
    record {
      value = λ has.
          let is = wide_is has.0 p has.1 in
          record {
            json = has.0;
            stands = has.1;
            ordered = ap is_ordered is.same ∙ is.ordered;
            written = is_text ∙ ap compact_text (c.in_ok-json.ensures ∙ sym is.same);
          };
      written = is_text ∙ ap compact_text c.in_ok-json.ensures;
    }
