use Rattle.std.proofs.Common.{◌≡◌, string_bytes, ◌∙◌, rules}
use Rattle.wdl_json.specs.Inputs.{member_name}
use Rattle.wdl_json.proofs.NameSets.{input_added}
use Rattle.wdl_json.proofs.unknown.names_of.Goals as goal

pub loop-input-preserved : goal.loop-input-preserved
loop-input-preserved c = λ q.
    let named : string_bytes c.in_ok-from_str.field-0 ≡ member_name c.args.flow.now c.input-item.result.name = search rules in
    input_added c.args.flow.now q c.args.inputs.now c.loop-input.input-index c.input-item.result c.in_ok-from_str.field-0 c.loop-input.names c.insert.new.self
    c.loop-input-test.true c.input-item.is named c.in_ok-insert.ensures.updates
    ∙ c.loop-input.invariant q
