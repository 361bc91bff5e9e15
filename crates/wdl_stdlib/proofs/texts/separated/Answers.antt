use Rattle.std.proofs.Common.{◌++◌, ◌∙◌, refl, rules}
use Rattle.std.specs.List.{flat_map}
use Rattle.wdl_value.specs.declared.value.Value.{Value}
use Rattle.wdl_value.specs.ValueText.{text_of}
use Rattle.wdl_stdlib.proofs.Past.{part_more, limited_past_text}
use Rattle.wdl_stdlib.proofs.texts.separated.Goals as goal

pub returns-in_err-text-in-len1-up-2 : goal.returns-in_err-text-in-len1-up-2
returns-in_err-text-in-len1-up-2 c =
    let g = λ (y : Value). c.args.between.now ++ text_of y in
    let e = part_more (flat_map g) g (λ x xs. refl) c.loop-item.text _ c.loop-item.item-index c.item-item.result c.item-item.is c.loop-item-test.true in
    let k = limited_past_text _ _ _ _ c.in_err-text-in-len1-up-2.ensures.past (e ∙ c.loop-item.invariant) in
    search rules
