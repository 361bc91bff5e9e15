use Rattle.std.proofs.Common.{◌≡◌, ◌∙◌, ap, sym, length}
use Rattle.std.proofs.lemmas.Result.{IfOk-weaker}
use Rattle.wdl_base.specs.Templates.{holes}
use Rattle.command_text.specs.Marks.{zeros}
use Rattle.command_text.proofs.Zeros.{template_holes}
use Rattle.command_text.proofs.dedenting.dedent.Goals as goal

pub returns-clause-holes : goal.returns-clause-holes
returns-clause-holes c =
    let numbers = c.as_slice-2.ensures.value ∙ c.in_ok-marked.ensures.holes in
    let counted : zeros c.as_str-2.result.now ≡ length c.as_slice-2.result.now =
    ap zeros c.as_str-2.ensures.value ∙ (c.in_ok-text.ensures.holes
    ∙ (ap zeros (c.as_str.ensures.value ∙ c.in_ok-marked.ensures.text) ∙ (c.in_ok-marked.ensures.counted ∙ ap length (sym numbers)))) in
    IfOk-weaker c.template_of.result _ _
    (λ t h. ap holes h ∙ (template_holes c.as_str-2.result.now c.as_slice-2.result.now counted
    ∙ (numbers ∙ ap holes c.as_slice.ensures))) c.template_of.ensures
