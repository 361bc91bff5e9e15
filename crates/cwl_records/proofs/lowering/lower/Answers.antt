use Rattle.std.proofs.Common.{slice_get, ap, ◌∙◌}
use Rattle.std.proofs.lemmas.Result.{IfOk-weaker}
use Rattle.leaf_image.specs.Records.{inputs_at}
use Rattle.cwl_records.specs.Outcomes.{IsLowered, WithLeaves}
use Rattle.cwl_records.proofs.Outcomes.{lowers}
use Rattle.cwl_records.proofs.lowering.lower.Goals as goal

pub returns : goal.returns
returns c =
    let tried = c.in_ok-tried.tried in
    IfOk-weaker c.with_leaves.result (WithLeaves tried.checked c.in-Some.main c.in_ok-source.source) (IsLowered c.args.checked)
    (λ l w. lowers c.args.checked tried.checked c.in-Some.main c.in_ok-flows.flows c.in_ok-source.source tried.is_new l c.in-Some.is c.in_ok-flows.ensures
    (c.in_ok-source.ensures ∙ c.inputs_at.ensures ∙ ap (λ fs. inputs_at (slice_get fs c.in-Some.main)) c.as_slice.ensures) c.in_ok-tried.ensures w)
    c.with_leaves.ensures
