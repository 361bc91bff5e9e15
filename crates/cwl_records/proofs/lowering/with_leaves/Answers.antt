use Rattle.std.proofs.Common.{sym, ◌∙◌}
use Rattle.std.proofs.lemmas.Result.{IfOk-weaker}
use Rattle.cwl_records.specs.Outcomes.{IsLoweredBy, WithLeaves}
use Rattle.cwl_records.proofs.Outcomes.{some_replaced}
use Rattle.cwl_records.proofs.lowering.with_leaves.Goals as goal

pub returns : goal.returns
returns c =
    let tried = c.in_ok-tried.tried in
    let made = c.in-Some.field-0 in
    IfOk-weaker c.lowered_by.result (IsLoweredBy tried.checked tried.is_new made.records c.args.source) (WithLeaves c.args.checked c.args.main c.args.source)
    (λ l by. some_replaced c.args.checked tried.checked c.args.main c.args.source made.flows made.records tried.is_new l c.requires (sym c.in_ok-flows.ensures ∙ c.in-Some.is) c.in_ok-tried.ensures by)
    c.lowered_by.ensures
