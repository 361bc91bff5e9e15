use Rattle.std.proofs.Common.{[], List, Err, map, rules}
use Rattle.wdl_check_types.specs.Outcome.{Answers, done, then_}
use Rattle.wdl_check_types.proofs.OutcomeLaws.{then_err, then_ok}
use Rattle.wdl_check_flow.specs.declared.flow.FlowRest.{FlowRest}
use Rattle.wdl_check_doc.specs.Flows.{flow_defs, flows_typed, rests_typed}
use Rattle.wdl_check_doc.specs.Outcomes.{each}
use Rattle.wdl_check_doc.specs.Parts.{part_of}
use Rattle.wdl_check_doc.specs.Runnables.{Headed, flows_of, head_in, headed_of}
use Rattle.wdl_check_doc.proofs.run.check_flows.Goals as goal

pub returns-in_err-rests : goal.returns-in_err-rests
returns-in_err-rests c =
    let structs = c.args.structs.now in
    let ps = map part_of c.args.parts.now in
    let tasks = c.args.tasks.now in
    let hs = map headed_of c.in_ok-heads.heads.items in
    let h : Answers (flows_typed structs ps tasks) (Err c.in_err-rests.field-0.0) =
    then_ok (each (head_in structs) [] (flows_of ps)) (λ (xs : List Headed). then_ (rests_typed structs ps tasks xs) (λ rs. done (flow_defs xs rs))) hs (Err c.in_err-rests.field-0.0)
    (search rules)
    (then_err (rests_typed structs ps tasks hs) (λ (rs : List FlowRest). done (flow_defs hs rs)) c.in_err-rests.field-0.0 (search rules)) in
    search rules
