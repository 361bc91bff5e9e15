use Rattle.std.proofs.Common.{◌≡◌, ◌≤◌, ◌+◌, length, ap, sym, subst, ◌∙◌}
use Rattle.std.specs.Option.{option_copied}
use Rattle.std.proofs.lemmas.Option.{same_Some}
use Rattle.wdl_typed.specs.declared.task.TaskDef.{TaskDef}
use Rattle.value_net.specs.Nets.{view}
use Rattle.plan_layout.specs.declared.layout.StatementLayout.{StatementLayout}
use Rattle.plan_steps.specs.Doing.{field}
use Rattle.plan_bodies.specs.Bases.{last_base}
use Rattle.plan_steps.proofs.Concluding.{concluded_is, on_both, runs_as, told_as}
use Rattle.plan_steps.proofs.Standing.{same_bases, same_line, same_statement}
use Rattle.plan_steps.proofs.arrival.conclude_statement.Goals as goal

pub end_call-requires-clause-told : goal.end_call-requires-clause-told
end_call-requires-clause-told g c =
    let h = c.requires.can in
    let q = h.instance in
    let body = c.layout_of-body.ensures q h.body h.here.of_instance.there h.here.of_instance.body_there in
    let line : c.index-as_slice-number.result ≡ h.line = same_line c.layout_of-body.result.now h.body c.as_slice.result.now c.args.number c.index-as_slice-number.result h.line body c.as_slice.ensures h.here.line c.index-as_slice-number.is in
    let statement : c.index-statements-number.result ≡ h.statement =
    same_statement c.args.ground.now.checked.now.flows c.layout_of-body.result.now h.body h.flow c.as_slice-2.result.now c.body_of-statements.result.now c.args.number c.index-statements-number.result h.statement body c.as_slice-2.ensures c.body_of-statements.ensures h.here.of_instance.flow_there h.here.statement c.index-statements-number.is in
    let task : c.in-Some.task.now ≡ h.task = same_Some _ _ (sym (ap option_copied c.in-Some.is) ∙ c.task_of.ensures h.call h.number (statement ∙ h.is_call) h.target_is ∙ h.found) in
    let base : c.last_base-base.result ≡ last_base q.bases =
    c.last_base-base.ensures ∙ ap last_base (c.as_slice-4.ensures ∙ same_bases c.as_slice-3.result.now c.args.growth.now.entered.instances c.args.instance q c.in_ok-spot.spot c.as_slice-3.ensures c.in_ok-spot.ensures h.here.of_instance.there) in
    told_as c.args.ground.now.checked.now.structs c.in-Some.task.now h.task c.args.prepared.now task h.told

pub end_call-requires-clause-names : goal.end_call-requires-clause-names
end_call-requires-clause-names g c =
    let h = c.requires.can in
    let q = h.instance in
    let body = c.layout_of-body.ensures q h.body h.here.of_instance.there h.here.of_instance.body_there in
    let line : c.index-as_slice-number.result ≡ h.line = same_line c.layout_of-body.result.now h.body c.as_slice.result.now c.args.number c.index-as_slice-number.result h.line body c.as_slice.ensures h.here.line c.index-as_slice-number.is in
    let statement : c.index-statements-number.result ≡ h.statement =
    same_statement c.args.ground.now.checked.now.flows c.layout_of-body.result.now h.body h.flow c.as_slice-2.result.now c.body_of-statements.result.now c.args.number c.index-statements-number.result h.statement body c.as_slice-2.ensures c.body_of-statements.ensures h.here.of_instance.flow_there h.here.statement c.index-statements-number.is in
    let task : c.in-Some.task.now ≡ h.task = same_Some _ _ (sym (ap option_copied c.in-Some.is) ∙ c.task_of.ensures h.call h.number (statement ∙ h.is_call) h.target_is ∙ h.found) in
    let base : c.last_base-base.result ≡ last_base q.bases =
    c.last_base-base.ensures ∙ ap last_base (c.as_slice-4.ensures ∙ same_bases c.as_slice-3.result.now c.args.growth.now.entered.instances c.args.instance q c.in_ok-spot.spot c.as_slice-3.ensures c.in_ok-spot.ensures h.here.of_instance.there) in
    ap (λ (x : StatementLayout). x.names) line ∙ h.names ∙ sym (ap (λ (x : TaskDef). length x.outputs) task)

pub end_call-requires-clause-runs : goal.end_call-requires-clause-runs
end_call-requires-clause-runs g c =
    let h = c.requires.can in
    let q = h.instance in
    let body = c.layout_of-body.ensures q h.body h.here.of_instance.there h.here.of_instance.body_there in
    let line : c.index-as_slice-number.result ≡ h.line = same_line c.layout_of-body.result.now h.body c.as_slice.result.now c.args.number c.index-as_slice-number.result h.line body c.as_slice.ensures h.here.line c.index-as_slice-number.is in
    let statement : c.index-statements-number.result ≡ h.statement =
    same_statement c.args.ground.now.checked.now.flows c.layout_of-body.result.now h.body h.flow c.as_slice-2.result.now c.body_of-statements.result.now c.args.number c.index-statements-number.result h.statement body c.as_slice-2.ensures c.body_of-statements.ensures h.here.of_instance.flow_there h.here.statement c.index-statements-number.is in
    let task : c.in-Some.task.now ≡ h.task = same_Some _ _ (sym (ap option_copied c.in-Some.is) ∙ c.task_of.ensures h.call h.number (statement ∙ h.is_call) h.target_is ∙ h.found) in
    let base : c.last_base-base.result ≡ last_base q.bases =
    c.last_base-base.ensures ∙ ap last_base (c.as_slice-4.ensures ∙ same_bases c.as_slice-3.result.now c.args.growth.now.entered.instances c.args.instance q c.in_ok-spot.spot c.as_slice-3.ensures c.in_ok-spot.ensures h.here.of_instance.there) in
    runs_as (length (view c.args.growth.now.entered.net).values) c.last_base-base.result (last_base q.bases) c.index-as_slice-number.result h.line base line h.runs

pub returns-clause-done : goal.returns-clause-done
returns-clause-done g c =
    on_both _ _ _ c.end_call.result (λ net faults h.
    let q = h.instance in
    let body = c.layout_of-body.ensures q h.body h.here.of_instance.there h.here.of_instance.body_there in
    let line : c.index-as_slice-number.result ≡ h.line = same_line c.layout_of-body.result.now h.body c.as_slice.result.now c.args.number c.index-as_slice-number.result h.line body c.as_slice.ensures h.here.line c.index-as_slice-number.is in
    let statement : c.index-statements-number.result ≡ h.statement =
    same_statement c.args.ground.now.checked.now.flows c.layout_of-body.result.now h.body h.flow c.as_slice-2.result.now c.body_of-statements.result.now c.args.number c.index-statements-number.result h.statement body c.as_slice-2.ensures c.body_of-statements.ensures h.here.of_instance.flow_there h.here.statement c.index-statements-number.is in
    let task : c.in-Some.task.now ≡ h.task = same_Some _ _ (sym (ap option_copied c.in-Some.is) ∙ c.task_of.ensures h.call h.number (statement ∙ h.is_call) h.target_is ∙ h.found) in
    let base : c.last_base-base.result ≡ last_base q.bases =
    c.last_base-base.ensures ∙ ap last_base (c.as_slice-4.ensures ∙ same_bases c.as_slice-3.result.now c.args.growth.now.entered.instances c.args.instance q c.in_ok-spot.spot c.as_slice-3.ensures c.in_ok-spot.ensures h.here.of_instance.there) in
    concluded_is (field c.args.growth.now) (view c.end_call.new.net) c.end_call.new.faults c.args.prepared.now q.bases c.last_base-base.result c.index-as_slice-number.result h.line c.in-Some.task.now h.task c.args.ground.now.checked.now.structs c.args.answer.now base line task net faults)
    c.end_call.ensures.net c.end_call.ensures.faults

pub returns-clause-steps : goal.returns-clause-steps
returns-clause-steps g c = λ h.
    let q = h.instance in
    let body = c.layout_of-body.ensures q h.body h.here.of_instance.there h.here.of_instance.body_there in
    let line : c.index-as_slice-number.result ≡ h.line = same_line c.layout_of-body.result.now h.body c.as_slice.result.now c.args.number c.index-as_slice-number.result h.line body c.as_slice.ensures h.here.line c.index-as_slice-number.is in
    let statement : c.index-statements-number.result ≡ h.statement =
    same_statement c.args.ground.now.checked.now.flows c.layout_of-body.result.now h.body h.flow c.as_slice-2.result.now c.body_of-statements.result.now c.args.number c.index-statements-number.result h.statement body c.as_slice-2.ensures c.body_of-statements.ensures h.here.of_instance.flow_there h.here.statement c.index-statements-number.is in
    let task : c.in-Some.task.now ≡ h.task = same_Some _ _ (sym (ap option_copied c.in-Some.is) ∙ c.task_of.ensures h.call h.number (statement ∙ h.is_call) h.target_is ∙ h.found) in
    let base : c.last_base-base.result ≡ last_base q.bases =
    c.last_base-base.ensures ∙ ap last_base (c.as_slice-4.ensures ∙ same_bases c.as_slice-3.result.now c.args.growth.now.entered.instances c.args.instance q c.in_ok-spot.spot c.as_slice-3.ensures c.in_ok-spot.ensures h.here.of_instance.there) in
    subst (λ (x : TaskDef). c.end_call.new.steps ≤ c.args.steps.now + length x.outputs) task c.end_call.ensures.steps
