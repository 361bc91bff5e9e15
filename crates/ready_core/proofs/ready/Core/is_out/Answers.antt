use Rattle.std.proofs.Common.{Contains, Some, subst}
use Rattle.ready_core.specs.Cores.{CoreState, flow_of, requests}
use Rattle.ready_core.proofs.Running.{moved_place, place_held, place_job}
use Rattle.ready_core.proofs.ready.Core.is_out.Goals as goal

pub returns-in-Some-clause-out : goal.returns-in-Some-clause-out
returns-in-Some-clause-out c =
    let out = c.self.inside.log.out.items in
    let r = c.args.job.now.request in
    let place = moved_place c.as_slice.result.now out c.request.result.now r (Some c.in-Some.field-0) c.as_slice.ensures.value c.request.ensures.request c.in-Some.ensures.place in
    subst (λ (s : CoreState). Contains (requests s.out) r) c.self.view_is (place_held out c.in-Some.field-0 r place)

pub returns-in-Some-clause-job : goal.returns-in-Some-clause-job
returns-in-Some-clause-job c h =
    let i = c.self.inside in
    let r = c.args.job.now.request in
    let place = moved_place c.as_slice.result.now i.log.out.items c.request.result.now r (Some c.in-Some.field-0) c.as_slice.ensures.value c.request.ensures.request c.in-Some.ensures.place in
    subst (λ (s : CoreState). Contains (flow_of s).jobs r) c.self.view_is (place_job i.course i.log i.turn c.in-Some.field-0 r c.self.invariant place)
