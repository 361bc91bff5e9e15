use Rattle.std.proofs.Common.{◌≡◌, ◌<◌, ◌≤◌, ℕ, ◌+◌, Some, false, true, length, slice_get, ap, sym, subst, ◌∙◌}
use Rattle.std.proofs.lemmas.List.{length-map}
use Rattle.std.proofs.lemmas.Option.{same_Some}
use Rattle.wdl_typed.specs.Requests.{is_success}
use Rattle.wdl_typed.specs.Statuses.{successes_of}
use Rattle.wdl_task.specs.declared.request.Prepared.{Prepared}
use Rattle.value_net.specs.Nets.{view}
use Rattle.step_net.proofs.Gets.{get_map}
use Rattle.plan_steps.specs.Arriving.{CanConclude, IsTaken, goes_on}
use Rattle.plan_steps.specs.Askings.{Call, call_of, calls, place_in}
use Rattle.plan_steps.specs.Doing.{asks, field}
use Rattle.plan_steps.proofs.Asks.{call_there, found_waits, never_lost, one_at, one_ready}
use Rattle.plan_steps.proofs.Concluding.{answered_as, can_as, taken_as}
use Rattle.plan_steps.proofs.Lists.{within}
use Rattle.plan_steps.proofs.Standing.{passes_as}
use Rattle.plan_steps.proofs.arrival.tell_call.Goals as goal

pub unreachable-requires : goal.unreachable-requires
unreachable-requires g c = never_lost c.args.asking.now.ready.items c.args.asking.now.owners.items c.args.asking.now.asked.items c.args.asking.now.marks c.requires.asking c.args.place.now c.in_default.ensures c.requires.waits.0 c.requires.waits.1 c.requires.waits.2 c.requires.waits.3

pub index-requires : goal.index-requires
index-requires g c =
    let found = c.in-Some.ensures in
    let inside : c.in-Some.at < length c.args.asking.now.asked.items = subst (λ (n : ℕ). c.in-Some.at < n) (length-map c.args.asking.now.asked.items call_of) (within (calls c.args.asking.now) c.in-Some.at found.0 found.1) in
    subst (λ (n : ℕ). c.in-Some.at < n) (sym c.args.asking.now.asked.ok.0) inside

pub take-prepared-requires-clause-waits : goal.take-prepared-requires-clause-waits
take-prepared-requires-clause-waits g c = found_waits c.args.asking.now.ready.items c.args.asking.now.owners.items c.args.asking.now.asked.items c.args.asking.now.marks c.requires.asking c.args.place.now c.in-Some.at c.in-Some.ensures c.requires.waits.0 c.requires.waits.1 c.requires.waits.2 c.requires.waits.3

pub answer_taken-requires-clause-can : goal.answer_taken-requires-clause-can
answer_taken-requires-clause-can g c =
    let found = c.in-Some.ensures in
    let inside : c.in-Some.at < length c.args.asking.now.asked.items = subst (λ (n : ℕ). c.in-Some.at < n) (length-map c.args.asking.now.asked.items call_of) (within (calls c.args.asking.now) c.in-Some.at found.0 found.1) in
    let t = c.take-prepared.ensures.ready in
    let place : c.take-prepared.result.request.place ≡ c.args.place.now = same_Some _ _ (sym c.take-prepared.ensures.place ∙ get_map place_in (calls c.args.asking.now) c.in-Some.at found.0 found.1) ∙ found.2 in
    let own : call_of c.index.result.now ≡ found.0 = same_Some _ _ (sym (call_there c.args.asking.now.asked.items c.in-Some.at c.index.result.now inside c.index.ensures) ∙ found.1) in
    can_as c.args.ground.now.checked.now c.args.ground.now.layout.now (field c.args.growth.now) (view c.args.growth.now.entered.net).rules c.index.result.now.step found.0.step c.take-prepared.result (ap (λ (x : Call). x.step) own)
    (c.requires.can c.in-Some.at found.0 t.at c.take-prepared.result found.1 found.2 t.there place)

pub answer_taken-requires-clause-place : goal.answer_taken-requires-clause-place
answer_taken-requires-clause-place g c =
    let found = c.in-Some.ensures in
    let inside : c.in-Some.at < length c.args.asking.now.asked.items = subst (λ (n : ℕ). c.in-Some.at < n) (length-map c.args.asking.now.asked.items call_of) (within (calls c.args.asking.now) c.in-Some.at found.0 found.1) in
    let t = c.take-prepared.ensures.ready in
    let place : c.take-prepared.result.request.place ≡ c.args.place.now = same_Some _ _ (sym c.take-prepared.ensures.place ∙ get_map place_in (calls c.args.asking.now) c.in-Some.at found.0 found.1) ∙ found.2 in
    let own : call_of c.index.result.now ≡ found.0 = same_Some _ _ (sym (call_there c.args.asking.now.asked.items c.in-Some.at c.index.result.now inside c.index.ensures) ∙ found.1) in
    get_map place_in (calls c.take-prepared.new.self) c.in-Some.at _ (c.take-prepared.ensures.calls.here found.0 found.1) ∙ ap Some (found.2 ∙ sym place)

pub returns-clause-done : goal.returns-clause-done
returns-clause-done g c = λ at d j p i k call same there waits ruled.
    let found = c.in-Some.ensures in
    let inside : c.in-Some.at < length c.args.asking.now.asked.items = subst (λ (n : ℕ). c.in-Some.at < n) (length-map c.args.asking.now.asked.items call_of) (within (calls c.args.asking.now) c.in-Some.at found.0 found.1) in
    let t = c.take-prepared.ensures.ready in
    let place : c.take-prepared.result.request.place ≡ c.args.place.now = same_Some _ _ (sym c.take-prepared.ensures.place ∙ get_map place_in (calls c.args.asking.now) c.in-Some.at found.0 found.1) ∙ found.2 in
    let own : call_of c.index.result.now ≡ found.0 = same_Some _ _ (sym (call_there c.args.asking.now.asked.items c.in-Some.at c.index.result.now inside c.index.ensures) ∙ found.1) in
    let one : c.take-prepared.result ≡ p = one_ready c.args.asking.now.ready.items c.args.asking.now.owners.items c.args.asking.now.asked.items c.args.asking.now.marks c.requires.asking t.at j c.take-prepared.result p t.there there (place ∙ sym waits) in
    let here : c.in-Some.at ≡ at = one_at c.args.asking.now.ready.items c.args.asking.now.owners.items c.args.asking.now.asked.items c.args.asking.now.marks c.requires.asking c.in-Some.at at found.0 d found.1 call (found.2 ∙ sym same) in
    let step : d.step ≡ c.index.result.now.step = ap (λ (x : Call). x.step) (same_Some _ _ (sym call ∙ ap (slice_get (calls c.args.asking.now)) (sym here) ∙ found.1) ∙ sym own) in
    let taken : IsTaken c.in-Some.at c.take-prepared.result (asks c.args.asking.now) (asks c.take-prepared.new.self) = record { ready = t; calls = c.take-prepared.ensures.calls; jobs = c.take-prepared.ensures.jobs } in
    passes_as _ _ _ _ c.answer_taken.result
    (λ h. (
      asks c.take-prepared.new.self,
      taken_as at c.in-Some.at c.take-prepared.result p (asks c.args.asking.now) (asks c.take-prepared.new.self) here one taken,
      answered_as c.args.ground.now.checked.now c.args.ground.now.layout.now c.args.ground.now.site.now i k c.take-prepared.result p c.args.answer.now (field c.args.growth.now) (asks c.take-prepared.new.self) (field c.answer_taken.new.growth) (asks c.answer_taken.new.asking) one h,
    ))
    (λ h. (subst (λ (x : Prepared). is_success (successes_of x.codes) c.args.answer.now.status ≡ false) one h.0, subst (λ (x : Prepared). goes_on x ≡ true) one h.1, subst (λ (n : ℕ). 20000 ≤ n) c.take-prepared.ensures.jobs h.2))
    (c.answer_taken.ensures.done i k (ap (slice_get (view c.args.growth.now.entered.net).rules) (sym step) ∙ ruled))

pub returns-clause-steps : goal.returns-clause-steps
returns-clause-steps g c = λ at d j p i k call same there waits ruled h.
    let found = c.in-Some.ensures in
    let inside : c.in-Some.at < length c.args.asking.now.asked.items = subst (λ (n : ℕ). c.in-Some.at < n) (length-map c.args.asking.now.asked.items call_of) (within (calls c.args.asking.now) c.in-Some.at found.0 found.1) in
    let t = c.take-prepared.ensures.ready in
    let place : c.take-prepared.result.request.place ≡ c.args.place.now = same_Some _ _ (sym c.take-prepared.ensures.place ∙ get_map place_in (calls c.args.asking.now) c.in-Some.at found.0 found.1) ∙ found.2 in
    let own : call_of c.index.result.now ≡ found.0 = same_Some _ _ (sym (call_there c.args.asking.now.asked.items c.in-Some.at c.index.result.now inside c.index.ensures) ∙ found.1) in
    let one : c.take-prepared.result ≡ p = one_ready c.args.asking.now.ready.items c.args.asking.now.owners.items c.args.asking.now.asked.items c.args.asking.now.marks c.requires.asking t.at j c.take-prepared.result p t.there there (place ∙ sym waits) in
    let here : c.in-Some.at ≡ at = one_at c.args.asking.now.ready.items c.args.asking.now.owners.items c.args.asking.now.asked.items c.args.asking.now.marks c.requires.asking c.in-Some.at at found.0 d found.1 call (found.2 ∙ sym same) in
    let step : d.step ≡ c.index.result.now.step = ap (λ (x : Call). x.step) (same_Some _ _ (sym call ∙ ap (slice_get (calls c.args.asking.now)) (sym here) ∙ found.1) ∙ sym own) in
    subst (λ (x : Prepared). (y : CanConclude c.args.ground.now.checked.now c.args.ground.now.layout.now (field c.args.growth.now) i k x) → c.answer_taken.new.steps ≤ c.args.steps.now + length y.task.outputs) one
    (c.answer_taken.ensures.steps i k (ap (slice_get (view c.args.growth.now.entered.net).rules) (sym step) ∙ ruled)) h

pub returns-clause-same : goal.returns-clause-same
returns-clause-same g c = λ j p there waits not.
    let found = c.in-Some.ensures in
    let t = c.take-prepared.ensures.ready in
    let place : c.take-prepared.result.request.place ≡ c.args.place.now = same_Some _ _ (sym c.take-prepared.ensures.place ∙ get_map place_in (calls c.args.asking.now) c.in-Some.at found.0 found.1) ∙ found.2 in
    let one : c.take-prepared.result ≡ p = one_ready c.args.asking.now.ready.items c.args.asking.now.owners.items c.args.asking.now.asked.items c.args.asking.now.marks c.requires.asking t.at j c.take-prepared.result p t.there there (place ∙ sym waits) in
    c.answer_taken.ensures.same (subst (λ (x : Prepared). is_success (successes_of x.codes) c.args.answer.now.status ≡ false) (sym one) not)
