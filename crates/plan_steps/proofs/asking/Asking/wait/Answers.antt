use Rattle.std.proofs.Common.{◌≡◌, ℕ, List, [], ◌∷◌, ◌++◌, Some, slice_get, sym, subst, refl, ◌∙◌}
use Rattle.std.specs.List.{slice_set}
use Rattle.wdl_task.specs.declared.request.Prepared.{Prepared}
use Rattle.plan_steps.specs.declared.asking.Asked.{Asked}
use Rattle.plan_steps.specs.Askings.{AreAsking}
use Rattle.plan_steps.proofs.Asks.{asked_again, calls_kept, place_there}
use Rattle.plan_steps.proofs.Lists.{within}
use Rattle.plan_steps.proofs.asking.Asking.wait.Goals as goal

pub returns-clause-sound : goal.returns-clause-sound
returns-clause-sound c =
    let q = c.args.self.now in
    let a : Asked = c.index_mut.result.now in
    let b : Asked = record { place = a.place; step = a.step; last = a.last; waits_at = c.len-waits_at.result } in
    let there : slice_get q.asked.items c.args.at ≡ Some a = (place_there q.asked.items c.args.at a c.args.prepared.request.place c.requires.place c.index_mut.ensures.value).0 in
    let place : c.args.prepared.request.place ≡ a.place = (place_there q.asked.items c.args.at a c.args.prepared.request.place c.requires.place c.index_mut.ensures.value).1 in
    subst (λ (rs : List Prepared). AreAsking rs c.push.new.self.items (slice_set q.asked.items c.args.at b) q.marks) (sym c.in_ok-push-2.ensures.items)
    (subst (λ (os : List ℕ). AreAsking (q.ready.items ++ c.args.prepared ∷ []) os (slice_set q.asked.items c.args.at b) q.marks) (sym c.in_ok-push.ensures.items)
    (asked_again q.ready.items q.owners.items q.asked.items q.marks c.requires.sound c.args.prepared c.args.at a b there refl place (c.len-waits_at.ensures ∙ q.ready.ok.0) c.requires.idle))

pub returns-clause-calls : goal.returns-clause-calls
returns-clause-calls c =
    let q = c.args.self.now in
    let a : Asked = c.index_mut.result.now in
    let b : Asked = record { place = a.place; step = a.step; last = a.last; waits_at = c.len-waits_at.result } in
    let there : slice_get q.asked.items c.args.at ≡ Some a = (place_there q.asked.items c.args.at a c.args.prepared.request.place c.requires.place c.index_mut.ensures.value).0 in
    calls_kept q.asked.items c.args.at a b (within q.asked.items c.args.at a there) c.index_mut.ensures.value refl
