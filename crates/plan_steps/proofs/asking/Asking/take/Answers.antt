use Rattle.std.proofs.Common.{◌≡◌, ◌<◌, ℕ, List, Some, length, slice_get, get_or, sym, subst, ap, refl, ◌∙◌}
use Rattle.std.proofs.lemmas.List.{length-map}
use Rattle.plan_steps.specs.Askings.{Call, call_of}
use Rattle.plan_steps.proofs.Asks.{answered_calls, idle_now, owner_there, place_taken, told_more, waits_there}
use Rattle.plan_steps.proofs.Lists.{read_at, within}
use Rattle.plan_steps.proofs.asking.Asking.take.Goals as goal

pub index-requires : goal.index-requires
index-requires c =
    let q = c.args.self.now in
    subst (λ (n : ℕ). c.args.at < n) (sym q.asked.ok.0) (owner_there q.ready.items q.owners.items q.asked.items q.marks c.requires.sound c.requires.waits.0 c.args.at c.requires.waits.1)

pub remove-prepared-requires-clause-within : goal.remove-prepared-requires-clause-within
remove-prepared-requires-clause-within c =
    let q = c.args.self.now in
    within q.owners.items c.index.result.now.waits_at c.args.at (waits_there q.ready.items q.owners.items q.asked.items q.marks c.requires.sound c.requires.waits.0 c.args.at c.requires.waits.1 c.index.result.now c.index.ensures)

pub index_mut-requires : goal.index_mut-requires
index_mut-requires c =
    let q = c.args.self.now in
    let n = c.remove-prepared.new.self in
    let count : length q.asked.items ≡ length n.asked.items = sym (length-map q.asked.items call_of) ∙ sym (ap (λ (cs : List Call). length cs) c.remove-prepared.ensures.calls) ∙ length-map n.asked.items call_of in
    subst (λ (m : ℕ). c.args.at < m) (count ∙ sym n.asked.ok.0) (owner_there q.ready.items q.owners.items q.asked.items q.marks c.requires.sound c.requires.waits.0 c.args.at c.requires.waits.1)

pub returns-clause-sound : goal.returns-clause-sound
returns-clause-sound c =
    let q = c.args.self.now in
    let n = c.remove-prepared.new.self in
    let count : length q.asked.items ≡ length n.asked.items = sym (length-map q.asked.items call_of) ∙ sym (ap (λ (cs : List Call). length cs) c.remove-prepared.ensures.calls) ∙ length-map n.asked.items call_of in
    let inside : c.args.at < length n.asked.items = subst (λ (m : ℕ). c.args.at < m) count (owner_there q.ready.items q.owners.items q.asked.items q.marks c.requires.sound c.requires.waits.0 c.args.at c.requires.waits.1) in
    told_more n.ready.items n.owners.items n.asked.items n.marks c.remove-prepared.ensures.sound c.args.at c.index_mut.result.now
    (record { place = c.index_mut.result.now.place; step = c.index_mut.result.now.step; last = Some c.remove-prepared.result.request.attempt; waits_at = c.index_mut.result.now.waits_at })
    (read_at n.asked.items c.args.at c.index_mut.result.now c.index_mut.result.now inside c.index_mut.ensures.value) refl refl

pub returns-clause-idle : goal.returns-clause-idle
returns-clause-idle c =
    let q = c.args.self.now in
    let k : ℕ = c.index.result.now.waits_at in
    let there : slice_get q.owners.items k ≡ Some c.args.at = waits_there q.ready.items q.owners.items q.asked.items q.marks c.requires.sound c.requires.waits.0 c.args.at c.requires.waits.1 c.index.result.now c.index.ensures in
    subst (λ (os : List ℕ). (i : ℕ) → slice_get os i ≡ Some c.args.at → ⊥) (sym c.remove-prepared.ensures.owners)
    (idle_now q.ready.items q.owners.items q.asked.items q.marks c.requires.sound k c.args.at (get_or q.owners.items k 0) there)

pub returns-clause-calls : goal.returns-clause-calls
returns-clause-calls c =
    let q = c.args.self.now in
    let n = c.remove-prepared.new.self in
    let count : length q.asked.items ≡ length n.asked.items = sym (length-map q.asked.items call_of) ∙ sym (ap (λ (cs : List Call). length cs) c.remove-prepared.ensures.calls) ∙ length-map n.asked.items call_of in
    let inside : c.args.at < length n.asked.items = subst (λ (m : ℕ). c.args.at < m) count (owner_there q.ready.items q.owners.items q.asked.items q.marks c.requires.sound c.requires.waits.0 c.args.at c.requires.waits.1) in
    answered_calls n.asked.items _ c.remove-prepared.ensures.calls c.args.at c.remove-prepared.result.request.attempt c.index_mut.result.now inside c.index_mut.ensures.value

pub returns-clause-place : goal.returns-clause-place
returns-clause-place c =
    let q = c.args.self.now in
    let k : ℕ = c.index.result.now.waits_at in
    let there : slice_get q.owners.items k ≡ Some c.args.at = waits_there q.ready.items q.owners.items q.asked.items q.marks c.requires.sound c.requires.waits.0 c.args.at c.requires.waits.1 c.index.result.now c.index.ensures in
    place_taken q.ready.items q.owners.items q.asked.items q.marks c.requires.sound k c.args.at there c.remove-prepared.result c.remove-prepared.ensures.taken
