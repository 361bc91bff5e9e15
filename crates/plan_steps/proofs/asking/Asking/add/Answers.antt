use Rattle.std.proofs.Common.{◌≡◌, ℕ, [], ◌∷◌, ◌++◌, None, length, ap, ◌∙◌}
use Rattle.wdl_flow.specs.Marks.{place_mark}
use Rattle.plan_steps.specs.declared.asking.Asked.{Asked}
use Rattle.plan_steps.proofs.Asks.{all_same, asked_more}
use Rattle.plan_steps.proofs.asking.Asking.add.Goals as goal

pub returns-clause-sound : goal.returns-clause-sound
returns-clause-sound c =
    let q = c.args.self.now in
    let a : Asked = record { place = c.in_ok-place.place; step = c.args.step; last = None; waits_at = c.len-waits_at.result } in
    let number : c.len.result ≡ length q.asked.items = c.len.ensures ∙ q.asked.ok.0 in
    let mark : c.place_mark.result ≡ place_mark 0 c.in_ok-place.place = c.place_mark.ensures ∙ ap (place_mark 0) c.as_slice.ensures in
    all_same (q.ready.items ++ c.args.prepared ∷ []) (q.owners.items ++ length q.asked.items ∷ []) (q.asked.items ++ a ∷ []) (q.marks ++ place_mark 0 a.place ∷ [])
    c.push-3.new.self.items c.push-2.new.self.items c.push-4.new.self.items c.push.new.self
    c.in_ok-push-3.ensures.items (c.in_ok-push-2.ensures.items ∙ ap (λ (n : ℕ). q.owners.items ++ n ∷ []) number) c.in_ok-push-4.ensures.items (c.in_ok-push.ensures.ok ∙ ap (λ (n : ℕ). q.marks ++ n ∷ []) mark)
    (asked_more q.ready.items q.owners.items q.asked.items q.marks c.requires.sound c.args.prepared a c.requires.new c.in_ok-place.ensures (c.len-waits_at.ensures ∙ q.ready.ok.0))
