use Rattle.std.proofs.Common.{◌≡◌, true, false, ap, sym, ◌∙◌, ◌||◌, string_bytes}
use Rattle.std.specs.BTreeSet.{contains_text}
use Rattle.std.proofs.lemmas.Map.Text.{btree_set_updates_text}
use Rattle.wdl_value.specs.Functions.{repeat_a_key}
use Rattle.std.proofs.lemmas.Bool.{not-true, not-false}
use Rattle.wdl_stdlib.proofs.Keys.{meet-empty, repeat_found, repeat_more}
use Rattle.wdl_stdlib.proofs.maps.repeat_a_key.Goals as goal

pub loop-pair-init : goal.loop-pair-init
loop-pair-init c = ap (λ b. b || repeat_a_key c.args.pairs.now) (meet-empty _ c.new-seen.ensures.empty c.args.pairs.now)

pub returns-then-not-branch : goal.returns-then-not-branch
returns-then-not-branch c =
    let has : contains_text c.loop-pair.seen (string_bytes c.in_ok-key.key) ≡ true = not-false _ (sym c.in_ok-insert.ensures.added ∙ c.if-not-branch.true) in
    repeat_found _ _ _ c.pair-item.result _ c.pair-item.is c.loop-pair-test.true (rw c.in_ok-key.ensures at has) c.loop-pair.invariant

pub loop-pair-preserved : goal.loop-pair-preserved
loop-pair-preserved c =
    let has : contains_text c.loop-pair.seen (string_bytes c.in_ok-key.key) ≡ false = not-true _ (sym c.in_ok-insert.ensures.added ∙ c.if-not-branch.false) in
    let adds = btree_set_updates_text (string_bytes c.in_ok-key.key) c.loop-pair.seen c.insert.new.self true c.in_ok-insert.ensures.updates in
    repeat_more _ _ _ _ c.pair-item.result _ c.pair-item.is c.loop-pair-test.true (rw c.in_ok-key.ensures at has) (rw c.in_ok-key.ensures at adds) c.loop-pair.invariant
