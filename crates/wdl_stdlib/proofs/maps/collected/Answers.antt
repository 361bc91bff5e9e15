use Rattle.std.proofs.Common.{◌≡◌, map, ap, sym, ◌∙◌, None, Some}
use Rattle.std.specs.BTreeMap.{get_by_text}
use Rattle.std.proofs.lemmas.Map.Text.{btree_map_updates_text}
use Rattle.wdl_value.specs.Functions.{group_of, key_text}
use Rattle.wdl_stdlib.proofs.Keys.{are_left-all, left_of-all, are_left-dropped, row_taken, row_absent}
use Rattle.wdl_stdlib.proofs.maps.collected.Goals as goal
use Rattle.wdl_stdlib.proofs.maps.collected.Goals.{in-Some+in_ok-key+in_ok-push, in_default}

pub loop-pair-init : goal.loop-pair-init
loop-pair-init c = (
  are_left-all c.args.groups c.args.pairs.now c.requires,
  rw c.new-rows.ensures (ap (map (group_of c.args.pairs.now)) (left_of-all c.args.groups c.args.pairs.now c.requires)),
)

pub loop-pair-preserved : goal.loop-pair-preserved
loop-pair-preserved c =
    let groups = c.loop-pair.groups in
    let pair = c.pair-item.result in
    let text : c.as_str.result.now ≡ key_text pair = c.as_str.ensures.value ∙ c.in_ok-text.ensures in
    let drops = rw text at (btree_map_updates_text c.as_str.result.now groups c.remove.new.self None c.remove.ensures.updates) in
    let left = are_left-dropped groups c.remove.new.self (key_text pair) c.args.pairs.now drops c.loop-pair.invariant.0 in
    elim c.match-remove.branch [
      | in-Some+in_ok-key+in_ok-push w ↦ let got : get_by_text groups (key_text pair) ≡ Some w.in-Some.values = sym (ap (get_by_text groups) text) ∙ sym c.remove.ensures.value ∙ w.in-Some.is in
          let row = row_taken groups c.remove.new.self c.args.pairs.now c.loop-pair.pair-index pair w.in-Some.values c.loop-pair.rows _ w.in_ok-key.key c.pair-item.is c.loop-pair-test.true drops got c.loop-pair.invariant.0 (w.in_ok-key.ensures ∙ w.left_in.ensures) c.loop-pair.invariant.1 in
          (left, rw (w.rows-is, w.in_ok-push.ensures.ok, w.from_vec.ensures) row)
      | in_default w ↦ let got : get_by_text groups (key_text pair) ≡ None = sym (ap (get_by_text groups) text) ∙ sym c.remove.ensures.value ∙ w.in_default.is in
          (left, rw w.rows-is (row_absent groups c.remove.new.self c.args.pairs.now c.loop-pair.pair-index pair _ _ c.pair-item.is c.loop-pair-test.true drops got c.loop-pair.invariant.1))
    ]
