use Rattle.std.proofs.Common.{◌≡◌, Some, true, false, not, ◌&&◌, string_bytes, ap, sym, ◌∙◌}
use Rattle.std.specs.BTreeSet.{contains_text}
use Rattle.std.specs.Option.{option_map}
use Rattle.std.proofs.lemmas.Bool.{not-true}
use Rattle.std.proofs.lemmas.Map.Text.{btree_set_updates_text}
use Rattle.wdl_value.specs.Keyed.{distinct_keys}
use Rattle.wdl_eval.specs.Marks.{mark_of}
use Rattle.wdl_eval.proofs.Marks.{meet-empty, one_more}
use Rattle.wdl_eval.proofs.keys.are_distinct.Goals as goal

pub loop-row-init : goal.loop-row-init
loop-row-init c = ap (λ b. not b && distinct_keys c.args.rows.now) (meet-empty _ c.new-seen.ensures.empty c.args.rows.now)

pub loop-row-preserved : goal.loop-row-preserved
loop-row-preserved c =
    let marked : mark_of c.row-item.result.key ≡ Some (string_bytes c.in-Some.mark) = sym c.in_ok-mark.ensures ∙ ap (option_map string_bytes) c.in-Some.is in
    let has : contains_text c.loop-row.seen (string_bytes c.in-Some.mark) ≡ false = not-true _ (sym c.in_ok-insert.ensures.added ∙ c.if-not-branch.false) in
    let adds = btree_set_updates_text (string_bytes c.in-Some.mark) c.loop-row.seen c.insert.new.self true c.in_ok-insert.ensures.updates in
    one_more c.loop-row.seen c.args.rows.now c.loop-row.row-index c.row-item.result (string_bytes c.in-Some.mark) c.row-item.is c.loop-row-test.true marked c.loop-row.invariant c.insert.new.self has adds
