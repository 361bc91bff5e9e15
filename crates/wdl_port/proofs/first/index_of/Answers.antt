use Rattle.std.proofs.Common.{◌≡◌, ◌-◌, Some, cond, string_bytes, arith, rules, ap, ◌∙◌}
use Rattle.std.specs.BTreeMap.{get_by_text}
use Rattle.std.specs.Str.{bytes_eq}
use Rattle.wdl_base.specs.Places.{place_text}
use Rattle.std.proofs.lemmas.Map.Text.{btree_map_updates_text}
use Rattle.wdl_port.proofs.TableLemmas.{earlier}
use Rattle.wdl_port.proofs.first.index_of.Goals as goal

pub loop-i-preserved : goal.loop-i-preserved
loop-i-preserved c = record {
  within = omega arith;
  index = λ text.
      let key = c.in_ok-from_str.field-0 in
      let i = c.loop-i.i in
      let same : string_bytes key ≡ place_text c.index-rows-i.result.place = search rules in
      let put = btree_map_updates_text (string_bytes key) c.loop-i.first c.insert.new.self (Some (i - 1)) c.in_ok-insert.ensures.updates text in
      earlier c.args.rows.now i c.index-rows-i.result text _ _ c.loop-i-test.true c.loop-i.invariant.within c.index-rows-i.is
      (c.loop-i.invariant.index text)
      (put ∙ ap (λ bytes. cond (bytes_eq bytes text) (Some (i - 1)) (get_by_text c.loop-i.first text)) same);
}
