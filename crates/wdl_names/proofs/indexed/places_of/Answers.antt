use Rattle.std.proofs.Common.{◌≡◌, ◌-◌, Some, cond, arith, rules, ap, ◌∙◌}
use Rattle.std.specs.BTreeMap.{get_by_text}
use Rattle.std.specs.Str.{bytes_eq}
use Rattle.wdl_names.proofs.FirstLemmas.{earlier}
use Rattle.wdl_names.proofs.indexed.places_of.Goals as goal

pub loop-place-preserved : goal.loop-place-preserved
loop-place-preserved g c = record {
  within = omega arith;
  index = λ q.
      let i = c.loop-place.place in
      let key = c.name.result.now in
      let item = c.index-items-place.result in
      let same : key ≡ g.T.Named.named item = search rules in
      earlier (λ x. bytes_eq (g.T.Named.named x) q) c.args.items.now i item _ _ c.loop-place-test.true c.loop-place.invariant.within c.index-items-place.is
      (c.loop-place.invariant.index q)
      (c.in_ok-put.ensures.ok q ∙ ap (λ bytes. cond (bytes_eq bytes q) (Some (i - 1)) (get_by_text c.loop-place.places.places q)) same);
}
