use Rattle.std.proofs.Common.{rules, ◌≡◌, ◌+◌, ◌<◌, ◌≤◌, true, [], ◌∷◌, ◌++◌, length, sym, ap, ◌∙◌, subst, arith}
use Rattle.std.proofs.lemmas.List.{length-set, length_push}
use Rattle.std.specs.BTreeSet.{contains}
use Rattle.std.specs.Ordering.{nat_cmp}
use Rattle.wdl_order.proofs.Greedy.{Greedy, IsNext, greedy_more, greedy_least, stuck_none}
use Rattle.wdl_order.proofs.Keeping.{kept_popped, next_popped, none_contained, set_pushed, stuck_empty}
use Rattle.wdl_order.proofs.Numbers.{or_none}
use Rattle.wdl_order.specs.Positions.{Need, HasNone}
use Rattle.wdl_order.specs.Rows.{has, is_set}
use Rattle.wdl_typed.specs.Lists.{has_number}
use Rattle.wdl_order.proofs.least.least_order.Goals as goal

pub on_circle-requires-clause-some : goal.on_circle-requires-clause-some
on_circle-requires-clause-some c =
    let k = c.loop.invariant.kept in
    let count : length c.loop.work.left.items ≡ length c.args.needs.items = sym k.sized.flags ∙ c.loop.invariant.flags in
    let turn : c.loop.counter < length c.args.needs.items = search rules in
    omega (arith, count, turn)

pub on_circle-requires-clause-sized : goal.on_circle-requires-clause-sized
on_circle-requires-clause-sized c = c.loop.invariant.kept.sized

pub returns-in_default : goal.returns-in_default
returns-in_default c =
    let need : Need = has c.args.needs.items in
    let i = c.loop.invariant in
    let k = c.loop.invariant.kept in
    let count : length c.loop.work.left.items ≡ length c.args.needs.items = sym k.sized.flags ∙ i.flags in
    let turn : c.loop.counter < length c.args.needs.items = search rules in
    let short : length c.loop.order.items < length c.loop.work.left.items = omega (arith, count, turn, i.long) in (
      subst (λ n. c.on_circle.result < n) count c.on_circle.ensures,
      subst (λ n. HasNone n need) count
          (stuck_none _ need c.loop.order.items
          (stuck_empty need _ _ _ _ c.loop.order.items k i.placed (λ p. none_contained c.loop.work.ready p c.in_default.ensures.none) short)),
    )

pub place-requires : goal.place-requires
place-requires c =
    let member : contains nat_cmp c.loop.work.ready c.in-Some.member ≡ true = search rules in
    let p = kept_popped (has c.args.needs.items) _ _ _ _ _ c.in-Some.member c.loop.invariant.kept member c.in-Some.ensures.taken in
    (has c.args.needs.items, p.0, p.1)

pub loop-preserved : goal.loop-preserved
loop-preserved c =
    let need : Need = has c.args.needs.items in
    let i = c.loop.invariant in
    let k = c.loop.invariant.kept in
    let count : length c.loop.work.left.items ≡ length c.args.needs.items = sym k.sized.flags ∙ i.flags in
    let member : contains nat_cmp c.loop.work.ready c.in-Some.member ≡ true = search rules in
    let p = kept_popped need _ _ _ _ _ c.in-Some.member k member c.in-Some.ensures.taken in
    let next = next_popped need _ _ _ _ c.loop.order.items c.in-Some.member k i.placed member c.in-Some.ensures.least in
    let pushed : c.push.new.self.items ≡ c.loop.order.items ++ c.in-Some.member ∷ [] = c.in_ok-push.ensures.items in
    let inside : c.in-Some.member < length c.loop.work.placed.items = subst (λ n. c.in-Some.member < n) (sym k.sized.flags) next.within in
    record {
      kept = c.in_ok-place.ensures.kept need p.0 p.1;
      flags = ap length c.in_ok-place.ensures.flags ∙ length-set c.loop.work.placed.items c.in-Some.member true ∙ i.flags;
      placed = λ q.
          ap (λ flags. is_set flags q) c.in_ok-place.ensures.flags
          ∙ set_pushed c.loop.work.placed.items c.loop.order.items c.in-Some.member inside i.placed q
          ∙ ap (has_number q) (sym pushed);
      greedy = subst (λ ps. Greedy (length c.args.needs.items) need [] ps) (sym pushed)
          (greedy_more _ need [] c.loop.order.items c.loop.order.items c.in-Some.member i.greedy (λ r. or_none (has_number r c.loop.order.items))
          (subst (λ n. IsNext n need c.loop.order.items c.in-Some.member) count next));
      long = ap length pushed ∙ length_push c.loop.order.items c.in-Some.member ∙ ap (λ n. n + 1) i.long;
    }

pub returns : goal.returns
returns c =
    let done : length c.args.needs.items ≤ c.loop.counter = search rules in
    let within : c.loop.counter ≤ length c.args.needs.items = search rules in
    let long = c.loop.invariant.long in
    greedy_least _ (has c.args.needs.items) c.loop.order.items c.loop.invariant.greedy (omega (arith, done, within, long))
