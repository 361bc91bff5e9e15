use Rattle.std.proofs.Common.{◌<◌, sym, subst, length, arith, rules}
use Rattle.wdl_links.specs.Circles.{unmarked}
use Rattle.wdl_links.proofs.CircleLemmas.{HasSeen, unmarked-set, seen_more, closes, at_within}
use Rattle.wdl_links.proofs.circle.closing.Goals as goal

pub returns-then-is_marked : goal.returns-then-is_marked
returns-then-is_marked c =
    let l = c.walk in
    closes c.args.docs.now c.args.marks.now l.seen l.at c.next_open-next.result l.invariant (search rules) (search rules)

pub walk-smaller : goal.walk-smaller
walk-smaller c =
    let l = c.walk in
    let within = at_within c.args.docs.now c.args.marks.now l.seen l.at c.requires.marks.len l.invariant in
    let below : l.at < length l.seen = omega (arith, within, l.invariant.len) in
    subst (λ m. unmarked m < unmarked l.seen) (sym c.set.ensures) (unmarked-set l.seen l.at below l.invariant.fresh)

pub walk-preserved : goal.walk-preserved
walk-preserved c =
    let l = c.walk in
    subst (λ m. HasSeen c.args.docs.now c.args.marks.now m c.next_open-next.result.0) (sym c.set.ensures)
    (seen_more c.args.docs.now c.args.marks.now l.seen l.at c.next_open-next.result c.requires.marks.len l.invariant (search rules) (search rules))
