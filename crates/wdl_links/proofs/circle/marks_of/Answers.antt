use Rattle.std.proofs.Common.{◌≡◌, ◌<◌, true, not, sym, subst, ◌∙◌, length, arith}
use Rattle.std.proofs.lemmas.Bool.{and_parts, not-true}
use Rattle.std.proofs.lemmas.List.{length-set}
use Rattle.wdl_library.specs.Links.{links_at}
use Rattle.wdl_links.specs.Circles.{is_next, is_marked, all_marked, marked, unmarked, AreEnds}
use Rattle.wdl_links.proofs.CircleLemmas.{unmarked-set, next_ends, all_ends}
use Rattle.wdl_links.proofs.circle.marks_of.Goals as goal

pub loop-k-smaller : goal.loop-k-smaller
loop-k-smaller c =
    let l = c.loop-k in
    let docs = c.args.docs.now in
    let k = c.in-Some.k in
    let next : is_next docs l.marks k ≡ true = subst (λ m. is_next docs m k ≡ true) c.as_slice.ensures c.in-Some.ensures.some.1 in
    let below : k < length l.marks = omega (arith, c.in-Some.ensures.some.0, l.invariant.0) in
    subst (λ m. unmarked m < unmarked l.marks) (sym c.set.ensures)
    (unmarked-set l.marks k below (not-true (is_marked l.marks k) (and_parts (not (is_marked l.marks k)) (all_marked l.marks (links_at docs k)) next).0))

pub loop-k-preserved : goal.loop-k-preserved
loop-k-preserved c =
    let l = c.loop-k in
    let docs = c.args.docs.now in
    let k = c.in-Some.k in
    let next : is_next docs l.marks k ≡ true = subst (λ m. is_next docs m k ≡ true) c.as_slice.ensures c.in-Some.ensures.some.1 in
    let below : k < length l.marks = omega (arith, c.in-Some.ensures.some.0, l.invariant.0) in
    subst (λ m. (length m ≡ length docs) × AreEnds (marked m) docs m) (sym c.set.ensures)
    (length-set l.marks k true ∙ l.invariant.0, next_ends docs l.marks k below next l.invariant.1)

pub returns-clause-ends : goal.returns-clause-ends
returns-clause-ends c = let l = c.loop-k in all_ends c.args.docs.now l.marks l.invariant.0 l.invariant.1
