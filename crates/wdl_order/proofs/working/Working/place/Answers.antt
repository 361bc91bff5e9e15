use Rattle.std.proofs.Common.{rules, ◌+◌, ◌<◌, ◌≤◌, ℕ, List, length, drop, sym, ◌∙◌, subst}
use Rattle.std.proofs.lemmas.List.{drop_all, drop_more}
use Rattle.wdl_order.specs.Working.{IsKept}
use Rattle.wdl_order.proofs.working.Working.place.Goals as goal

pub loop-waiter-init : goal.loop-waiter-init
loop-waiter-init c = record {
  flags = c.mark-woken.ensures.flags;
  kept = λ need k f. subst (λ ns. IsKept need c.mark-woken.new.self ns) (sym c.as_slice-waiter-items.ensures) (c.mark-woken.ensures.kept need k f);
}

pub settle-requires : goal.settle-requires
settle-requires c =
    let items : List ℕ = c.as_slice-waiter-items.result.now in
    let l : c.loop-waiter.waiter-index < length c.as_slice-waiter-items.result.now = search rules in (
      c.requires.0,
      drop (c.loop-waiter.waiter-index + 1) items,
      subst (λ ns. IsKept c.requires.0 c.loop-waiter.self ns) (drop_more items c.loop-waiter.waiter-index 0 l)
          (c.loop-waiter.invariant.kept c.requires.0 c.requires.1 c.requires.2),
    )

pub loop-waiter-preserved : goal.loop-waiter-preserved
loop-waiter-preserved c =
    let items : List ℕ = c.as_slice-waiter-items.result.now in
    let l : c.loop-waiter.waiter-index < length c.as_slice-waiter-items.result.now = search rules in
    record {
      flags = c.in_ok-settle.ensures.flags ∙ c.loop-waiter.invariant.flags;
      kept = λ need k f. c.in_ok-settle.ensures.kept need (drop (c.loop-waiter.waiter-index + 1) items)
          (subst (λ ns. IsKept need c.loop-waiter.self ns) (drop_more items c.loop-waiter.waiter-index 0 l) (c.loop-waiter.invariant.kept need k f));
    }

pub returns-clause-kept : goal.returns-clause-kept
returns-clause-kept c =
    let l : length c.as_slice-waiter-items.result.now ≤ c.loop-waiter.waiter-index = search rules in
    λ need k f. subst (λ ns. IsKept need c.loop-waiter.self ns) (drop_all c.loop-waiter.waiter-index c.as_slice-waiter-items.result.now l)
    (c.loop-waiter.invariant.kept need k f)
