use Rattle.std.proofs.Common.{◌≡◌, ◌+◌, ◌++◌, IfOk, drop, ap, subst, sym, ◌∙◌}
use Rattle.cwl_image.specs.Subset.{block_broken, walk_body}
use Rattle.cwl_subset.specs.declared.walk.Walked.{Walked}
use Rattle.cwl_rules.specs.Lowest.{lowest}
use Rattle.cwl_subset.specs.Walks.{conditional, library_of, scattered, summed}
use Rattle.cwl_rules.proofs.ListLemmas.{drop_item}
use Rattle.cwl_subset.proofs.WalkLemmas.{if_inside, scatter_some, walk_goes}
use Rattle.cwl_subset.proofs.walk.+walk.Goals as goal

pub body_walk-loop-statement-preserved : goal.body_walk-loop-statement-preserved
body_walk-loop-statement-preserved t c =
    walk_goes (library_of c.args.context.now) c.args.context.now.declared.now c.statement-item.result (drop (c.loop-statement.statement-index + 1) c.args.body.now) (drop c.loop-statement.statement-index c.args.body.now)
    c.args.names.now c.loop-statement.names c.enter_names.new.names c.loop-statement.walked c.append.new.self c.in_ok-next.next
    (summed (walk_body (library_of c.args.context.now) c.args.context.now.declared.now c.args.body.now c.args.names.now))
    (drop_item c.args.body.now c.loop-statement.statement-index c.statement-item.result c.loop-statement-test.true c.statement-item.is)
    c.in_ok-next.ensures.walked
    (c.in_ok-enter_names.ensures
    ∙ ap (λ ns. ns ++ c.as_slice.result.now) c.in_ok-next.ensures.kept
    ∙ ap (λ ns. c.loop-statement.names ++ ns) c.as_slice.ensures)
    c.in_ok-append.ensures c.loop-statement.invariant.0 c.loop-statement.invariant.1

pub if_walk-returns-clause-walked : goal.if_walk-returns-clause-walked
if_walk-returns-clause-walked t c =
    let lib = library_of c.args.context.now in
    let declared = c.args.context.now.declared.now in
    subst (λ (z : Walked). IfOk c.conditional.result (λ w. w ≡ z))
    (ap (λ head. conditional head c.in_ok-inside.inside) c.in_ok-head.ensures
    ∙ ap (conditional (lowest (block_broken lib.structs declared c.args.names.now c.args.cond.now c.args.span))) c.in_ok-inside.ensures.walked
    ∙ sym (if_inside lib declared c.args.body.now c.args.cond.now c.args.span c.args.names.now))
    c.conditional.ensures

pub scatter_walk-returns-clause-walked : goal.scatter_walk-returns-clause-walked
scatter_walk-returns-clause-walked t c =
    let lib = library_of c.args.context.now in
    let declared = c.args.context.now.declared.now in
    subst (λ (z : Walked). IfOk c.scattered.result (λ w. w ≡ z))
    (ap (λ head. scattered head c.in_ok-inside.inside c.in-Some.some) c.in_ok-head.ensures
    ∙ ap (λ (k : Walked). scattered (lowest (block_broken lib.structs declared c.args.names.now c.args.over.now c.args.span)) k c.in-Some.some)
    (c.in_ok-inside.ensures.walked ∙ ap (λ ns. summed (walk_body lib declared c.args.body.now ns)) c.in_ok-enter.ensures)
    ∙ sym (scatter_some lib declared c.args.body.now c.args.item.now c.args.over.now c.args.span c.args.names.now c.in-Some.ty c.in-Some.some (sym c.in_ok-ty.ensures ∙ c.in-Some.is)))
    c.scattered.ensures
