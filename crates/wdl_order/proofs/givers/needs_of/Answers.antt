use Rattle.std.proofs.Common.{rules, ◌≤◌, length, map, ap, ◌∙◌}
use Rattle.std.proofs.lemmas.List.{take_all}
use Rattle.std.specs.List.{flat_map}
use Rattle.wdl_order.proofs.Names.{rows_need}
use Rattle.wdl_order.specs.Names.{givers_of}
use Rattle.wdl_order.specs.declared.uses.Uses.{Uses}
use Rattle.wdl_order.proofs.givers.needs_of.Goals as goal

pub returns-clause-exact : goal.returns-clause-exact
returns-clause-exact c =
    let l : length c.args.all.now ≤ c.loop-uses.uses-index = search rules in
    rows_need (givers_of c.in_ok-givers.givers) c.args.all.now c.loop-uses.rows.items
    (c.loop-uses.invariant ∙ ap (map (λ (u : Uses). flat_map (givers_of c.in_ok-givers.givers) u.refers)) (take_all c.loop-uses.uses-index c.args.all.now l))
    c.in_ok-givers.ensures
