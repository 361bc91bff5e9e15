use Rattle.std.proofs.Common.{length, map, sym, ◌∙◌}
use Rattle.std.proofs.lemmas.List.{length-map}
use Rattle.wdl_order.proofs.Numbered.{orders_from}
use Rattle.wdl_order.specs.Names.{as_needing}
use Rattle.wdl_order.specs.Rows.{has}
use Rattle.wdl_order.proofs.positions.positions_of.Goals as goal

pub returns : goal.returns
returns c =
    orders_from (map as_needing c.args.all.now) (length c.in_ok-needs.needs.items) (has c.in_ok-needs.needs.items)
    (c.in_ok-needs.ensures.count ∙ sym (length-map c.args.all.now as_needing)) c.in_ok-needs.ensures.exact
    c.in_ok-found.found c.in_ok-found.ensures
