use Rattle.std.proofs.Common.{◌≡◌, ◌∙◌, ◌<◌, List, Some, Err, length, map, refl, sym, subst, ap}
use Rattle.std.proofs.lemmas.List.{length-map}
use Rattle.std.proofs.lemmas.Option.{slice_get_read}
use Rattle.wdl_base.specs.declared.span.Span.{Span}
use Rattle.wdl_typed.specs.Order.{IsLeastOrder, Needing}
use Rattle.wdl_order.proofs.LeastLaws.{one}
use Rattle.wdl_order.specs.Names.{as_needing}
use Rattle.wdl_order.specs.Outcome.{IsCircular, Orders}
use Rattle.wdl_check_rules.specs.declared.fault.CheckFault.TheVariants.{Bad}
use Rattle.wdl_check_types.specs.Outcome.{Answers}
use Rattle.wdl_check_order.specs.Ordered.{ordered}
use Rattle.wdl_check_order.proofs.OrderLaws.{answers_circle}
use Rattle.wdl_check_order.proofs.ordering.order_of.Goals as goal

pub returns-in-Order : goal.returns-in-Order
returns-in-Order g c =
    let ns : List Needing = map (λ m. g.M.Member.needing m.now) c.args.list.now in
    let listed : map as_needing c.as_slice.result.now ≡ map (λ m. g.M.Member.needing m.now) c.args.list.now =
    ap (map as_needing) c.as_slice.ensures.value ∙ c.in_ok-all.ensures in
    let least : IsLeastOrder ns c.in-Order.positions.items =
    subst (λ (ms : List Needing). IsLeastOrder ms c.in-Order.positions.items) listed
    (subst (λ f. Orders (map as_needing c.as_slice.result.now) f) c.in-Order.is c.in_ok-positions.ensures) in
    one ns c.in-Order.positions.items least ∙ ap Some (sym c.from_vec.ensures)

pub returns : goal.returns
returns g c =
    let ns : List Needing = map (λ m. g.M.Member.needing m.now) c.args.list.now in
    let listed : map as_needing c.as_slice.result.now ≡ map (λ m. g.M.Member.needing m.now) c.args.list.now =
    ap (map as_needing) c.as_slice.ensures.value ∙ c.in_ok-all.ensures in
    let stuck : (c.in-Stuck.at < length ns) × IsCircular ns =
    subst (λ (ms : List Needing). (c.in-Stuck.at < length ms) × IsCircular ms) listed
    (subst (λ f. Orders (map as_needing c.as_slice.result.now) f) c.in-Stuck.is c.in_ok-positions.ensures) in
    let inside : c.in-Stuck.at < length c.args.list.now =
    subst (λ n. c.in-Stuck.at < n) (length-map c.args.list.now (λ m. g.M.Member.needing m.now)) stuck.0 in
    subst (λ (s : Span). Answers (ordered ns (map (λ m. g.M.Member.span_of m.now) c.args.list.now)) (Err (Bad 320 s))) (sym c.span.ensures)
    (answers_circle ns (λ m. g.M.Member.span_of m.now) c.args.list.now c.in-Stuck.at c.index-list-at.result stuck.1
    (slice_get_read c.args.list.now (length c.args.list.now) c.in-Stuck.at c.index-list-at.result refl inside c.index-list-at.is))
