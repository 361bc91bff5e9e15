use Rattle.std.proofs.Common.{◌≡◌, ◌<◌, List, length, get_or, map, refl, sym, ap, ◌∙◌, subst}
use Rattle.std.proofs.lemmas.List.{length-map}
use Rattle.std.proofs.lemmas.Option.{slice_get_read}
use Rattle.wdl_order.specs.Names.{as_needing}
use Rattle.wdl_order.specs.Outcome.{IsCircular, Orders}
use Rattle.wdl_typed.specs.Order.{Needing, IsLeastOrder, is_order, picked}
use Rattle.statement_order.proofs.ordering.ordered.Goals as goal

pub returns-in_ok-picked-in-Order-clause-ordered : goal.returns-in_ok-picked-in-Order-clause-ordered
returns-in_ok-picked-in-Order-clause-ordered g c =
    let listed : map as_needing c.as_slice-2.result.now ≡ map g.M.Member.needing c.args.list =
    ap (map as_needing) c.as_slice-2.ensures.value ∙ c.in_ok-all.ensures ∙ ap (map g.M.Member.needing) c.as_slice.ensures in
    record {
      positions = c.in-Order.positions.items;
      least = subst (λ (ns : List Needing). IsLeastOrder ns c.in-Order.positions.items) listed
          (subst (λ f. Orders (map as_needing c.as_slice-2.result.now) f) c.in-Order.is c.in_ok-positions.ensures);
      picks = c.in_ok-picked-in-Order.ensures ∙ ap (picked c.args.list) c.as_slice-in-Order.ensures.value;
    }

pub returns-in-Stuck-clause-fault : goal.returns-in-Stuck-clause-fault
returns-in-Stuck-clause-fault g c =
    let listed : map as_needing c.as_slice-2.result.now ≡ map g.M.Member.needing c.args.list =
    ap (map as_needing) c.as_slice-2.ensures.value ∙ c.in_ok-all.ensures ∙ ap (map g.M.Member.needing) c.as_slice.ensures in
    let stuck : (c.in-Stuck.at < length (map as_needing c.as_slice-2.result.now)) × IsCircular (map as_needing c.as_slice-2.result.now) =
    subst (λ f. Orders (map as_needing c.as_slice-2.result.now) f) c.in-Stuck.is c.in_ok-positions.ensures in
    let inside : c.in-Stuck.at < length c.args.list =
    subst (λ n. c.in-Stuck.at < n) (ap length listed ∙ length-map c.args.list g.M.Member.needing) stuck.0 in (
      λ qs. ap (λ ns. is_order ns qs) (sym listed) ∙ stuck.1 qs,
      c.in-Stuck.at,
      c.index-as_slice-at.result,
      slice_get_read c.args.list (length c.args.list) c.in-Stuck.at c.index-as_slice-at.result refl inside
          (c.index-as_slice-at.is ∙ ap (λ xs. get_or xs c.in-Stuck.at c.index-as_slice-at.result) c.as_slice-in-Stuck.ensures),
      c.span.ensures,
    )
