use Rattle.std.proofs.Common.{◌≡◌, [], sym, ap, ◌∙◌}
use Rattle.std.proofs.lemmas.List.{get_or_default}
use Rattle.wdl_typed.specs.Lists.{has_number}
use Rattle.wdl_order.specs.Rows.{row}
use Rattle.wdl_order.proofs.working.trim.Goals as goal

pub next_unset-requires : goal.next_unset-requires
next_unset-requires c =
    let e : c.index_mut.result.now ≡ row c.args.left.now.items c.args.member =
    c.index_mut.ensures.value ∙ get_or_default c.args.left.now.items c.args.member c.index_mut.result.now [] c.requires.inside in
    λ k h. c.requires.within k (ap (has_number k) (sym e) ∙ h)
