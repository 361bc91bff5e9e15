use Rattle.std.proofs.Common.{◌≡◌, ◌-◌, ℕ, List, [], Some, length, slice_get, sym, ap, ◌∙◌}
use Rattle.std.proofs.lemmas.List.{get_or_default}
use Rattle.std.specs.Option.{option_copied}
use Rattle.wdl_order.proofs.Numbers.{has_got}
use Rattle.wdl_order.specs.Rows.{row}
use Rattle.wdl_typed.specs.Lists.{has_number}
use Rattle.wdl_order.proofs.working.Working.on_circle.Goals as goal

pub loop-preserved : goal.loop-preserved
loop-preserved c =
    let numbers : List ℕ = c.as_slice-in-loop.result.now in
    let here : c.as_slice-in-loop.result.now ≡ row c.args.self.now.left.items c.loop.at =
    c.as_slice-in-loop.ensures ∙ c.index.ensures ∙ get_or_default c.args.self.now.left.items c.loop.at c.index.result.now [] c.loop.invariant in
    let got : slice_get c.as_slice-in-loop.result.now (length c.as_slice-in-loop.result.now - 1) ≡ Some c.in-Some.need.now =
    sym c.last.ensures.value ∙ ap option_copied c.in-Some.is in
    c.requires.sized.in_left c.loop.at c.in-Some.need.now
    (ap (has_number c.in-Some.need.now) (sym here) ∙ has_got numbers (length numbers - 1) c.in-Some.need.now got)
