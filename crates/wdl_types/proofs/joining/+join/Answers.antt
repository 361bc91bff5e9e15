use Rattle.std.proofs.Common.{◌≡◌, option_map, sym, ap, ◌∙◌}
use Rattle.wdl_value.specs.declared.ty.Ty.{Ty, out-Ty, map-Ty}
use Rattle.wdl_value.specs.Join.{Joiner, join, marked, plain_join}
use Rattle.wdl_types.proofs.JoinLemmas.{join-plain}
use Rattle.wdl_types.proofs.joining.+join.Goals as goal

pub join-returns-in_ok-join_plain-in_default : goal.join-returns-in_ok-join_plain-in_default
join-returns-in_ok-join_plain-in_default t c =
    let ot = c.args.t.now in
    let ou = c.args.u.now in
    let e : join ot ou ≡ option_map (marked ou) c.in_ok-join_plain-in_default.field-0 =
    join-plain ot ou c.in_default.not-Opt c.in_default.not-Absent c.in_default.not-Empty
    ∙ sym (ap (option_map (marked ou)) (c.in_ok-join_plain-in_default.ensures ∙ ap (plain_join ot (map-Ty Ty Joiner join (out-Ty ot))) c.bare_type.ensures)) in
    rw e c.marked.ensures
