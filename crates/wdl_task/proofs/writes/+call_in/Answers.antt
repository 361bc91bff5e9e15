use Rattle.std.proofs.Common.{sym, ◌∙◌, refl}
use Rattle.wdl_task.proofs.Written.{call_empty, call_first}
use Rattle.wdl_task.proofs.writes.+call_in.Goals as goal

pub returns-in-empty : goal.returns-in-empty
returns-in-empty t c =
    call_empty c.args.e.now c.in-Apply.f c.in-Apply.args c.in-Apply.is (sym c.writes.ensures ∙ c.if-writes.true) (rw c.as_slice.ensures at c.in-empty.len_below)

pub returns-in-len1-up : goal.returns-in-len1-up
returns-in-len1-up t c =
    call_first c.args.e.now c.in-Apply.f c.in-Apply.args _ c.in-Apply.is (sym c.writes.ensures ∙ c.if-writes.true) (rw c.as_slice.ensures at c.in-len1-up.len_at_least) refl
    (rw c.as_slice.ensures at c.argument-item.is)
