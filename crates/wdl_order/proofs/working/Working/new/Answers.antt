use Rattle.std.proofs.Common.{rules, ◌+◌, ◌-◌, ◌<◌, ℕ, length, ◌∙◌, subst, arith}
use Rattle.std.specs.List.{range_with_len}
use Rattle.wdl_order.proofs.Numbers.{has_range, range_below, range_first}
use Rattle.wdl_order.specs.Rows.{has}
use Rattle.wdl_order.specs.Working.{IsKept}
use Rattle.wdl_order.proofs.working.Working.new.Goals as goal

pub loop-member-init : goal.loop-member-init
loop-member-init c =
    let count : ℕ = length c.args.needs.items in
    record {
      placed = c.in_ok-work.ensures.placed;
      kept = c.in_ok-work.ensures.kept (range_with_len 0 (count - 0))
          (λ k h. let l = range_below 0 (count - 0) k h in omega arith)
          (λ p l. has_range 0 (count - 0) p (omega arith) (omega arith));
    }

pub settle-requires : goal.settle-requires
settle-requires c =
    let count : ℕ = length c.args.needs.items in
    let l : c.loop-member.member < length c.args.needs.items = search rules in (
      has c.args.needs.items,
      range_with_len (c.loop-member.member + 1) (count - (c.loop-member.member + 1)),
      subst (λ ns. IsKept (has c.args.needs.items) c.loop-member.work ns) (range_first c.loop-member.member count l) c.loop-member.invariant.kept,
    )

pub loop-member-preserved : goal.loop-member-preserved
loop-member-preserved c =
    let count : ℕ = length c.args.needs.items in
    let l : c.loop-member.member < length c.args.needs.items = search rules in
    record {
      placed = c.in_ok-settle.ensures.flags ∙ c.loop-member.invariant.placed;
      kept = c.in_ok-settle.ensures.kept (has c.args.needs.items) (range_with_len (c.loop-member.member + 1) (count - (c.loop-member.member + 1)))
          (subst (λ ns. IsKept (has c.args.needs.items) c.loop-member.work ns) (range_first c.loop-member.member count l) c.loop-member.invariant.kept);
    }
