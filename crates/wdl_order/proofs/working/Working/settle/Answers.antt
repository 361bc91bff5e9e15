use Rattle.std.proofs.Common.{rules, ◌≡◌, true, false, sym, subst}
use Rattle.std.proofs.lemmas.Result.{on_ok_weaker}
use Rattle.wdl_order.proofs.Keeping.{kept_trimmed, kept_waiting, kept_ready}
use Rattle.wdl_order.proofs.Numbers.{has_first}
use Rattle.wdl_order.specs.Rows.{has, is_set}
use Rattle.wdl_order.specs.Working.{AreKept, Trims}
use Rattle.wdl_order.proofs.working.Working.settle.Goals as goal

pub trim-requires-clause-inside : goal.trim-requires-clause-inside
trim-requires-clause-inside c = (c.requires.2.pending c.args.member (has_first c.args.member c.requires.1)).0

pub returns-in-Some-clause-kept : goal.returns-in-Some-clause-kept
returns-in-Some-clause-kept c =
    let trims : Trims c.args.self.now.left.items c.trim.new.left.items c.args.self.now.placed.items c.args.member =
    subst (λ flags. Trims c.args.self.now.left.items c.trim.new.left.items flags c.args.member) c.as_slice.ensures.value c.in_ok-need.ensures.trims in
    let next : (has c.trim.new.left.items c.args.member c.in-Some.need ≡ true) × (is_set c.args.self.now.placed.items c.in-Some.need ≡ false) = search rules in
    on_ok_weaker c.push_at.result (λ e need rest k.
    let t = kept_trimmed need _ c.trim.new.left.items _ _ _ _ c.args.member k trims in
    let w = kept_waiting need _ _ _ _ rest c.args.member c.in-Some.need t next.0 next.1 in
    subst (λ rows. AreKept need c.trim.new.left.items rows c.args.self.now.placed.items c.args.self.now.ready rest) (sym e) w)
    c.push_at.ensures

pub returns-in_ok-insert-in-None-clause-kept : goal.returns-in_ok-insert-in-None-clause-kept
returns-in_ok-insert-in-None-clause-kept c =
    let trims : Trims c.args.self.now.left.items c.trim.new.left.items c.args.self.now.placed.items c.args.member =
    subst (λ flags. Trims c.args.self.now.left.items c.trim.new.left.items flags c.args.member) c.as_slice.ensures.value c.in_ok-need.ensures.trims in
    λ need rest k. kept_ready need _ _ _ _ _ rest c.args.member
    (kept_trimmed need _ c.trim.new.left.items _ _ _ _ c.args.member k trims) (search rules) c.in_ok-insert-in-None.ensures.updates
