use Rattle.std.proofs.Common.{rules, ◌<◌, [], length, sym, subst}
use Rattle.wdl_order.proofs.Keeping.{kept_marked}
use Rattle.wdl_order.proofs.Numbers.{has_first}
use Rattle.wdl_order.specs.Working.{AreKept}
use Rattle.std.specs.List.{slice_set}
use Rattle.std.proofs.Common.{true}
use Rattle.wdl_order.proofs.working.Working.mark.Goals as goal

pub index_mut-requires : goal.index_mut-requires
index_mut-requires c =
    let l : c.args.member < length c.args.self.now.placed.items =
    subst (λ n. c.args.member < n) (sym c.requires.1.sized.flags) (c.requires.1.pending c.args.member (has_first c.args.member [])).0 in
    search rules

pub returns-clause-kept : goal.returns-clause-kept
returns-clause-kept c = λ need k f.
    let m = kept_marked need _ _ _ _ c.args.member k f in
    subst (λ rows. AreKept need c.args.self.now.left.items rows (slice_set c.args.self.now.placed.items c.args.member true) c.args.self.now.ready c.take_at.result)
    (sym c.take_at.ensures.rest)
    (subst (λ ns. AreKept need c.args.self.now.left.items (slice_set c.args.self.now.waiting.items c.args.member [])
    (slice_set c.args.self.now.placed.items c.args.member true) c.args.self.now.ready ns) (sym c.take_at.ensures.taken) m)
