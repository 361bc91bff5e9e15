use Rattle.std.proofs.Common.{◌≡◌, ◌&&◌, ℕ, List, map, nat_lt}
use Rattle.wdl_order.specs.Names.{as_needing, gives_at, givers_of}
use Rattle.wdl_typed.specs.Lists.{has_number}
use Rattle.wdl_order.proofs.givers.givers_in.Given as goal

abbrev pub invariant-loop-member : goal.invariant-loop-member
invariant-loop-member l = (x : List ℕ) (q : ℕ)
    → has_number q (givers_of l.givers x) ≡ (nat_lt q l.member && gives_at (map as_needing l.all) q x)
