use Rattle.std.proofs.Common.{◌≡◌, ◌==◌, ◌||◌, ◌&&◌, ℕ, List, drop}
use Rattle.wdl_order.specs.Names.{givers_of}
use Rattle.wdl_typed.specs.Lists.{has_name, has_number}
use Rattle.wdl_order.proofs.givers.add_all.Given as goal

abbrev pub invariant-loop-name : goal.invariant-loop-name
invariant-loop-name l = (x : List ℕ) (q : ℕ)
    → (has_number q (givers_of l.givers x) || (has_name x (drop l.name-index l.names) && (l.member == q)))
    ≡ (has_number q (givers_of l.initial.givers x) || (has_name x l.names && (l.member == q)))
