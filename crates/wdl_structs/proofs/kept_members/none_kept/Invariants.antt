use Rattle.std.proofs.Common.{◌≡◌, ℕ, List, length}
use Rattle.wdl_value.specs.declared.ty.Member.{Member}
use Rattle.wdl_structs.specs.Kept.{Has}
use Rattle.wdl_structs.proofs.kept_members.none_kept.Given as goal

abbrev pub invariant-loop : goal.invariant-loop
invariant-loop l = (length l.kept ≡ l.counter) × ((j : ℕ) (x : List Member) → Has l.kept j x → ⊥)
