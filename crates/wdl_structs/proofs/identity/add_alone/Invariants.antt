use Rattle.std.proofs.Common.{◌≡◌, ℕ, ◌+◌, length}
use Rattle.wdl_structs.specs.Classes.{parent}
use Rattle.wdl_structs.proofs.identity.add_alone.Given as goal

abbrev pub invariant-loop : goal.invariant-loop
invariant-loop l = (length l.parents.items ≡ length l.initial.parents.items + l.counter) × ((i : ℕ) → parent l.parents.items i ≡ i)
