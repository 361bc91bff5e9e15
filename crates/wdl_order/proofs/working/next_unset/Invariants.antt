use Rattle.std.proofs.Common.{◌≡◌, ℕ, true, ◌⊎◌, length}
use Rattle.wdl_order.specs.Rows.{AllBelow, is_set}
use Rattle.wdl_typed.specs.Lists.{has_number}
use Rattle.wdl_order.proofs.working.next_unset.Given as goal

abbrev pub invariant-loop-number : goal.invariant-loop-number
invariant-loop-number l = record {
  within : AllBelow (length l.flags) l.numbers;
  less : (q : ℕ) → has_number q l.numbers ≡ true → has_number q l.initial.numbers ≡ true;
  lost : (q : ℕ) → has_number q l.initial.numbers ≡ true → (is_set l.flags q ≡ true) ⊎ (has_number q l.numbers ≡ true);
}

abbrev pub decreases-loop-number : goal.decreases-loop-number
decreases-loop-number l = length l.numbers
