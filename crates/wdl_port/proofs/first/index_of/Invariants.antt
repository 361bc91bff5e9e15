use Rattle.std.proofs.Common.{◌≡◌, ◌≤◌, ℕ, List, drop, length}
use Rattle.std.specs.BTreeMap.{get_by_text}
use Rattle.wdl_port.specs.Table.{first_at}
use Rattle.wdl_port.proofs.first.index_of.Given as goal

abbrev pub invariant-loop-i : goal.invariant-loop-i
invariant-loop-i l = record {
  within : l.i ≤ length l.rows;
  index : (text : List ℕ) → get_by_text l.first text ≡ first_at l.i (drop l.i l.rows) text;
}

abbrev pub decreases-loop-i : goal.decreases-loop-i
decreases-loop-i l = l.i
