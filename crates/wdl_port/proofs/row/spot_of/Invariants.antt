use Rattle.std.proofs.Common.{◌-◌, ◌≡◌, ◌≤◌, true, ◌++◌, length, take, drop}
use Rattle.wdl_port.specs.Rows.{is_under, put_row}
use Rattle.wdl_port.proofs.row.spot_of.Given as goal

abbrev pub invariant-loop-low : goal.invariant-loop-low
invariant-loop-low l = record {
  order : l.low ≤ l.high;
  within : l.high ≤ length l.rows;
  behind : put_row l.row l.rows ≡ take l.low l.rows ++ put_row l.row (drop l.low l.rows);
  before : is_under l.row (drop l.high l.rows) ≡ true;
}

abbrev pub decreases-loop-low : goal.decreases-loop-low
decreases-loop-low l = l.high - l.low
