use Rattle.std.proofs.Common.{◌≡◌, ◌++◌, ◌-◌, map}
use Rattle.std.specs.List.{concat, range_with_len}
use Rattle.wdl_load.specs.Loads.{call_line}
use Rattle.wdl_load.proofs.text.push_calls.Given as goal

abbrev pub invariant-loop-number : goal.invariant-loop-number
invariant-loop-number l =
    l.text ++ concat (map call_line (range_with_len l.number (l.count - l.number))) ≡ l.initial.text ++ concat (map call_line (range_with_len 1 (l.count - 1)))
