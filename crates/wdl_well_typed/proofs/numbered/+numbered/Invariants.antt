use Rattle.std.proofs.Common.{◌≡◌, drop}
use Rattle.wdl_well_typed.specs.Numbers.{all_numbered}
use Rattle.wdl_well_typed.proofs.numbered.+numbered.Given as goal

abbrev pub invariant-all_numbered-loop-statement : goal.invariant-all_numbered-loop-statement
invariant-all_numbered-loop-statement l = all_numbered (drop l.statement-index l.body) ≡ all_numbered l.body
