use Rattle.std.proofs.Common.{◌≡◌, ◌++◌, drop}
use Rattle.wdl_typed.specs.Flow.{each_key}
use Rattle.wdl_plain.specs.Views.{knowns_of}
use Rattle.wdl_plain.proofs.giving.each_key.Given as goal

abbrev pub invariant-loop-key : goal.invariant-loop-key
invariant-loop-key l = knowns_of l.knowns ++ each_key l.value (drop l.key-index l.keys) ≡ each_key l.value l.keys
