use Rattle.std.proofs.Common.{◌≡◌, length, map}
use Rattle.wdl_check_rules.specs.Functions.{func_among}
use Rattle.wdl_check_rules.proofs.call.func_among.Given as goal

abbrev pub invariant-loop-functions : goal.invariant-loop-functions
invariant-loop-functions l = func_among (map (λ f. (f.0.now, f.1)) l.functions) l.word ≡ func_among (map (λ f. (f.0.now, f.1)) l.fn.functions) l.word

abbrev pub decreases-loop-functions : goal.decreases-loop-functions
decreases-loop-functions l = length l.functions
