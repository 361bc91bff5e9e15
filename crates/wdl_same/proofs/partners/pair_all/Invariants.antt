use Rattle.std.proofs.Common.{◌≡◌, drop}
use Rattle.wdl_same.specs.Partners.{all_paired}
use Rattle.wdl_same.proofs.partners.pair_all.Given as goal

abbrev pub invariant-loop-call : goal.invariant-loop-call
invariant-loop-call l =
    all_paired l.partners.items (drop l.call-index l.calls) l.left ≡ all_paired l.initial.partners.items l.calls l.others
