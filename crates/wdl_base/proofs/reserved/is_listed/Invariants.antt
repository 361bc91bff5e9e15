use Rattle.std.proofs.Common.{◌≡◌, length, map}
use Rattle.wdl_base.specs.Names.{is_among}
use Rattle.wdl_base.proofs.reserved.is_listed.Given as goal

abbrev pub invariant-loop-words : goal.invariant-loop-words
invariant-loop-words l = is_among l.word (map (λ w. w.now) l.words) ≡ is_among l.word (map (λ w. w.now) l.fn.words)

abbrev pub decreases-loop-words : goal.decreases-loop-words
decreases-loop-words l = length l.words
