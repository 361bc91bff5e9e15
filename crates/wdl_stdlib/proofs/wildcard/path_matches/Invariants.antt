use Rattle.std.proofs.Common.{◌≡◌, length}
use Rattle.wdl_value.specs.Paths.{path_matches}
use Rattle.wdl_stdlib.proofs.wildcard.path_matches.Given as goal

abbrev pub invariant-loop-parts : goal.invariant-loop-parts
invariant-loop-parts l = path_matches l.pattern l.name ≡ path_matches l.fn.pattern l.fn.name

abbrev pub decreases-loop-parts : goal.decreases-loop-parts
decreases-loop-parts l = length l.pattern
