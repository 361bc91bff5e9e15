use Rattle.std.proofs.Common.{◌≡◌, map, take}
use Rattle.wdl_imports.proofs.collect.paths_of.Given as goal

abbrev pub invariant-loop-doc : goal.invariant-loop-doc
invariant-loop-doc l = l.paths ≡ map (λ d. d.path) (take l.doc-index l.docs)
