use Rattle.std.proofs.Common.{◌≡◌, ◌++◌, length}
use Rattle.wdl_imports.proofs.LinkLaws.{with_links}
use Rattle.wdl_imports.proofs.link.docs_of.Given as goal

abbrev pub invariant-loop-source : goal.invariant-loop-source
invariant-loop-source l =
    (l.docs ++ with_links l.source-iterator l.links ≡ with_links l.fn.sources l.initial.links)
    × (length l.links ≡ length l.source-iterator)
