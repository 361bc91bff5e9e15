use Rattle.std.proofs.Common.{◌≡◌, ◌++◌, drop, map}
use Rattle.wdl_check_doc.specs.Runnables.{idents_in}
use Rattle.wdl_check_doc.proofs.runnable.idents_of.Given as goal

abbrev pub invariant-loop-section : goal.invariant-loop-section
invariant-loop-section l = map (λ n. n.now) l.idents.items ++ idents_in (drop l.section-index l.sections) ≡ idents_in l.sections
