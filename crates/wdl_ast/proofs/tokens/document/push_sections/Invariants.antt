use Rattle.std.proofs.Common.{◌≡◌, ◌++◌, drop}
use Rattle.wdl_ast.specs.DocumentWords.{each, section_words}
use Rattle.wdl_ast.proofs.tokens.document.push_sections.Given as goal

abbrev pub invariant-loop-section : goal.invariant-loop-section
invariant-loop-section l = l.out ++ each section_words (drop l.section-index l.sections) ≡ l.fn.out ++ each section_words l.sections
