use Rattle.std.proofs.Common.{◌≡◌, ◌++◌, drop}
use Rattle.wdl_ast.specs.DocumentWords.{each, task_element_words}
use Rattle.wdl_ast.proofs.tokens.task.push_elements.Given as goal

abbrev pub invariant-loop-element : goal.invariant-loop-element
invariant-loop-element l = l.out ++ each task_element_words (drop l.element-index l.elements) ≡ l.fn.out ++ each task_element_words l.elements
