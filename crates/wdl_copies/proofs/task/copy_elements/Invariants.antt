use Rattle.std.proofs.Common.{◌≡◌, ◌++◌, drop}
use Rattle.wdl_check_rules.specs.Locals.{stands_for}
use Rattle.wdl_copies.specs.Renamed.{elements_with}
use Rattle.wdl_copies.proofs.task.copy_elements.Given as goal

abbrev pub invariant-loop-element : goal.invariant-loop-element
invariant-loop-element l = l.copies ++ elements_with (stands_for l.locals) (drop l.element-index l.elements) ≡ elements_with (stands_for l.locals) l.elements
