use Rattle.std.proofs.Common.{◌≡◌, ◌++◌, drop}
use Rattle.wdl_check_rules.specs.Locals.{stands_for}
use Rattle.wdl_copies.specs.Expressions.{renamed}
use Rattle.wdl_copies.specs.Parts.{parts_with}
use Rattle.wdl_copies.proofs.task.copy_command.Given as goal

abbrev pub invariant-loop-part : goal.invariant-loop-part
invariant-loop-part l = l.parts ++ parts_with (renamed (stands_for l.locals)) (drop l.part-index l.section.parts) ≡ parts_with (renamed (stands_for l.locals)) l.section.parts
