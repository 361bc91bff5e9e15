use Rattle.std.proofs.Common.{◌≡◌, ◌++◌, drop}
use Rattle.wdl_check_rules.specs.Locals.{stands_for}
use Rattle.wdl_copies.specs.Expressions.{renamed}
use Rattle.wdl_copies.specs.Parts.{entries_with, items_with, members_with, parts_with}
use Rattle.wdl_copies.proofs.expr.+copy_expr.Given as goal

abbrev pub invariant-items-loop-item : goal.invariant-items-loop-item
invariant-items-loop-item l = l.done ++ items_with (renamed (stands_for l.locals)) (drop l.item-index l.items) ≡ items_with (renamed (stands_for l.locals)) l.items

abbrev pub invariant-entries-loop-item : goal.invariant-entries-loop-item
invariant-entries-loop-item l = l.done ++ entries_with (renamed (stands_for l.locals)) (drop l.item-index l.entries) ≡ entries_with (renamed (stands_for l.locals)) l.entries

abbrev pub invariant-members-loop-item : goal.invariant-members-loop-item
invariant-members-loop-item l = l.done ++ members_with (renamed (stands_for l.locals)) (drop l.item-index l.members) ≡ members_with (renamed (stands_for l.locals)) l.members

abbrev pub invariant-string_parts-loop-part : goal.invariant-string_parts-loop-part
invariant-string_parts-loop-part l = l.done ++ parts_with (renamed (stands_for l.locals)) (drop l.part-index l.parts) ≡ parts_with (renamed (stands_for l.locals)) l.parts
