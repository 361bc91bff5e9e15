use Rattle.std.proofs.Common.{◌≡◌, drop}
use Rattle.wdl_value.specs.declared.ty.Ty.TheVariants as ty
use Rattle.wdl_check_rules.specs.Rules.{join_all, types_of}
use Rattle.wdl_check_rules.proofs.collection.items_join.Given as goal

abbrev pub invariant-loop-item : goal.invariant-loop-item
invariant-loop-item l = join_all l.joined (types_of (drop l.item-index l.items)) ≡ join_all ty.Empty (types_of l.items)
