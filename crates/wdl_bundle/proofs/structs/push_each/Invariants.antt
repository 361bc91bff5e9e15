use Rattle.std.proofs.Common.{◌≡◌, ◌++◌, drop, map}
use Rattle.wdl_check_rules.specs.Locals.{stands_for}
use Rattle.wdl_bundle.specs.StructSections.{declared_of, struct_sections}
use Rattle.wdl_bundle.proofs.structs.push_each.Given as goal

abbrev pub invariant-loop-def : goal.invariant-loop-def
invariant-loop-def l = l.sections ++ struct_sections (stands_for l.own) (map declared_of l.declared) (drop l.def-index l.structs)
    ≡ l.initial.sections ++ struct_sections (stands_for l.own) (map declared_of l.declared) l.structs
