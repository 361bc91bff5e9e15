use Rattle.std.proofs.Common.{◌≡◌, ◌++◌, drop, map}
use Rattle.wdl_library.specs.Sections.{structs_in}
use Rattle.wdl_check_rules.specs.Locals.{stands_for}
use Rattle.wdl_bundle.specs.StructSections.{declared_in, declared_of}
use Rattle.wdl_bundle.proofs.structs.push_declared.Given as goal

abbrev pub invariant-loop-section : goal.invariant-loop-section
invariant-loop-section l = map declared_of l.declared.items ++ declared_in (stands_for l.known.locals) (structs_in (drop l.section-index l.known.doc.now.document.sections))
    ≡ map declared_of l.initial.declared.items ++ declared_in (stands_for l.known.locals) (structs_in l.known.doc.now.document.sections)
