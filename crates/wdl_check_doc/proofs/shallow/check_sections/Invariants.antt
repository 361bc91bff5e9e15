use Rattle.std.proofs.Common.{drop}
use Rattle.wdl_library.specs.Sections.{structs_in}
use Rattle.wdl_check_decls.proofs.ListLaws.{Leads}
use Rattle.wdl_check_rules.specs.Locals.{stands_for}
use Rattle.wdl_check_doc.specs.Outcomes.{all}
use Rattle.wdl_check_doc.specs.Structs.{section_nests}
use Rattle.wdl_check_doc.proofs.shallow.check_sections.Given as goal

abbrev pub invariant-loop-section : goal.invariant-loop-section
invariant-loop-section l = Leads (all (section_nests l.structs (stands_for l.locals)) (structs_in (drop l.section-index l.sections))) (all (section_nests l.structs (stands_for l.locals)) (structs_in l.sections))
