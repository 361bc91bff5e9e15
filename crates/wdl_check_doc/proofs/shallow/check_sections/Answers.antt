use Rattle.std.proofs.Common.{◌+◌, drop, rules}
use Rattle.wdl_library.specs.Sections.{structs_in}
use Rattle.wdl_check_doc.proofs.Lists.{all_end, all_err, all_on}
use Rattle.wdl_check_doc.proofs.Sections.{structs_next, structs_same, structs_end}
use Rattle.wdl_check_doc.proofs.shallow.check_sections.Goals.{in-Struct+in_ok-check_section, in_default}
use Rattle.wdl_check_doc.proofs.shallow.check_sections.Goals as goal

pub returns-in_err-check_section : goal.returns-in_err-check_section
returns-in_err-check_section c =
    let h = all_err _ (structs_in (drop c.loop-section.section-index c.args.sections.now)) c.in-Struct.declared (structs_in (drop (c.loop-section.section-index + 1) c.args.sections.now)) _ c.in_err-check_section.field-0.0
    (structs_next c.args.sections.now c.loop-section.section-index c.section-item.result c.in-Struct.declared c.loop-section-test.true c.section-item.is c.in-Struct.is) c.loop-section.invariant c.in_err-check_section.ensures in
    search rules

pub loop-section-preserved : goal.loop-section-preserved
loop-section-preserved c = elim c.match-section.branch [
  | in-Struct+in_ok-check_section w ↦
      all_on _ (structs_in (drop c.loop-section.section-index c.args.sections.now)) w.in-Struct.declared (structs_in (drop (c.loop-section.section-index + 1) c.args.sections.now)) _
      (structs_next c.args.sections.now c.loop-section.section-index c.section-item.result w.in-Struct.declared c.loop-section-test.true c.section-item.is w.in-Struct.is) c.loop-section.invariant w.in_ok-check_section.ensures
  | in_default w ↦
      structs_same _ c.args.sections.now c.loop-section.section-index c.section-item.result _ c.loop-section-test.true c.section-item.is w.in_default.not-Struct c.loop-section.invariant
]

pub returns : goal.returns
returns c = all_end _ _ _ (structs_end c.args.sections.now c.loop-section.section-index c.loop-section-test.false) c.loop-section.invariant
