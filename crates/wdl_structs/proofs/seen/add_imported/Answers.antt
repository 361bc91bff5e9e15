use Rattle.std.proofs.Common.{refl}
use Rattle.wdl_structs.specs.Tables.{names_of}
use Rattle.wdl_structs.proofs.StepLaws.{first_rest, import_more}
use Rattle.wdl_structs.proofs.seen.add_imported.Goals as goal

pub loop-section-preserved : goal.loop-section-preserved
loop-section-preserved c =
    let l = c.loop-section in
    import_more (names_of c.args.tables.now) l.table c.add_import.new.table _ c.args.sections.now l.section-index c.section-item.result c.in-Import.import l.left.now _ c.link-item.result
    c.loop-section-test.true c.section-item.is c.in-Import.is (first_rest l.left.now _ c.link-item.result c.in-len1-up.len_at_least c.link-item.is refl) c.in_ok-add_import.ensures l.invariant
