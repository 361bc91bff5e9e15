use Rattle.wdl_structs.specs.Tables.{names_of}
use Rattle.wdl_structs.proofs.StepLaws.{seen_is}
use Rattle.wdl_structs.proofs.seen.table_of.Goals as goal

pub returns : goal.returns
returns c =
    seen_is (names_of c.args.tables.now) c.args.doc.now c.empty-table.result c.add_own.new.table c.add_imported.new.table c.as_slice-sections.result.now c.as_slice.result.now
    c.empty-table.ensures c.in_ok-add_own.ensures c.in_ok-add_imported.ensures c.as_slice-sections.ensures c.as_slice.ensures
