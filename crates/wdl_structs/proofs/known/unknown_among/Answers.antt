use Rattle.wdl_structs.specs.Tables.{named}
use Rattle.wdl_structs.proofs.StepLaws.{known_more}
use Rattle.wdl_structs.proofs.TableLaws.{found_among}
use Rattle.wdl_structs.proofs.known.unknown_among.Goals as goal

pub loop-alias-preserved : goal.loop-alias-preserved
loop-alias-preserved c =
    known_more (named c.args.index.now) c.args.aliases.now c.loop-alias.alias-index c.alias-item.result c.loop-alias-test.true c.alias-item.is
    (found_among c.place.result (named c.args.index.now) c.alias-item.result.from.name c.if-is_none.ensures c.place.ensures.some) c.loop-alias.invariant
