use Rattle.std.proofs.Common.{refl}
use Rattle.cwl_flow.specs.Drafts.{library_of}
use Rattle.cwl_flow.proofs.BlockSteps.{has_main, main_is}
use Rattle.cwl_flow.proofs.subset.translate.Goals as goal

pub unreachable-requires : goal.unreachable-requires
unreachable-requires c = has_main (library_of c.checked-checked.result.now) c.checked-checked.result.now.main c.in-None.is c.checked-checked.ensures.kept

pub returns : goal.returns
returns c =
    main_is c.args.subset.now.checked c.checked-checked.result.now 25 c.in-Some.main c.process_at.result c.checked-checked.ensures.checked c.in-Some.is refl c.process_at.ensures
