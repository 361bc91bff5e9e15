use Rattle.wdl_bundle.proofs.Whole.{whole}
use Rattle.wdl_bundle.proofs.bundling.bundled_over.Goals as goal

pub returns : goal.returns
returns c =
    whole c.args.structs.now c.args.knowns.now c.args.offers.now c.in-Some.first.now c.in-Some-first.own.now c.bundled_with.result
    c.in-Some.ensures.value c.in-Some-first.ensures.value c.bundled_with.ensures
