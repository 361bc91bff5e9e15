use Rattle.std.proofs.Common.{◌+◌, drop}
use Rattle.cwl_image.specs.Subset.{each_broken, input_broken}
use Rattle.cwl_rules.specs.Lowest.{lowest}
use Rattle.cwl_rules.proofs.ListLemmas.{drop_item}
use Rattle.cwl_rules.proofs.LowestLemmas.{each_goes}
use Rattle.cwl_rules.proofs.declaration.inputs_broken.Goals as goal

pub loop-input-preserved : goal.loop-input-preserved
loop-input-preserved c =
    each_goes (input_broken c.args.structs.now c.args.names.now) c.input-item.result (drop c.loop-input.input-index c.args.inputs.now) (drop (c.loop-input.input-index + 1) c.args.inputs.now)
    c.loop-input.found c.in_ok-next.next c.lower-found.result
    (lowest (each_broken (input_broken c.args.structs.now c.args.names.now) c.args.inputs.now))
    (drop_item c.args.inputs.now c.loop-input.input-index c.input-item.result c.loop-input-test.true c.input-item.is)
    c.in_ok-next.ensures c.lower-found.ensures c.loop-input.invariant
