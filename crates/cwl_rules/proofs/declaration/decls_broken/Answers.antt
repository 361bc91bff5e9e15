use Rattle.std.proofs.Common.{◌+◌, drop}
use Rattle.cwl_image.specs.Subset.{each_broken}
use Rattle.cwl_rules.specs.Lowest.{lowest}
use Rattle.cwl_rules.specs.Roles.{decl_broken}
use Rattle.cwl_rules.proofs.ListLemmas.{drop_item}
use Rattle.cwl_rules.proofs.LowestLemmas.{each_goes}
use Rattle.cwl_rules.proofs.declaration.decls_broken.Goals as goal

pub loop-d-preserved : goal.loop-d-preserved
loop-d-preserved c =
    each_goes (decl_broken c.args.role c.args.structs.now c.args.names.now) c.d-item.result (drop c.loop-d.d-index c.args.decls.now) (drop (c.loop-d.d-index + 1) c.args.decls.now)
    c.loop-d.found c.in_ok-next.next c.lower-found.result
    (lowest (each_broken (decl_broken c.args.role c.args.structs.now c.args.names.now) c.args.decls.now))
    (drop_item c.args.decls.now c.loop-d.d-index c.d-item.result c.loop-d-test.true c.d-item.is)
    c.in_ok-next.ensures c.lower-found.ensures c.loop-d.invariant
