use Rattle.wdl_structs.proofs.ClassLaws.{hung_low, joined_back}
use Rattle.wdl_structs.proofs.class.join.Goals as goal

pub returns-then-first-second-clause-joined : goal.returns-then-first-second-clause-joined
returns-then-first-second-clause-joined c =
    hung_low c.args.parents.now c.args.left c.args.right c.least-first.result c.least-second.result c.requires.low c.requires.right c.least-first.ensures.root c.least-second.ensures.root

pub returns-else-first-second-clause-joined : goal.returns-else-first-second-clause-joined
returns-else-first-second-clause-joined c =
    joined_back c.args.parents.now _ c.args.right c.args.left
    (hung_low c.args.parents.now c.args.right c.args.left c.least-second.result c.least-first.result c.requires.low c.requires.left c.least-second.ensures.root c.least-first.ensures.root)
