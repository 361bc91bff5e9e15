use Rattle.std.proofs.Common.{ap, ◌∙◌, List, get_or}
use Rattle.wdl_library.specs.Names.{aliases_for, or_itself, given_for}
use Rattle.wdl_structs.specs.Tables.{Names}
use Rattle.wdl_structs.proofs.TableLaws.{named_more, group_at}
use Rattle.wdl_structs.proofs.renamed.given.Goals as goal

pub loop-at-preserved : goal.loop-at-preserved
loop-at-preserved c =
    let l = c.loop-at in
    let e = c.index-entries-at.result in
    let group = c.index.result.now in
    c.in_ok-push.ensures.ok
    ∙ named_more (given_for c.args.aliases.now) c.args.entries.now l.at e l.all c.in_ok-or_itself.field-0 c.loop-at-test.true c.index-entries-at.is l.invariant
    (c.in_ok-or_itself.ensures
    ∙ ap (or_itself e.name) (c.as_slice.ensures ∙ c.index.ensures ∙ ap (λ (gs : List Names). get_or gs l.at group) c.in_ok-groups.ensures
    ∙ group_at (aliases_for c.args.aliases.now) c.args.entries.now l.at e group c.loop-at-test.true c.index-entries-at.is))
