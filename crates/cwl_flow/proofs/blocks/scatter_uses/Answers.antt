use Rattle.std.proofs.Common.{[], ◌∷◌, ap, ◌∙◌}
use Rattle.wdl_typed.specs.Declarations.{plain_key}
use Rattle.cwl_image.specs.Image.{outer_uses}
use Rattle.cwl_flow.specs.Drafts.{drafts_of}
use Rattle.cwl_flow.proofs.BlockSteps.{is_as}
use Rattle.cwl_flow.proofs.blocks.scatter_uses.Goals as goal

pub returns : goal.returns
returns c =
    is_as c.outer_uses.result _ _
    (ap (λ is. outer_uses is (drafts_of c.args.context.now c.as_slice.result.now)) c.in_ok-item.ensures
    ∙ ap (λ ss. outer_uses (plain_key c.args.scatter.now.item ∷ []) (drafts_of c.args.context.now ss)) c.as_slice.ensures)
    c.outer_uses.ensures
