use Rattle.std.proofs.Common.{◌≡◌, ◌++◌, drop}
use Rattle.cwl_image.specs.Image.{body_links, body_steps}
use Rattle.cwl_flow.specs.Drafts.{drafts_of}
use Rattle.cwl_flow.proofs.walk.+walk.Given as goal

abbrev pub invariant-body_steps-loop-statement : goal.invariant-body_steps-loop-statement
invariant-body_steps-loop-statement g l =
    (l.steps ++ body_steps (drafts_of l.context (drop l.statement-index l.body)) l.scope ≡ body_steps (drafts_of l.context l.body) l.initial.scope)
    × (l.scope ++ body_links (drafts_of l.context (drop l.statement-index l.body)) ≡ l.initial.scope ++ body_links (drafts_of l.context l.body))
