use Rattle.std.proofs.Common.{◌≡◌, ◌++◌, drop}
use Rattle.cwl_image.specs.Image.{body_uses}
use Rattle.cwl_flow.specs.Drafts.{drafts_of}
use Rattle.cwl_flow.proofs.uses.+uses.Given as goal

abbrev pub invariant-used_outside-loop-statement : goal.invariant-used_outside-loop-statement
invariant-used_outside-loop-statement l = l.uses ++ body_uses (drafts_of l.context (drop l.statement-index l.body)) ≡ body_uses (drafts_of l.context l.body)
