use Rattle.std.proofs.Common.{◌≡◌, ◌++◌, drop}
use Rattle.cwl_image.specs.Image.{body_links}
use Rattle.cwl_flow.specs.Drafts.{drafts_of}
use Rattle.cwl_flow.proofs.links.+links.Given as goal

abbrev pub invariant-body_links-loop-statement : goal.invariant-body_links-loop-statement
invariant-body_links-loop-statement l = l.links ++ body_links (drafts_of l.context (drop l.statement-index l.body)) ≡ body_links (drafts_of l.context l.body)
