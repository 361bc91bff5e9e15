use Rattle.std.proofs.Common.{◌∙◌}
use Rattle.wdl_paths.proofs.SegmentLemmas.{ends_at}
use Rattle.wdl_paths.proofs.segment.ends_folder.Goals as goal

pub returns-in-Some : goal.returns-in-Some
returns-in-Some c = c.is_folder.ensures ∙ ends_at c.args.kept.now c.in-Some.last.now c.in-Some.ensures.value
