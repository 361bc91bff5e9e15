use Rattle.std.proofs.Common.{length}
use denote.Text.{Utf8}
use denote.Shadow.{shadow}
use Rattle.wdl_paths.specs.Keeping.{Follows}
use Rattle.wdl_paths.proofs.segment.put_folder.Given as goal

abbrev pub invariant-segments : goal.invariant-segments
invariant-segments l = shadow (Utf8 l.rest) × Follows l.fn.kept.items l.text l.kept.items l.rest

abbrev pub decreases-segments : goal.decreases-segments
decreases-segments l = length l.rest
