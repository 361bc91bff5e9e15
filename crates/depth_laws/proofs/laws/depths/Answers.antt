use Rattle.depth_laws.proofs.SameAtDepth.{depths_agree, whole_is_deepest}
use Rattle.depth_laws.proofs.laws.depths.Goals as goal

pub returns : goal.returns
returns c = record { agree = depths_agree; whole = whole_is_deepest }
