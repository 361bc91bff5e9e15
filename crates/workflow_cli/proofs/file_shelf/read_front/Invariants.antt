use Rattle.std.proofs.Common.{vec_len, ◌-◌}
use Rattle.workflow_cli.proofs.file_shelf.read_front.Given as goal

abbrev pub decreases-loop-piece : goal.decreases-loop-piece
decreases-loop-piece g l = l.limit - vec_len l.bytes
