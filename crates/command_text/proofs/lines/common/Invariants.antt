use Rattle.std.proofs.Common.{◌≡◌, ◌+◌, ◌==◌, drop}
use Rattle.std.specs.List.{common_prefix_len}
use Rattle.command_text.proofs.lines.common.Given as goal

abbrev pub invariant-loop-at : goal.invariant-loop-at
invariant-loop-at l =
    l.at + common_prefix_len (λ a b. a == b) (drop l.at l.left) (drop l.at l.right)
    ≡ common_prefix_len (λ a b. a == b) l.left l.right
