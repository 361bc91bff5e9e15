use Rattle.std.proofs.Common.{◌≡◌, length, map}
use Rattle.wdl_base.specs.Templates.{common_indent}
use Rattle.command_text.proofs.lines.common_indent.Given as goal

abbrev pub invariant-loop-lines : goal.invariant-loop-lines
invariant-loop-lines l = common_indent (map (λ s. s.now) l.lines) ≡ common_indent (map (λ s. s.now) l.initial.lines)

abbrev pub decreases-loop-lines : goal.decreases-loop-lines
decreases-loop-lines l = length l.lines
