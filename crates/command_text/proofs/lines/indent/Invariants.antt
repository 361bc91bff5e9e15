use Rattle.std.proofs.Common.{◌≡◌, ◌+◌, drop}
use Rattle.std.specs.List.{prefix_len}
use Rattle.wdl_base.specs.Templates.{is_indent}
use Rattle.command_text.proofs.lines.indent.Given as goal

abbrev pub invariant-loop-at : goal.invariant-loop-at
invariant-loop-at l = l.at + prefix_len is_indent (drop l.at l.bytes) ≡ prefix_len is_indent l.bytes
