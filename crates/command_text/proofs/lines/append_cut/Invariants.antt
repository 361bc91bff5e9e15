use Rattle.std.proofs.Common.{◌≡◌, ◌++◌, drop, map, string_bytes}
use Rattle.wdl_base.specs.Templates.{cut}
use Rattle.command_text.specs.Marks.{led}
use Rattle.command_text.proofs.lines.append_cut.Given as goal

abbrev pub invariant-loop-line : goal.invariant-loop-line
invariant-loop-line l =
    string_bytes l.text ++ led (map (cut l.width) (map (λ s. s.now) (drop l.line-index l.lines)))
    ≡ string_bytes l.initial.text ++ led (map (cut l.width) (map (λ s. s.now) l.lines))
