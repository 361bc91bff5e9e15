use Rattle.std.proofs.Common.{◌≡◌, drop, map}
use Rattle.std.specs.List.{filter, fold}
use Rattle.wdl_base.specs.Templates.{common, indent, is_written}
use Rattle.command_text.proofs.lines.narrowed.Given as goal

abbrev pub invariant-loop-line : goal.invariant-loop-line
invariant-loop-line l =
    fold common l.prefix (map indent (filter is_written (map (λ s. s.now) (drop l.line-index l.lines))))
    ≡ fold common l.initial.prefix (map indent (filter is_written (map (λ s. s.now) l.lines)))
