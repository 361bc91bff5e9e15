use Rattle.std.proofs.Common.{◌≡◌, ◌++◌, ◌≤◌, drop, length}
use Rattle.wdl_base.specs.Templates.{joined}
use Rattle.library_calls.proofs.filling.fill.Given as goal

abbrev pub invariant-loop-part : goal.invariant-loop-part
invariant-loop-part l =
    (l.text ++ joined (drop l.part-index l.template) l.pieces ≡ joined l.template l.pieces) × (length l.text ≤ 65536)
