use Rattle.std.proofs.Common.{◌≡◌, ◌++◌, drop, map}
use Rattle.wdl_check_task.specs.Command.{template_from}
use Rattle.wdl_check_task.proofs.command.template_of.Given as goal

abbrev pub invariant-loop-part : goal.invariant-loop-part
invariant-loop-part l =
    l.template ++ template_from l.number (map (λ p. p.now) (drop l.part-index l.parts)) ≡ template_from 0 (map (λ p. p.now) l.parts)
