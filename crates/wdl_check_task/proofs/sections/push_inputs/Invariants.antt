use Rattle.std.proofs.Common.{◌≡◌, ◌++◌, drop, map}
use Rattle.wdl_check_task.specs.Sections.{input_idents}
use Rattle.wdl_check_task.proofs.sections.push_inputs.Given as goal

abbrev pub invariant-loop-input : goal.invariant-loop-input
invariant-loop-input l =
    map (λ p. p.now) l.idents.items ++ input_idents (map (λ p. p.now) (drop l.input-index l.inputs))
    ≡ map (λ p. p.now) l.fn.idents.items ++ input_idents (map (λ p. p.now) l.inputs)
