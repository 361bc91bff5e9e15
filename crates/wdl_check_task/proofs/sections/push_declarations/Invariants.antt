use Rattle.std.proofs.Common.{◌≡◌, ◌++◌, drop, map}
use Rattle.wdl_check_task.specs.Sections.{declaration_idents}
use Rattle.wdl_check_task.proofs.sections.push_declarations.Given as goal

abbrev pub invariant-loop-declaration : goal.invariant-loop-declaration
invariant-loop-declaration l =
    map (λ p. p.now) l.idents.items ++ declaration_idents (map (λ p. p.now) (drop l.declaration-index l.declarations))
    ≡ map (λ p. p.now) l.fn.idents.items ++ declaration_idents (map (λ p. p.now) l.declarations)
