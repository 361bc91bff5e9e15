use Rattle.std.proofs.Common.{◌≡◌, ◌++◌, drop, map}
use Rattle.wdl_check_flow.specs.Sections.{all_declared}
use Rattle.wdl_check_flow.proofs.declared.+declared.Given as goal

abbrev pub invariant-push_all_declared-loop-statement : goal.invariant-push_all_declared-loop-statement
invariant-push_all_declared-loop-statement l =
    map (λ n. n.now) l.idents.items ++ all_declared (drop l.statement-index l.body) ≡ map (λ n. n.now) l.initial.idents.items ++ all_declared l.body
