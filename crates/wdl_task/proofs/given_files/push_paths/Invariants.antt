use Rattle.std.proofs.Common.{◌≡◌, ◌++◌, drop, map}
use Rattle.wdl_typed.specs.Requests.{paths_at}
use Rattle.wdl_task.proofs.given_files.push_paths.Given as goal

abbrev pub invariant-loop-item : goal.invariant-loop-item
invariant-loop-item g l =
    map (λ p. p.now) l.paths.items ++ paths_at l.env (map g.T.Named.named (drop l.item-index l.declared))
    ≡ map (λ p. p.now) l.initial.paths.items ++ paths_at l.env (map g.T.Named.named l.declared)
