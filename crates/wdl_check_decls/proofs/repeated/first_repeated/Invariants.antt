use Rattle.std.proofs.Common.{◌≡◌, [], drop, map}
use Rattle.wdl_check_decls.specs.Names.{first_repeated}
use Rattle.wdl_check_decls.proofs.repeated.first_repeated.Given as goal

abbrev pub invariant-loop-ident : goal.invariant-loop-ident
invariant-loop-ident l =
    first_repeated l.words (map (λ n. n.now) (drop l.ident-index l.idents)) ≡ first_repeated [] (map (λ n. n.now) l.idents)
