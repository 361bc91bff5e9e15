use Rattle.std.proofs.Common.{◌≡◌, drop, option_map}
use Rattle.wdl_typed.specs.Bodies.{body_gives, joined}
use Rattle.wdl_well_typed.specs.Calls.{library_of}
use Rattle.wdl_well_typed.specs.Given.{given, seen}
use Rattle.wdl_well_typed.proofs.bodies.+gives.Given as goal

abbrev pub invariant-body_gives-loop-statement : goal.invariant-body_gives-loop-statement
invariant-body_gives-loop-statement l =
    (seen l.scope ≡ joined (seen l.initial.scope) (given l.given))
    × (option_map (joined (given l.given)) (body_gives (library_of l.library) (drop l.statement-index l.body) (seen l.scope))
    ≡ body_gives (library_of l.library) l.body (seen l.initial.scope))
