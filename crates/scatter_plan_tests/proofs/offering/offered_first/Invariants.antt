use Rattle.scatter_plan_tests.proofs.offering.offered_first.Given as goal

abbrev pub ghosts-offered : goal.ghosts-offered
ghosts-offered a = record { name = a.blank.name; parts = a.blank.parts }
