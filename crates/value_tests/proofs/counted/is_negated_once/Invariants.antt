use Rattle.value_tests.proofs.counted.is_negated_once.Given as goal

abbrev pub ghosts-is_negated : goal.ghosts-is_negated
ghosts-is_negated a = record { name = a.blank.name; parts = a.blank.parts }
