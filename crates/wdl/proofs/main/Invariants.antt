use Rattle.wdl.proofs.main.Given as goal

abbrev pub ghosts-number : goal.ghosts-number
ghosts-number g a = record { name = a.blank.name; parts = a.blank.parts }
