use Rattle.job_launcher.proofs.owner.+hold.Given as goal

abbrev pub decreases-hold : goal.decreases-hold
decreases-hold g l = l.levels
