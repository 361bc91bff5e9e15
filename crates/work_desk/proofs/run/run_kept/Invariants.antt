use Rattle.work_desk.proofs.run.run_kept.Given as goal

abbrev pub ghosts-run_with : goal.ghosts-run_with
ghosts-run_with g a = record {
  gives = g.L.Launcher.gives a.launcher.now;
  refuses = g.L.Launcher.refuses a.launcher.now;
  lapses = g.K.Keeper.lapses a.keeper.now;
  workers = a.workers;
  put_name = a.put.name;
  put_parts = a.put.parts;
  collected_name = a.collected.name;
  collected_parts = a.collected.parts;
}
