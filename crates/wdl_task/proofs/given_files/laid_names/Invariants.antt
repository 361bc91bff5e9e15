use Rattle.std.proofs.Common.{◌≡◌, ℕ, List, ◌||◌, drop}
use Rattle.wdl_typed.specs.Requests.{is_laid}
use Rattle.wdl_names.proofs.KeySets.{any_key}
use Rattle.wdl_task.proofs.given_files.laid_names.Given as goal

abbrev pub invariant-loop-file : goal.invariant-loop-file
invariant-loop-file l = (q : List ℕ) → (any_key q l.names.keys || is_laid (drop l.file-index l.files) q) ≡ is_laid l.files q
