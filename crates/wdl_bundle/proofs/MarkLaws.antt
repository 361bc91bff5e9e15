-- Marks past the end.
use Rattle.std.proofs.Common.{◌≡◌, ℕ, ◌≤◌, Bool, true, List, length}
use Rattle.std.specs.List.{slice_set}
use Rattle.std.proofs.lemmas.List.{set_past}

pub past : (marks : List Bool) (at : ℕ) → length marks ≤ at → slice_set marks at true ≡ marks
past marks at h = set_past marks at true h
