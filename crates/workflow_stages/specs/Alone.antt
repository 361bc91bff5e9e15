-- A shelf that has one text alone.
use Rattle.std.specs.Prelude.{ℕ, List, [], ◌∷◌}
use Rattle.wdl_port.specs.Memory.{CanFail, bytes_at}
use Rattle.wdl_port.specs.declared.memory_shelf.PathFile.{PathFile}
use Rattle.workflow_stages.specs.Documents.{Tells}

-- this text at this path, and no other file
abbrev pub only_file : List ℕ → List ℕ → List PathFile
only_file path text = (record { path = path; bytes = text }) ∷ []

-- what a shelf of that tells, and what it refuses
abbrev pub alone : List ℕ → List ℕ → Tells
alone path text p = bytes_at (only_file path text) p

abbrev pub alone_refused : List ℕ → List ℕ → List ℕ → Type 0
alone_refused path text p = CanFail (only_file path text) [] p
