-- How the note of a fault begins.
use Rattle.std.specs.Prelude.{ℕ, List, ◌++◌, codes, decimal}
use Rattle.report_text.specs.Lines.{code_text}
use Rattle.shown_text.specs.Shown.{shown}
use Rattle.fault_places.specs.Positions.{line_of, column_of}

-- the path, whose control characters are escaped, the line and the column, and the code with its word
abbrev pub head_of : List ℕ → List ℕ → ℕ → ℕ → List ℕ
head_of path bytes start code =
    shown path ++ codes ":" ++ decimal (line_of bytes start) ++ codes ":" ++ decimal (column_of bytes start)
    ++ codes ": error " ++ code_text code ++ codes ": "
