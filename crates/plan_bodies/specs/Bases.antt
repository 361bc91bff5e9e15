-- Where the cells of instances begin.
use Rattle.std.specs.Prelude.{ℕ, ◌-◌, List, get_or, length}

-- the first cell of the innermost instance
abbrev pub last_base : List ℕ → ℕ
last_base bases = get_or bases (length bases - 1) 0
