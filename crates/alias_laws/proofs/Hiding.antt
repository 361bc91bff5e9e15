-- The names of aliases, which nothing that is left names.
use Rattle.std.specs.Prelude.{ℕ, Bool, ◌&&◌, List, is_none}
use Rattle.wdl_base.specs.declared.name.Key.{Key}

-- of a kind, without an output behind it
abbrev pub hidden_by : (List ℕ → Bool) → Key → Bool
hidden_by bad key = is_none key.second && bad key.first
