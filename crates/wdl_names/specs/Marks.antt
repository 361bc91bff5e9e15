-- Where numbers first stand in a list.
use Rattle.std.specs.Prelude.{ℕ, ◌==◌, List}
use Rattle.std.specs.List.{position_or_len}

-- where a number first stands, or how many there are where it does not
abbrev pub first_place : ℕ → List ℕ → ℕ
first_place number numbers = position_or_len (λ n. n == number) numbers
