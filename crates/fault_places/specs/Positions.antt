-- Lines and columns of a text, both counted from 1.
use Rattle.std.specs.Prelude.{ℕ, ◌+◌, ◌==◌, ◌&&◌, Bool, List, take, count_by, nat_le, nat_lt, not}
use Rattle.std.specs.List.{after_last}

abbrev pub is_newline : ℕ → Bool
is_newline byte = byte == 10

-- a byte that goes on with a character of UTF-8, which an earlier byte begins
abbrev pub continues : ℕ → Bool
continues byte = nat_le 128 byte && nat_lt byte 192

-- how many characters begin in these bytes
abbrev pub characters : List ℕ → ℕ
characters bytes = count_by (λ byte. not (continues byte)) bytes

-- 1 and the number of newlines before the byte of that number
abbrev pub line_of : List ℕ → ℕ → ℕ
line_of bytes start = 1 + count_by is_newline (take start bytes)

-- 1 and the number of characters between the last newline before that byte, or the beginning, and the byte
abbrev pub column_of : List ℕ → ℕ → ℕ
column_of bytes start = 1 + characters (after_last is_newline (take start bytes))
