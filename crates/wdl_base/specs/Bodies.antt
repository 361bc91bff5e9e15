-- What is kept of a stream or a file.
use Rattle.std.specs.Prelude.{ℕ, Bool, true, nat_le, List, length, if◌then◌else◌}
use Rattle.wdl_base.specs.declared.body.Body.{Body}
use Rattle.wdl_base.specs.declared.body.Body.TheVariants.{Bytes, Long}

abbrev pub is_short : ℕ → Body → Bool
is_short limit (Bytes bytes) = nat_le (length bytes) limit
is_short limit Long = true

abbrev pub body_of : List ℕ → Body
body_of bytes = if nat_le (length bytes) 65536 then Bytes bytes else Long
