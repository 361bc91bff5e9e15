-- What a scope says of calls.
use Rattle.std.specs.Prelude.{ℕ, Bool, true, false, ◌||◌, List, [], ◌∷◌, Option, Some, None}
use Rattle.std.specs.Str.{bytes_eq}
use Rattle.wdl_typed.specs.declared.scope.Bound.{Bound}

-- an output of a call of that name
abbrev pub is_output_of : List ℕ → Option (List ℕ) → List ℕ → Bool
is_output_of first None name = false
is_output_of first (Some m) name = bytes_eq first name

abbrev pub is_call : List Bound → List ℕ → Bool
is_call [] name = false
is_call (b ∷ bs) name = is_output_of b.key.first b.key.second name || is_call bs name

-- whether a name is an output of the call of that name
abbrev pub is_call_of : List ℕ → Bound → Bool
is_call_of name b = is_output_of b.key.first b.key.second name

-- a name is no output, or an output of a call that is there
abbrev pub is_known : List Bound → List ℕ → Option (List ℕ) → Bool
is_known bs first None = true
is_known bs first (Some m) = is_call bs first
