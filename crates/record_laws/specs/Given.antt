-- Given inputs, with the members of struct inputs in their places.
use Rattle.std.specs.Prelude.{ℕ, List, [], ◌∷◌, ◌++◌, Ok, Err, if◌then◌else◌}
use Rattle.wdl_value.specs.declared.env.Bind.{Bind}
use Rattle.wdl_value.specs.declared.value.Value.{Value, out-Value}
use Rattle.wdl_typed.specs.declared.task.TInput.{TInput}
use Rattle.wdl_typed.specs.Declarations.{plain_key}
use Rattle.wdl_typed.specs.Evaluation.{Met, member_at, then_}
use Rattle.leaf_image.specs.declared.leaf.Leaf.{Leaf}
use Rattle.leaf_image.specs.Records.{is_own, of_input}

-- the member of a value to which these members lead
abbrev pub along_path : List (List ℕ) → Value → Met Value
along_path [] x = Ok x
along_path (m ∷ ms) x = then_ (member_at m (out-Value x)) (along_path ms)

abbrev pub bind_met : List ℕ → Met Value → List Bind
bind_met name (Ok x) = record { key = plain_key name; value = x } ∷ []
bind_met name (Err e) = []

-- the value's leaves, by their names
abbrev pub leaf_binds : Value → List Leaf → List Bind
leaf_binds x [] = []
leaf_binds x (l ∷ ls) = bind_met l.name (along_path l.path x) ++ leaf_binds x ls

abbrev pub binds_of : List TInput → List Leaf → Bind → List Bind
binds_of is ls b = if is_own is b.key then leaf_binds b.value (of_input b.key.first ls) else b ∷ []

abbrev pub given_leaves : List TInput → List Leaf → List Bind → List Bind
given_leaves is ls [] = []
given_leaves is ls (b ∷ bs) = binds_of is ls b ++ given_leaves is ls bs
