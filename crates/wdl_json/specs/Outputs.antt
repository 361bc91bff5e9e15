-- The outputs of a workflow as JSON (OpenWDL 1.1, "JSON Output Format").
use Rattle.std.specs.Prelude.{ℕ, List, [], ◌∷◌, ◌++◌, Option, Some, None}
use Rattle.serde_json.specs.Data.{Data, object, Members, no_members, put}
use Rattle.serde_json.specs.Written.{compact_text}
use Rattle.wdl_base.specs.declared.name.Key.{Key}
use Rattle.wdl_value.specs.declared.env.Bind.{Bind}
use Rattle.json_values.specs.Writing.{json_of}

abbrev pub second_text : Option (List ℕ) → List ℕ
second_text None = []
second_text (Some name) = 46 ∷ name

-- `workflow.output`
abbrev pub output_name : List ℕ → Key → List ℕ
output_name flow key = flow ++ 46 ∷ key.first ++ second_text key.second

-- these members and one for each output, in byte order of their names
abbrev pub with_outputs : List ℕ → List Bind → Members → Members
with_outputs flow [] ms = ms
with_outputs flow (b ∷ bs) ms = with_outputs flow bs (put (output_name flow b.key) (json_of b.value) ms)

abbrev pub outputs_json : List ℕ → List Bind → Data
outputs_json flow outs = object (with_outputs flow outs no_members)

-- one object with a member for each output, without blanks
abbrev pub outputs_text : List ℕ → List Bind → List ℕ
outputs_text flow outs = compact_text (outputs_json flow outs)
