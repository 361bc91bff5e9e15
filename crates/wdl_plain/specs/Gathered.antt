-- What the code gathers of the names and calls at each item.
use Rattle.std.specs.Prelude.{ℕ, Bool, List, Option, Some, map, option_and_then}
use Rattle.std.specs.List.{list_all}
use Rattle.wdl_base.specs.declared.name.Key.{Key}
use Rattle.wdl_value.specs.declared.value.Value.{Value}
use Rattle.wdl_value.specs.declared.value.Value.TheVariants as v
use Rattle.wdl_typed.specs.Flow as flow
use Rattle.wdl_typed.specs.Scope.{lookup}
use Rattle.wdl_plain.specs.declared.known.Ended.{Ended}
use Rattle.wdl_plain.specs.declared.known.Known.{Known}
use Rattle.wdl_plain.specs.Views.{endeds_of, env_in}

abbrev pub value_at : Key → List Known → Option Value
value_at key ks = lookup (env_in ks) key

abbrev pub values_at : List (List Known) → Key → Option (List Value)
values_at items key = flow.all_values (map (value_at key) items)

abbrev pub gathered_name : List (List Known) → Key → flow.Known
gathered_name items key = record { key = key; value = option_and_then (λ xs. Some (v.List xs)) (values_at items key) }

abbrev pub has_ended_at : List ℕ → List Ended → Bool
has_ended_at call es = flow.has_ended (endeds_of es) call

abbrev pub have_all_ended : List (List Ended) → List ℕ → Bool
have_all_ended items call = list_all (has_ended_at call) items

abbrev pub gathered_call : List (List Ended) → List ℕ → flow.Ended
gathered_call items call = record { call = call; ended = have_all_ended items call }
