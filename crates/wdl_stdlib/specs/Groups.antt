-- Pairs by the texts of their keys.
use Rattle.std.specs.Prelude.{◌≡◌, ℕ, List, [], is_some, String}
use Rattle.std.specs.BTreeMap.{BTreeMap, get_by_text}
use Rattle.std.specs.Global.{Global, Vec}
use Rattle.std.specs.Option.{option_map_or}
use Rattle.wdl_value.specs.declared.value.Value.{Value}
use Rattle.wdl_value.specs.Functions.{has_key_text, values_at}

-- at each key the right parts of the pairs with that key, in order
abbrev pub AreGroups : BTreeMap (String Global) (Vec Value) → List Value → Type 0
AreGroups groups pairs = (key : List ℕ)
    → (is_some (get_by_text groups key) ≡ has_key_text key pairs)
    × (option_map_or (λ g. g.items) (get_by_text groups key) [] ≡ values_at key pairs)
