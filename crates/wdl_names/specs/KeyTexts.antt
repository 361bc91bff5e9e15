-- Places of keys that are found by the texts of their names.
use Rattle.std.specs.Prelude.{ℕ, Bool, false, ◌&&◌, List, Option, Some, None, String}
use Rattle.std.specs.BTreeMap.{BTreeMap, get_by_text}
use Rattle.std.specs.Global.{Global}
use Rattle.std.specs.Option.{option_and_then}
use Rattle.std.specs.Str.{bytes_eq}
use Rattle.wdl_base.specs.declared.name.Key.{Key}
use Rattle.wdl_names.specs.declared.name_places.NamePlaces.{NamePlaces}

abbrev pub place_under : NamePlaces → BTreeMap (String Global) NamePlaces → List ℕ → Option (List ℕ) → Option ℕ
place_under alone outputs first None = get_by_text alone.places first
place_under alone outputs first (Some second) = option_and_then (λ (names : NamePlaces). get_by_text names.places second) (get_by_text outputs first)

abbrev pub place_of : NamePlaces → BTreeMap (String Global) NamePlaces → Key → Option ℕ
place_of alone outputs key = place_under alone outputs key.first key.second

-- whether a second name is there and that one
abbrev pub is_second : List ℕ → Option (List ℕ) → Bool
is_second name None = false
is_second name (Some second) = bytes_eq name second

abbrev pub is_output : List ℕ → List ℕ → Key → Bool
is_output first second key = bytes_eq first key.first && is_second second key.second
