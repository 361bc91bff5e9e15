-- Where the cells of names stand, and which of them expressions need.
use Rattle.std.specs.Prelude.{ℕ, ◌+◌, List, [], ◌∷◌, ◌++◌, Option, Some, None, if◌then◌else◌, map}
use Rattle.wdl_base.specs.declared.name.Key.{Key}
use Rattle.wdl_typed.specs.Declarations.{plain_key}
use Rattle.wdl_typed.specs.KnownTypes.{is_some}
use Rattle.wdl_typed.specs.Order.{option_list}
use Rattle.wdl_typed.specs.Scope.{same_key}
use Rattle.plan_layout.specs.declared.layout.Need.{Need}

-- the first name of that key
abbrev pub find_spot : List Need → Key → Option Need
find_spot [] key = None
find_spot (s ∷ ss) key = if same_key s.key key then Some s else find_spot ss key

-- these names of a body at that level, at the slots from the first one on
abbrev pub spots_from : ℕ → ℕ → List Key → List Need
spots_from level first [] = []
spots_from level first (k ∷ ks) = record { key = k; level = level; slot = first } ∷ spots_from level (first + 1) ks

abbrev pub plain_keys : List (List ℕ) → List Key
plain_keys = map plain_key

-- ---- needs

-- the name as it is seen, where it is seen and not there yet
abbrev pub pick : List Need → List Need → Key → List Need
pick seen needs key = if is_some (find_spot needs key) then needs else needs ++ option_list (find_spot seen key)

abbrev pub picks : List Need → List Need → List Key → List Need
picks seen needs [] = needs
picks seen needs (key ∷ keys) = picks seen (pick seen needs key) keys

-- these names, each once, as they are seen
abbrev pub needs_of : List Need → List Key → List Need
needs_of seen keys = picks seen [] keys
