-- How far a list of values was read.
use Rattle.std.specs.Prelude.{◌≡◌, List, ◌++◌, map}
use Rattle.std.specs.List.{AllByRecursion}
use Rattle.serde_json.specs.Data.{Data}
use Rattle.serde_json.specs.View.{items_of, items_view}
use Rattle.serde_json.specs.declared.value.Value.{Value}

-- of the list xs, all was read, and the values that are left are those of the rest
pub record IsAhead {T : Type 0} (data_of : T → Data) (IsT : T → Type 0) (values : List Value) (xs all : List T) : Type 0 where
  pub rest : List T
  pub whole : xs ≡ all ++ rest
  pub sound : AllByRecursion IsT rest
  pub left : items_view values ≡ items_of (map data_of rest)

abbrev pub IsRead : {T : Type 0} → (T → Data) → (T → Type 0) → List Value → List Value → List T → Type 0
IsRead {T} data_of IsT values left all = (xs : List T) → AllByRecursion IsT xs → items_view values ≡ items_of (map data_of xs) → IsAhead data_of IsT left xs all
