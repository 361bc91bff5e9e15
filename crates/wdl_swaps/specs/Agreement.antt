-- The values of expressions in which chains stand in the places of references, and of members behind them.
use Rattle.std.specs.Prelude.{◌≡◌, Bool, true, false, not, ◌&&◌, List, [], Some, None}
use Rattle.std.specs.List.{list_all}
use Rattle.wdl_base.specs.declared.name.Key.{Key}
use Rattle.wdl_value.specs.declared.env.Bind.{Bind}
use Rattle.wdl_value.specs.declared.value.Value.{Value}
use Rattle.wdl_typed.specs.declared.expr.TExpr.{TExpr}
use Rattle.wdl_typed.specs.declared.expr.TExpr.TheVariants as e
use Rattle.wdl_typed.specs.Evaluation.{Met, value_met}
use Rattle.wdl_typed.specs.KnownTypes.{is_some}
use Rattle.wdl_typed.specs.Requests.{before}
use Rattle.wdl_typed.specs.Scope.{lookup, names_of}
use Rattle.wdl_swaps.specs.declared.chain.Chain.{Chain}
use Rattle.wdl_swaps.specs.declared.chain.Hop.{Hop}
use Rattle.wdl_swaps.specs.declared.swap.Swap.{Swap}
use Rattle.wdl_swaps.specs.Chains.{along, expr_of}
use Rattle.wdl_swaps.specs.Swaps.{swap_at, swapped}

abbrev pub met_in : List Bind → TExpr → Met Value
met_in env = value_met (before env)

-- What stands in a place has the value that stood there; no chain begins with a reference that has a place; and the other
-- references that are seen, but for those that are gone, have one value before and now.
pub record Agrees (ss : List Swap) (old now : List Bind) (seen gone : Key → Bool) : Type 0 where
  pub values : (key : Key) (hops : List Hop) (c : Chain) → swap_at ss key hops ≡ Some c → met_in now (expr_of c) ≡ met_in old (along (e.Get key) hops)
  pub roots : (key : Key) (hops : List Hop) (c : Chain) → swap_at ss key hops ≡ Some c → (hs : List Hop) → swap_at ss c.key hs ≡ None
  pub others : (key : Key) → seen key ≡ true → gone key ≡ false → swap_at ss key [] ≡ None → lookup now key ≡ lookup old key

-- All names are seen, and none that is gone is left.
abbrev pub is_fine : List Swap → (Key → Bool) → (Key → Bool) → TExpr → Bool
is_fine ss seen gone a = list_all seen (names_of a) && list_all (λ k. not (gone k)) (names_of (swapped ss a))

-- Then the expression has the value that it had.
abbrev pub ValuesAgree : Type 0
ValuesAgree =
    (ss : List Swap) (old now : List Bind) (seen gone : Key → Bool) → Agrees ss old now seen gone → (a : TExpr) → is_fine ss seen gone a ≡ true
    → met_in now (swapped ss a) ≡ met_in old a

-- ---- which names are known

abbrev pub is_found : List Bind → Key → Bool
is_found env key = is_some (lookup env key)

-- The names of the expression all have values.
abbrev pub all_found : List Bind → TExpr → Bool
all_found env a = list_all (is_found env) (names_of a)

-- What begins what stands in a place has a value where what stood there had one.
abbrev pub PlacesFound : List Swap → List Bind → List Bind → Type 0
PlacesFound ss old now = (key : Key) (hops : List Hop) (c : Chain) → swap_at ss key hops ≡ Some c → is_found now c.key ≡ is_found old key

-- Then the expression can be evaluated where it could.
abbrev pub NamesAgree : Type 0
NamesAgree =
    (ss : List Swap) (old now : List Bind) (seen gone : Key → Bool) → Agrees ss old now seen gone → PlacesFound ss old now
    → (a : TExpr) → is_fine ss seen gone a ≡ true → all_found now (swapped ss a) ≡ all_found old a
