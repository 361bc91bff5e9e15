-- What a step that joins cells makes of a net.
use Rattle.std.specs.Prelude.{◌≡◌, ℕ, ◌+◌, ◌<◌, ◌^◌, List, [], Option, Some, None, get_or, map, slice_get}
use Rattle.std.specs.List.{All}
use Rattle.step_net.specs.Views.{Wants}
use Rattle.wdl_value.specs.declared.value.Value.{Value}
use Rattle.wdl_value.specs.declared.value.Value.TheVariants as v
use Rattle.wdl_typed.specs.Flow.{all_values}
use Rattle.value_net.specs.Nets.{value_at, with_value}
use Rattle.plan_growth.specs.Entering.{Sown}

abbrev pub needs_in : Option Wants → List ℕ
needs_in None = []
needs_in (Some w) = w.needs

-- the cells that a step needs
abbrev pub needs_at : Sown → ℕ → List ℕ
needs_at net step = needs_in (slice_get net.steps step)

-- The cell is the list of the values of the cells that the step needs.
pub record IsGathered (old : Sown) (step into : ℕ) (new : Sown) : Type 0 where
  pub values : List Value
  pub are : all_values (map (value_at old.values) (needs_at old step)) ≡ Some values
  pub now : new ≡ with_value old into (v.List values)

-- The cell has the value of the first one that the step needs.
pub record IsCopied (old : Sown) (step into : ℕ) (new : Sown) : Type 0 where
  pub value : Value
  pub is : value_at old.values (get_or (needs_at old step) 0 0) ≡ Some value
  pub now : new ≡ with_value old into value

-- Each first cell and so many more fit a number.
abbrev pub AreNumbers : List ℕ → ℕ → Type 0
AreNumbers firsts more = All (λ (first : ℕ). first + more < 2 ^ 64) firsts

-- Each first cell is followed by so many more.
abbrev pub AreFollowed : ℕ → List ℕ → ℕ → Type 0
AreFollowed count firsts more = All (λ (first : ℕ). first + more < count + 1) firsts
