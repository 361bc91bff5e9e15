-- What callers see of a net: the value of each cell, the rule of each step, what it needs, and whether it was taken.
use Rattle.std.specs.Prelude.{◌≡◌, ℕ, Bool, true, false, List, [], ◌∷◌, ◌++◌, Option, Some, None, is_some, length, map, replicate, slice_get, slice_set}
use Rattle.std.specs.List.{list_all}
use Rattle.step_net.specs.Views as step
use Rattle.step_net.specs.Views.{IsSoundNet, Wants}
use Rattle.value_net.specs.declared.net.ValueNet.{ValueNet}

-- a net: of each cell its value, where it is set; of each step its rule, its needs and whether it was taken
pub record View (V R : Type 0) : Type 0 where
  pub values : List (Option V)
  pub rules : List R
  pub steps : List Wants

abbrev pub view_of : {V R : Type 0} → List (Option V) → List R → List Wants → View V R
view_of values rules steps = record { values = values; rules = rules; steps = steps }

unfoldable pub view : {V R : Type 0} → ValueNet V R → View V R
view n = view_of n.values.items n.rules.items (step.view n.net).steps

-- No step is forgotten, a cell has a value where the steps see it as set, and each step has a rule.
pub record AreSound {V R : Type 0} (n : ValueNet V R) : Type 0 where
  pub net : IsSoundNet n.net
  pub cells : (step.view n.net).cells ≡ map is_some n.values.items
  pub rules : length n.rules.items ≡ length (step.view n.net).steps

unfoldable pub IsSound : {V R : Type 0} → ValueNet V R → Type 0
IsSound n = AreSound n

-- ---- moves

abbrev pub empty : {V R : Type 0} → View V R
empty = view_of [] [] []

-- with so many cells more, which are not set
abbrev pub with_cells : {V R : Type 0} → View V R → ℕ → View V R
with_cells v n = view_of (v.values ++ replicate n None) v.rules v.steps

-- with a step more, of this rule, which needs these cells
abbrev pub with_step : {V R : Type 0} → View V R → R → List ℕ → View V R
with_step v r needs = view_of v.values (v.rules ++ r ∷ []) (v.steps ++ record { needs = needs; is_taken = false } ∷ [])

abbrev pub with_value : {V R : Type 0} → View V R → ℕ → V → View V R
with_value v c x = view_of (slice_set v.values c (Some x)) v.rules v.steps

abbrev pub with_taken : {V R : Type 0} → View V R → ℕ → Wants → View V R
with_taken v s w = view_of v.values v.rules (slice_set v.steps s (record { needs = w.needs; is_taken = true }))

-- ---- readiness

abbrev pub joined : {V : Type 0} → Option (Option V) → Option V
joined None = None
joined (Some o) = o

-- the value of a cell, where it is set
abbrev pub value_at : {V : Type 0} → List (Option V) → ℕ → Option V
value_at values c = joined (slice_get values c)

abbrev pub is_set : {V : Type 0} → List (Option V) → ℕ → Bool
is_set values c = is_some (value_at values c)

abbrev pub are_set : {V : Type 0} → List (Option V) → List ℕ → Bool
are_set values = list_all (is_set values)

-- The step was not taken and all that it needs is set; now it is taken, and all else is as it was.
pub record IsTaken {V R : Type 0} (old : View V R) (s : ℕ) (new : View V R) : Type 0 where
  pub step : Wants
  pub there : slice_get old.steps s ≡ Some step
  pub fresh : step.is_taken ≡ false
  pub ready : are_set old.values step.needs ≡ true
  pub now : new ≡ with_taken old s step

-- Each step that is not taken misses a need.
abbrev pub AllStuck : {V R : Type 0} → View V R → Type 0
AllStuck v = (t : ℕ) (w : Wants) → slice_get v.steps t ≡ Some w → w.is_taken ≡ false → are_set v.values w.needs ≡ false

abbrev pub Popped : {V R : Type 0} → View V R → Option ℕ → View V R → Type 0
Popped old (Some s) new = IsTaken old s new
Popped old None new = (new ≡ old) × AllStuck old
