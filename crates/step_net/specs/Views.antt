-- What callers see of a net: which cells are set, and of each step what it needs and whether it was taken.
use Rattle.std.specs.Prelude.{◌≡◌, ℕ, Bool, true, false, List, [], ◌∷◌, ◌++◌, Option, Some, None, map, slice_get, slice_set, get_or}
use Rattle.std.specs.List.{list_all, slice_range}
use Rattle.step_net.specs.declared.net.Step.{Step}
use Rattle.step_net.specs.declared.net.StepNet.{StepNet}
use Rattle.step_net.specs.Nets.{AreSound}

-- a step: the cells that it needs, and whether it was taken
pub record Wants : Type 0 where
  pub needs : List ℕ
  pub is_taken : Bool

-- a net: of each cell whether it is set, and its steps
pub record View : Type 0 where
  pub cells : List Bool
  pub steps : List Wants

abbrev pub wants : List ℕ → Step → Wants
wants needs x = record { needs = slice_range needs x.start x.end; is_taken = x.is_taken }

abbrev pub view_of : List Bool → List ℕ → List Step → View
view_of is_set needs steps = record { cells = is_set; steps = map (wants needs) steps }

unfoldable pub view : StepNet → View
view n = view_of n.is_set.items n.needs.items n.steps.items

-- No step is forgotten: each that is not taken is queued, or watches a cell that it needs and that is not set.
unfoldable pub IsSoundNet : StepNet → Type 0
IsSoundNet n = AreSound n

-- ---- moves

abbrev pub empty : View
empty = record { cells = []; steps = [] }

-- with a cell more, which is not set
abbrev pub with_cell : View → View
with_cell v = record { cells = v.cells ++ false ∷ []; steps = v.steps }

-- with a step more, which needs these cells
abbrev pub with_step : View → List ℕ → View
with_step v needs = record { cells = v.cells; steps = v.steps ++ record { needs = needs; is_taken = false } ∷ [] }

abbrev pub with_set : View → ℕ → View
with_set v c = record { cells = slice_set v.cells c true; steps = v.steps }

abbrev pub with_taken : View → ℕ → Wants → View
with_taken v s w = record { cells = v.cells; steps = slice_set v.steps s (record { needs = w.needs; is_taken = true }) }

-- ---- readiness

abbrev pub is_set : View → ℕ → Bool
is_set v c = get_or v.cells c false

-- whether all that the step needs is set
abbrev pub is_ready : View → Wants → Bool
is_ready v w = list_all (is_set v) w.needs

-- The step was not taken and is ready; now it is taken, and all else is as it was.
pub record IsTaken (old : View) (s : ℕ) (new : View) : Type 0 where
  pub step : Wants
  pub there : slice_get old.steps s ≡ Some step
  pub fresh : step.is_taken ≡ false
  pub ready : is_ready old step ≡ true
  pub now : new ≡ with_taken old s step

-- No step that is not taken is ready.
abbrev pub AllStuck : View → Type 0
AllStuck v = (t : ℕ) (w : Wants) → slice_get v.steps t ≡ Some w → w.is_taken ≡ false → is_ready v w ≡ false

abbrev pub Looked : View → ℕ → Bool → View → Type 0
Looked old s true new = IsTaken old s new
Looked old s false new = new ≡ old

abbrev pub Popped : View → Option ℕ → View → Type 0
Popped old (Some s) new = IsTaken old s new
Popped old None new = (new ≡ old) × AllStuck old
