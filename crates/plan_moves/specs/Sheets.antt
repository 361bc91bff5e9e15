-- A net as the laws see it: its cells, its steps with what each is to do, and of each cell the step that may set it.
use Rattle.std.specs.Prelude.{◌≡◌, ℕ, Bool, true, false, List, [], Option, Some, None, length, slice_get}
use Rattle.wdl_base.specs.declared.place.Segment.{Segment}
use Rattle.wdl_value.specs.declared.value.Value.{Value}
use Rattle.wdl_value.specs.Tables.{Row, answer_at}
use Rattle.wdl_typed.specs.Bodies.{Library}
use Rattle.step_net.specs.Views.{Wants}
use Rattle.value_net.specs.Nets.{View, value_at}
use Rattle.net_laws.specs.Growing.{Form, Growing, Rule, State, are_set}
use Rattle.net_laws.specs.Laws.{ruled}

abbrev pub Sheet : Type 0
Sheet = View Value Rule

abbrev pub taken_in : Option Wants → Bool
taken_in None = false
taken_in (Some w) = w.is_taken

abbrev pub needs_in : Option Wants → List ℕ
needs_in None = []
needs_in (Some w) = w.needs

-- the state of a net, with the owners of its cells
abbrev pub state_of : Sheet → List ℕ → State
state_of v owners = record { cells = value_at v.values; owner = slice_get owners; taken = λ t. taken_in (slice_get v.steps t); needs = λ t. needs_in (slice_get v.steps t) }

abbrev pub rules_of : Sheet → ℕ → Rule → Type 0
rules_of v = ruled (slice_get v.rules)

-- The net has these forms, as far as it has grown.
abbrev pub Grown : Library → List ℕ → List Row → Sheet → List ℕ → ℕ → Form → Type 0
Grown lib site rows v owners depth f = Growing lib site rows (rules_of v) (state_of v owners) depth f

-- A move takes a step that is ready. It may set cells that this step owns or give them to others, and add cells and steps behind the others.
pub record IsMove (t : ℕ) (a : Sheet) (mine : List ℕ) (b : Sheet) (theirs : List ℕ) : Type 0 where
  pub pairs : length a.rules ≡ length a.steps
  pub step : Wants
  pub there : slice_get a.steps t ≡ Some step
  pub fresh : step.is_taken ≡ false
  pub ready : are_set (state_of a mine) step.needs ≡ true
  pub taken : slice_get b.steps t ≡ Some (record { needs = step.needs; is_taken = true })
  pub steps : (u : ℕ) (w : Wants) → (u ≡ t → ⊥) → slice_get a.steps u ≡ Some w → slice_get b.steps u ≡ Some w
  pub rules : (u : ℕ) (r : Rule) → slice_get a.rules u ≡ Some r → slice_get b.rules u ≡ Some r
  pub owners : (c u : ℕ) → slice_get mine c ≡ Some u → (u ≡ t → ⊥) → slice_get theirs c ≡ Some u
  pub others : (c u : ℕ) → slice_get mine c ≡ Some u → (u ≡ t → ⊥) → value_at b.values c ≡ value_at a.values c
  pub kept : (c : ℕ) (x : Value) → value_at a.values c ≡ Some x → value_at b.values c ≡ Some x

-- The cells of the step stay its own.
abbrev pub Holds : ℕ → List ℕ → List ℕ → Type 0
Holds t mine theirs = (c : ℕ) → slice_get mine c ≡ Some t → slice_get theirs c ≡ Some t

-- An answer arrives at the place of a call that was asked: the rows answer the same at each other place. It sets cells of that call alone.
pub record IsArrival (rows later : List Row) (place : List Segment) (t : ℕ) (a : Sheet) (mine : List ℕ) (b : Sheet) : Type 0 where
  pub taken : taken_in (slice_get a.steps t) ≡ true
  pub rules : b.rules ≡ a.rules
  pub steps : b.steps ≡ a.steps
  pub others : (c u : ℕ) → slice_get mine c ≡ Some u → (u ≡ t → ⊥) → value_at b.values c ≡ value_at a.values c
  pub kept : (c : ℕ) (x : Value) → value_at a.values c ≡ Some x → value_at b.values c ≡ Some x
  pub elsewhere : (other : List Segment) → (other ≡ place → ⊥) → (attempt : ℕ) → answer_at rows other attempt ≡ answer_at later other attempt
