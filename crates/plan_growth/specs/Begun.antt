-- A body that was just entered: no step of its statements was taken, and no cell of theirs is set.
use Rattle.std.specs.Prelude.{◌≡◌, ℕ, ◌+◌, false, List, [], ◌∷◌, All, Some, None, get_or, length, map, slice_get}
use Rattle.wdl_base.specs.declared.place.Segment.{Segment}
use Rattle.wdl_value.specs.Tables.{Row}
use Rattle.wdl_typed.specs.declared.flow.Statement.{Statement, out-Statement}
use Rattle.wdl_typed.specs.Bodies.{Library}
use Rattle.wdl_typed.specs.Flow.{Names}
use Rattle.net_laws.specs.Cost.{TaskCost}
use Rattle.net_laws.specs.Growing.{Form, does, mark_cell, nothing_given, slot_cell}
use Rattle.net_laws.specs.Moving.{IsWeight, at_step, hit}
use Rattle.net_laws.specs.Net.{Given, Scope, Work, both_given}
use Rattle.net_laws.specs.Works.{evaluated, work_of}
use Rattle.plan_moves.specs.Sheets.{Grown, Sheet, rules_of, state_of}
use Rattle.plan_layout.specs.declared.layout.StatementLayout.{StatementLayout}
use Rattle.plan_layout.specs.Cells.{marks_at, slots_at}
use Rattle.plan_layout.specs.Laid.{Stand, behind_one, given_at}
use Rattle.plan_layout.specs.Spots.{plain_keys, spots_from}
use Rattle.plan_growth.specs.Entering.{cells_of}

-- ---- where a statement stands, by cells

-- where the cells of the instance begin
abbrev pub base_at : List ℕ → Stand → ℕ
base_at bases a = get_or bases (length a.path) 0

abbrev pub scope_at : List ℕ → Stand → List Segment → Scope
scope_at bases a place = record { names = slots_at bases a.names; calls = marks_at bases a.calls; place = place }

-- what a statement gives out that has these names
abbrev pub given_by : List ℕ → Stand → Names → Given
given_by bases a n =
    record {
      names = slots_at bases (spots_from (length a.path) a.next_name n.keys);
      calls = marks_at bases (spots_from (length a.path) a.next_call (plain_keys n.calls));
    }

abbrev pub given_of : Library → List ℕ → Stand → Statement → Given
given_of lib bases a x = given_by bases a (given_at lib (out-Statement x))

-- what statements give out one after the other
abbrev pub all_given : Library → List ℕ → Stand → List Statement → Given
all_given lib bases a [] = nothing_given
all_given lib bases a (x ∷ xs) = both_given (given_of lib bases a x) (all_given lib bases (behind_one lib x a) xs)

-- ---- what was entered

module _ (b : Sheet) (owners : List ℕ) where
  -- The cell is the step's, and not set.
  abbrev pub IsFree : ℕ → ℕ → Type 0
  IsFree t c = (slice_get owners c ≡ Some t) × (slice_get b.values c ≡ Some None)

  -- The step is to do the statement, needs these cells, and was not taken.
  pub record Sits (t : ℕ) (x : Statement) (s : Scope) (g : Given) (d : ℕ) (needs : List ℕ) : Type 0 where
    pub rule : slice_get b.rules t ≡ Some (does x s g d)
    pub step : slice_get b.steps t ≡ Some (record { needs = needs; is_taken = false })
    pub names : All (IsFree t) (map slot_cell g.names)
    pub calls : All (IsFree t) (map mark_cell g.calls)
    pub done : IsFree t d

  -- the same of statements one after the other, from this step on
  abbrev pub AllSit : Library → List ℕ → List Segment → ℕ → List Statement → Stand → List StatementLayout → Type 0
  AllSit lib bases place t [] a ls = Unit {0}
  AllSit lib bases place t (x ∷ xs) a [] = ⊥
  AllSit lib bases place t (x ∷ xs) a (l ∷ ls) =
      Sits t x (scope_at bases a place) (given_of lib bases a x) (base_at bases a + l.done) (cells_of bases l.needs l.after)
      × AllSit lib bases place (t + 1) xs (behind_one lib x a) ls

-- the number once for each of so many steps from one on
abbrev pub hits : {A : Type 0} → ℕ → ℕ → ℕ → List A → ℕ
hits v k t [] = 0
hits v k t (x ∷ xs) = hit v k t + hits v k (t + 1) xs

-- What has grown without a step: it comes to that work, has so many leaves of each step, and no expression was evaluated.
pub record HasBegun (lib : Library) (site : List ℕ) (rows : List Row) (b : Sheet) (owners : List ℕ) (depth : ℕ) (f : Form) (work : Work) (leaves : ℕ → ℕ → ℕ) : Type 0 where
  pub grown : Grown lib site rows b owners depth f
  pub weighs : (weight : Work → ℕ) → IsWeight weight → weight (work_of lib site rows (rules_of b) (state_of b owners) grown) ≡ weight work
  pub leaves_are : (v k : ℕ) → at_step lib site rows (rules_of b) (state_of b owners) v k grown ≡ leaves v k
  pub spends : (task : TaskCost) → evaluated lib site rows (rules_of b) (state_of b owners) task grown ≡ 0
