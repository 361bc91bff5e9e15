-- What a flow gives over one table of answers, against what it gives over a table that answers more.
use Rattle.std.specs.Prelude.{◌≡◌, ℕ, ◌≤◌, true, List, Option, Some, Contains, length}
use Rattle.wdl_base.specs.declared.name.Key.{Key}
use Rattle.wdl_base.specs.declared.place.Segment.{Segment}
use Rattle.wdl_value.specs.Tables.{Row, answer_at}
use Rattle.wdl_typed.specs.Flow.{Flowing, has_ended, is_clean, value_in}

-- what has a value has the same one there
abbrev pub Stays : {A : Type 0} → Option A → Option A → Type 0
Stays {A} o p = (x : A) → o ≡ Some x → p ≡ Some x

-- each element of the first list is one of the second
abbrev pub IsWithin : {A : Type 0} → List A → List A → Type 0
IsWithin {A} xs ys = (x : A) → Contains xs x → Contains ys x

-- Each answer that the first table gives, the second one gives too.
abbrev pub AnswersStay : List Row → List Row → Type 0
AnswersStay a b = (place : List Segment) (attempt : ℕ) → Stays (answer_at a place attempt) (answer_at b place attempt)

-- Each name that is known stays known, with its value; each call that has ended stays ended; each job and each fault is one
-- of the second flow, which has no fewer jobs and counts no fewer statements; and where the first flow is clean, it is the
-- second one.
pub record IsBelow (f g : Flowing) : Type 0 where
  pub names : (key : Key) → Stays (value_in key f) (value_in key g)
  pub calls : (call : List ℕ) → has_ended f.calls call ≡ true → has_ended g.calls call ≡ true
  pub jobs : IsWithin f.jobs g.jobs
  pub size : length f.jobs ≤ length g.jobs
  pub faults : IsWithin f.faults g.faults
  pub count : f.count ≤ g.count
  pub clean : is_clean f ≡ true → f ≡ g
