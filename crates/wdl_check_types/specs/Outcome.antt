-- What a check of a text gives: what stands for the text, where the rules give something, and each code with each span at
-- which its condition holds.
use Rattle.std.specs.Prelude.{ℕ, [], ◌++◌, Option, Some, None, Result, option_and_then}
use Rattle.wdl_base.specs.declared.span.Span.{Span}
use Rattle.wdl_check_rules.specs.declared.fault.CheckFault.{CheckFault}
use Rattle.wdl_check_rules.specs.Conditions as condition

pub record Outcome (A : Type 0) : Type 0 where
  pub typed : Option A
  pub conditions : condition.Conditions

abbrev pub done : {A : Type 0} → A → Outcome A
done a = record { typed = Some a; conditions = [] }

abbrev pub refused : {A : Type 0} → ℕ → Span → Outcome A
refused code span = record { typed = None; conditions = condition.at code span }

-- the first part, and then the one that depends on it
abbrev pub then_ : {A B : Type 0} → Outcome A → (A → Outcome B) → Outcome B
then_ o f = record {
  typed = option_and_then (λ a. (f a).typed) o.typed;
  conditions = o.conditions ++ condition.given_that o.typed (λ a. (f a).conditions);
}

-- the code where there is nothing
abbrev pub or_refused : {A : Type 0} → ℕ → Span → Option A → Outcome A
or_refused code span (Some a) = done a
or_refused code span None = refused code span

-- What a check answers: what stands for the text, where there is something; else a code at a span where its condition
-- holds; or memory failed.
abbrev pub Answers : {A : Type 0} → Outcome A → Result A CheckFault → Type 0
Answers o = condition.Answers o.typed o.conditions
