-- Checks of lists, and where faults stand in the documents of a library.
use Rattle.std.specs.Prelude.{◌≡◌, ℕ, List, [], ◌∷◌, ◌++◌, Result, Ok, Err, Some, map}
use Rattle.wdl_base.specs.declared.span.Span.{Span}
use Rattle.wdl_check_rules.specs.declared.fault.CheckFault.{CheckFault}
use Rattle.wdl_check_rules.specs.declared.fault.CheckFault.TheVariants.{Bad, NoMemory}
use Rattle.wdl_check_types.specs.Outcome.{Answers, Outcome, done, then_}

-- each member, one after the other
abbrev pub all : {A : Type 0} → (A → Outcome (Unit {0})) → List A → Outcome (Unit {0})
all f [] = done tt
all f (a ∷ as_) = then_ (f a) (λ u. all f as_)

-- what stands for each member, behind those before
abbrev pub each : {A B : Type 0} → (A → Outcome B) → List B → List A → Outcome (List B)
each f before [] = done before
each f before (a ∷ as_) = then_ (f a) (λ b. each f (before ++ b ∷ []) as_)

-- ---- places

-- the span in the document of that number
abbrev pub in_document : ℕ → Span → Span
in_document number s = record s { doc = number }

abbrev pub placed_fault : ℕ → CheckFault → CheckFault
placed_fault number (Bad code s) = Bad code (in_document number s)
placed_fault number NoMemory = NoMemory

-- the same, with each fault in the document of that number
abbrev pub placed : {A : Type 0} → ℕ → Outcome A → Outcome A
placed number o = record { typed = o.typed; conditions = map (placed_fault number) o.conditions }

abbrev pub placed_answer : {A : Type 0} → ℕ → Result A CheckFault → Result A CheckFault
placed_answer number (Ok a) = Ok a
placed_answer number (Err e) = Err (placed_fault number e)

-- What code answers, where it has what stands for the text in a form of its own.
abbrev pub AnswersAs : {A B : Type 0} → Outcome B → Result A CheckFault → (A → B) → Type 0
AnswersAs o (Ok a) f = o.typed ≡ Some (f a)
AnswersAs o (Err e) f = Answers o (Err e)
