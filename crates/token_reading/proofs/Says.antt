-- What an outcome says: of what was read, and of a fault.
use Rattle.std.proofs.Common.{◌≡◌, ℕ, suc, ◌+◌, ◌≤◌, Bool, true, false, cond, ◌++◌, Option, Some, None, Ok, Err, refl, subst, arith, nat_le}
use Rattle.std.proofs.lemmas.Bool.Decides.{nat_tests}
use Rattle.wdl_base.specs.declared.span.Span.{Span}
use Rattle.wdl_ast.specs.Words.{Words}
use Rattle.token_reading.specs.declared.fault.Fault.{Fault}
use Rattle.token_reading.specs.declared.fault.Refusal.TheVariants.{Missing, Bad}
use Rattle.token_reading.specs.declared.tall.Tall.{Tall}
use Rattle.token_reading.specs.Outcome.{Outcome, Parser, then_, attempt, found, tall, grown}

-- the fault of a code and a span
abbrev pub fault : ℕ → Span → Fault
fault c s = record { code = c; span = s }

-- nothing is said of faults
abbrev pub AnyFault : Fault → Type 0
AnyFault f = Unit {0}

-- C is said of a fault
module _ (C : Fault → Type 0) where
  abbrev pub Says : {A : Type 0} → (A → Words → Type 0) → Outcome A → Type 0
  Says Q (Ok x) = Q x.0 x.1
  Says Q (Err Missing) = Unit {0}
  Says Q (Err (Bad f)) = C f

  pub carry : {A : Type 0} (Q R : A → Words → Type 0) (o : Outcome A) → ((x : A) (r : Words) → Q x r → R x r) → Says Q o → Says R o
  carry Q R (Ok x) f s = f x.0 x.1 s
  carry Q R (Err Missing) f s = tt
  carry Q R (Err (Bad b)) f s = s

  pub says_then : {A B : Type 0} (Q : A → Words → Type 0) (R : B → Words → Type 0) (o : Outcome A) (f : A → Parser B) → Says Q o → ((x : A) (r : Words) → Q x r → Says R (f x r)) → Says R (then_ o f)
  unfolding then_
  says_then Q R (Ok x) f s next = next x.0 x.1 s
  says_then Q R (Err Missing) f s next = tt
  says_then Q R (Err (Bad b)) f s next = s

  pub says_attempt : {A B : Type 0} (Q : A → Words → Type 0) (R : B → Words → Type 0) (o : Outcome A) (f : A → Parser B) (other : Outcome B) → Says Q o → ((x : A) (r : Words) → Q x r → Says R (f x r)) → Says R other
      → Says R (attempt o f other)
  unfolding attempt
  says_attempt Q R (Ok x) f other s next back = next x.0 x.1 s
  says_attempt Q R (Err Missing) f other s next back = back
  says_attempt Q R (Err (Bad b)) f other s next back = s

  pub says_found : {A B : Type 0} (R : B → Words → Type 0) (o : Option (A × Words)) (f : A → Parser B) (other : Outcome B) → ((x : A × Words) → o ≡ Some x → Says R (f x.0 x.1)) → (o ≡ None → Says R other) → Says R (found o f other)
  unfolding found
  says_found R (Some x) f other yes_ no_ = yes_ x refl
  says_found R None f other yes_ no_ = no_ refl

  pub says_cond : {A : Type 0} (R : A → Words → Type 0) (b : Bool) (o p : Outcome A) → (b ≡ true → Says R o) → (b ≡ false → Says R p) → Says R (cond b o p)
  says_cond R true o p f g = f refl
  says_cond R false o p f g = g refl

  pub says_grown : {A : Type 0} (R : Tall A → Words → Type 0) (depth : ℕ) (s : Span) (inside : ℕ) (x : A) (rest : Words) → inside ≤ depth → R (tall x (suc inside)) rest → Says R (grown depth s 0 inside x rest)
  unfolding grown
  says_grown R depth s inside x rest fits r =
      let same : inside ≡ 0 + inside = omega arith in
      says_cond R (nat_le (0 + inside) depth) _ _ (λ h. subst (λ n. R (tall x (suc n)) rest) same r) (λ h. let n : nat_le (0 + inside) depth ≡ true = grind (arith, nat_tests) in let z : ⊥ = cc in absurd z)

  -- what an outcome that is known says
  pub said : {A : Type 0} (Q : A → Words → Type 0) (o : Outcome A) (x : A × Words) → Says Q o → o ≡ Ok x → Q x.0 x.1
  said Q o x s h = subst (Says Q) h s

  pub blamed : {A : Type 0} (Q : A → Words → Type 0) (o : Outcome A) (f : Fault) → Says Q o → o ≡ Err (Bad f) → C f
  blamed Q o f s h = subst (Says Q) h s

-- What a reader's answer says: the tokens that it took are those of the tree, which is a P.
abbrev pub Takes : {A : Type 0} → (A → Type 0) → (A → Words) → Words → A → Words → Type 0
Takes P w ts x r = (ts ≡ w x ++ r) × P x

abbrev pub Sound : {A : Type 0} → (A → Type 0) → (A → Words) → Parser A → Type 0
Sound P w p = (ts : Words) → Says AnyFault (Takes P w ts) (p ts)
