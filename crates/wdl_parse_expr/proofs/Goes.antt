-- Where reading goes on behind an expression.
use Rattle.std.proofs.Common.{◌≡◌, ℕ, suc, ◌+◌, ◌<◌, ◌≤◌, Bool, true, false, cond, ◌||◌, ◌⊎◌, inl, inr, [], ◌∷◌, ◌++◌, length, Option, Some, None, Ok, Err, if◌then◌else◌, refl, ap, sym, ◌∙◌, arith, nat_le, nat_lt}
use Rattle.std.proofs.lemmas.Bool.Decides.{nat_tests}
use Rattle.wdl_base.specs.declared.span.Span.{Span}
use Rattle.wdl_ast.specs.declared.token.Mark.TheVariants as mark
use Rattle.wdl_ast.specs.declared.token.Kind.{Kind}
use Rattle.wdl_ast.specs.declared.token.Kind.TheVariants as kind
use Rattle.wdl_ast.specs.declared.expr.BinaryOperator.{BinaryOperator}
use Rattle.wdl_ast.specs.declared.expr.BinaryOperator.TheVariants as op
use Rattle.wdl_ast.specs.declared.expr.Expr.{Expr}
use Rattle.wdl_ast.specs.Words.{Words, marked, binary_mark, words}
use Rattle.token_reading.specs.declared.fault.Fault.{Fault}
use Rattle.token_reading.specs.declared.fault.Refusal.TheVariants.{Bad}
use Rattle.token_reading.specs.declared.tall.Tall.{Tall}
use Rattle.token_reading.specs.declared.tall.Rule.{Rule}
use Rattle.token_reading.specs.declared.tall.Rule.TheVariants as rule
use Rattle.token_reading.specs.Outcome.{Outcome, Parser, then_, is_mark, tall, grown, bad}
use Rattle.token_reading.specs.Operators.{looseness, binary_of}
use Rattle.wdl_parse_expr.specs.Grammar.{ends_in_choice}
use Rattle.wdl_parse_expr.specs.Contract.{is_suffix, is_below, goes_on, continues}
use Rattle.token_reading.proofs.Steps.{then_is, then_bad}
use Rattle.token_reading.proofs.Tables.{binary_back}

-- The rule that a token behind an expression may go on with: behind a choice, that of whole expressions.
abbrev pub limit : ℕ → Expr → ℕ
limit k x = if ends_in_choice x then 6 else k

abbrev pub level : Rule → Expr → ℕ
level rule.Unary x = limit 0 x
level rule.Expr x = 6

-- refused for good
abbrev pub Hard : {A : Type 0} → Outcome A → Type 0
Hard o = (f : Fault) × (o ≡ Err (Bad f))

-- goes past the tail, or is refused for good in it
abbrev pub Longer : {A : Type 0} → Outcome A → Words → Type 0
Longer {A} o tail = Hard o ⊎ ((x : A × Words) × (o ≡ Ok x) × (length x.1 < length tail))

abbrev pub AtMost : {A : Type 0} → Outcome A → Words → Type 0
AtMost {A} o tail = Hard o ⊎ ((x : A × Words) × (o ≡ Ok x) × (length x.1 ≤ length tail))

-- reads this expression up to this tail, or more
abbrev pub Reaches : ℕ → Outcome (Tall Expr) → Tall Expr → Words → Type 0
Reaches k o t tail = (o ≡ Ok (t, tail)) ⊎ ((continues k tail ≡ true) × Longer o tail)

abbrev pub IsFull : (Rule → ℕ → Expr → Type 0) → (Rule → Parser (Tall Expr)) → Type 0
IsFull In inner = (k : Rule) (n : ℕ) (x : Expr) → In k n x → (tail : Words) → Reaches (level k x) (inner k (words x ++ tail)) (tall x n) tail

-- ---- longer

pub longer_along : {A : Type 0} (o p : Outcome A) (tail : Words) → o ≡ p → Longer p tail → Longer o tail
longer_along o p tail q (inl d) = inl (d.0, q ∙ d.1)
longer_along o p tail q (inr x) = inr (x.0, q ∙ x.1, x.2)

pub longer_then : {A B : Type 0} (o : Outcome A) (f : A → Parser B) (tail : Words) → Longer o tail → ((x : A) (r : Words) → AtMost (f x r) r) → Longer (then_ o f) tail
longer_then o f tail (inl d) more = inl (d.0, then_bad o f d.0 d.1)
longer_then {A} {B} o f tail (inr x) more = go (more x.0.0 x.0.1)
  where
    go : AtMost (f x.0.0 x.0.1) x.0.1 → Longer (then_ o f) tail
    go (inl d) = inl (d.0, then_is o f x.0 x.1 ∙ d.1)
    go (inr y) = inr (y.0, then_is o f x.0 x.1 ∙ y.1, omega (arith, x.2, y.2))

pub at_most_grown : {A : Type 0} (depth : ℕ) (s : Span) (links inside : ℕ) (x : A) (ts : Words) → AtMost (grown depth s links inside x ts) ts
unfolding grown
at_most_grown depth s links inside x ts = go (nat_le (links + inside) depth)
  where
    go : (b : Bool) → AtMost (cond b (Ok (tall x (suc (links + inside)), ts)) (bad 111 s)) ts
    go true = inr ((tall x (suc (links + inside)), ts), refl, omega arith)
    go false = inl (_, refl)

-- an expression that cannot go on is read exactly
pub exact : (k : ℕ) (o : Outcome (Tall Expr)) (t : Tall Expr) (tail : Words) → continues k tail ≡ false → Reaches k o t tail → o ≡ Ok (t, tail)
exact k o t tail stops (inl h) = h
exact k o t tail stops (inr h) = (let n : true ≡ false = sym h.0 ∙ stops in let z : ⊥ = cc in absurd z)

below_more : (k : ℕ) (o : Option BinaryOperator) → is_below k o ≡ true → is_below (suc k) o ≡ true
below_more k (Some o) h = grind (arith, nat_tests)
below_more k None h = cc

or_more : (a b c : Bool) → (b ≡ true → c ≡ true) → (a || b) ≡ true → (a || c) ≡ true
or_more true b c f h = refl
or_more false b c f h = f h

goes_on_more : (k : ℕ) (x : Kind) → goes_on k x ≡ true → goes_on (suc k) x ≡ true
goes_on_more k (kind.Mark m) h = or_more (is_suffix m) (is_below k (binary_of m)) (is_below (suc k) (binary_of m)) (below_more k (binary_of m)) h
goes_on_more k _ h = cc

continues_more : (k : ℕ) (ts : Words) → continues k ts ≡ true → continues (suc k) ts ≡ true
continues_more k [] h = cc
continues_more k (t ∷ ts) h = goes_on_more k t.kind h

-- every operator goes on with a whole expression
loose : (o : BinaryOperator) → nat_lt (looseness o) 6 ≡ true
loose op.Or = refl
loose op.And = refl
loose op.Equal = refl
loose op.NotEqual = refl
loose op.Less = refl
loose op.LessEqual = refl
loose op.Greater = refl
loose op.GreaterEqual = refl
loose op.Add = refl
loose op.Subtract = refl
loose op.Multiply = refl
loose op.Divide = refl
loose op.Remainder = refl

below_most : (k : ℕ) (o : Option BinaryOperator) → is_below k o ≡ true → is_below 6 o ≡ true
below_most k (Some o) h = loose o
below_most k None h = cc

goes_on_most : (k : ℕ) (x : Kind) → goes_on k x ≡ true → goes_on 6 x ≡ true
goes_on_most k (kind.Mark m) h = or_more (is_suffix m) (is_below k (binary_of m)) (is_below 6 (binary_of m)) (below_most k (binary_of m)) h
goes_on_most k _ h = cc

continues_most : (k : ℕ) (ts : Words) → continues k ts ≡ true → continues 6 ts ≡ true
continues_most k [] h = cc
continues_most k (t ∷ ts) h = goes_on_most k t.kind h

-- ---- behind an expression that may end in a choice

pub at_limit : (k : ℕ) (x : Expr) (ts : Words) → continues k ts ≡ true → continues (limit k x) ts ≡ true
at_limit k x ts h = go (ends_in_choice x)
  where
    go : (b : Bool) → continues (cond b 6 k) ts ≡ true
    go true = continues_most k ts h
    go false = h

pub limit_more : (k : ℕ) (x : Expr) (ts : Words) → continues (limit k x) ts ≡ true → continues (limit (suc k) x) ts ≡ true
limit_more k x ts h = go (ends_in_choice x) h
  where
    go : (b : Bool) → continues (cond b 6 k) ts ≡ true → continues (cond b 6 (suc k)) ts ≡ true
    go true q = q
    go false q = continues_more k ts q

pub limit_whole : (x : Expr) (ts : Words) → continues (limit 6 x) ts ≡ true → continues 6 ts ≡ true
limit_whole x ts h = go (ends_in_choice x) h
  where
    go : (b : Bool) → continues (cond b 6 6) ts ≡ true → continues 6 ts ≡ true
    go true q = q
    go false q = q

-- ---- operators

-- an operator is no suffix
no_suffix : (o : BinaryOperator) → is_suffix (binary_mark o) ≡ false
no_suffix op.Or = refl
no_suffix op.And = refl
no_suffix op.Equal = refl
no_suffix op.NotEqual = refl
no_suffix op.Less = refl
no_suffix op.LessEqual = refl
no_suffix op.Greater = refl
no_suffix op.GreaterEqual = refl
no_suffix op.Add = refl
no_suffix op.Subtract = refl
no_suffix op.Multiply = refl
no_suffix op.Divide = refl
no_suffix op.Remainder = refl

-- an operator of rule suc k goes on with that rule, and not with one that binds tighter
goes_by : (k : ℕ) (o : BinaryOperator) → goes_on k (kind.Mark (binary_mark o)) ≡ nat_lt (looseness o) k
goes_by k o = ap (λ b. b || is_below k (binary_of (binary_mark o))) (no_suffix o) ∙ ap (is_below k) (binary_back o)

pub operator_stops : (k : ℕ) (o : BinaryOperator) (s : Span) (ts : Words) → looseness o ≡ k → continues k (marked (binary_mark o) s ∷ ts) ≡ false
operator_stops k o s ts h = goes_by k o ∙ grind (arith, nat_tests)

pub operator_goes : (k : ℕ) (o : BinaryOperator) (s : Span) (ts : Words) → looseness o ≡ k → continues (suc k) (marked (binary_mark o) s ∷ ts) ≡ true
operator_goes k o s ts h = goes_by (suc k) o ∙ grind (arith, nat_tests)

-- whether the brackets of a call or a struct literal come next
abbrev pub calls : Words → Bool
calls [] = false
calls (t ∷ ts) = is_mark mark.OpenParen t.kind || is_mark mark.OpenBrace t.kind

pub calls_go : (ts : Words) → calls ts ≡ true → continues 0 ts ≡ true
calls_go [] h = cc
calls_go (t ∷ ts) h = go t.kind h
  where
    go : (x : Kind) → (is_mark mark.OpenParen x || is_mark mark.OpenBrace x) ≡ true → goes_on 0 x ≡ true
    go (kind.Mark mark.OpenParen) q = refl
    go (kind.Mark mark.OpenBrace) q = refl
    go (kind.Mark _) q = cc
    go _ q = cc
