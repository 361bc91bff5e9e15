-- The tables of operators, both ways.
use Rattle.std.proofs.Common.{◌≡◌, ℕ, ◌==◌, inl, inr, [], ◌∷◌, Option, Some, None, refl, ap, sym, ◌∙◌}
use Rattle.std.proofs.lemmas.Bool.{eqb-true, eq-eqb}
use Rattle.wdl_base.specs.declared.span.Span.{Span}
use Rattle.wdl_ast.specs.declared.token.Mark.{Mark}
use Rattle.wdl_ast.specs.declared.token.Mark.TheVariants as mark
use Rattle.wdl_ast.specs.declared.token.Kind.{Kind}
use Rattle.wdl_ast.specs.declared.token.Kind.TheVariants as kind
use Rattle.wdl_ast.specs.declared.expr.BinaryOperator.{BinaryOperator}
use Rattle.wdl_ast.specs.declared.expr.BinaryOperator.TheVariants as op
use Rattle.wdl_ast.specs.declared.expr.UnaryOperator.{UnaryOperator}
use Rattle.wdl_ast.specs.declared.expr.UnaryOperator.TheVariants as pre
use Rattle.wdl_ast.specs.Words.{Words, at, marked, binary_mark, unary_mark}
use Rattle.token_reading.specs.Operators.{looseness, binary_of, unary_of, leveled, binary_from, binary_at, signs, unary_from, unary_at}
use Rattle.token_reading.proofs.Steps.{chosen, cond_true}

pub binary_back : (o : BinaryOperator) → binary_of (binary_mark o) ≡ Some o
binary_back op.Or = refl
binary_back op.And = refl
binary_back op.Equal = refl
binary_back op.NotEqual = refl
binary_back op.Less = refl
binary_back op.LessEqual = refl
binary_back op.Greater = refl
binary_back op.GreaterEqual = refl
binary_back op.Add = refl
binary_back op.Subtract = refl
binary_back op.Multiply = refl
binary_back op.Divide = refl
binary_back op.Remainder = refl

pub binary_on : (m : Mark) (o : BinaryOperator) → binary_of m ≡ Some o → m ≡ binary_mark o
binary_on mark.Or o h = let f : op.Or ≡ o = cc in ap binary_mark f
binary_on mark.And o h = let f : op.And ≡ o = cc in ap binary_mark f
binary_on mark.Equal o h = let f : op.Equal ≡ o = cc in ap binary_mark f
binary_on mark.NotEqual o h = let f : op.NotEqual ≡ o = cc in ap binary_mark f
binary_on mark.Less o h = let f : op.Less ≡ o = cc in ap binary_mark f
binary_on mark.LessEqual o h = let f : op.LessEqual ≡ o = cc in ap binary_mark f
binary_on mark.Greater o h = let f : op.Greater ≡ o = cc in ap binary_mark f
binary_on mark.GreaterEqual o h = let f : op.GreaterEqual ≡ o = cc in ap binary_mark f
binary_on mark.Plus o h = let f : op.Add ≡ o = cc in ap binary_mark f
binary_on mark.Minus o h = let f : op.Subtract ≡ o = cc in ap binary_mark f
binary_on mark.Star o h = let f : op.Multiply ≡ o = cc in ap binary_mark f
binary_on mark.Slash o h = let f : op.Divide ≡ o = cc in ap binary_mark f
binary_on mark.Percent o h = let f : op.Remainder ≡ o = cc in ap binary_mark f
binary_on _ o h = cc

pub unary_back : (o : UnaryOperator) → unary_of (unary_mark o) ≡ Some o
unary_back pre.Not = refl
unary_back pre.Negate = refl
unary_back pre.Plus = refl

pub unary_on : (m : Mark) (o : UnaryOperator) → unary_of m ≡ Some o → m ≡ unary_mark o
unary_on mark.Not o h = let f : pre.Not ≡ o = cc in ap unary_mark f
unary_on mark.Minus o h = let f : pre.Negate ≡ o = cc in ap unary_mark f
unary_on mark.Plus o h = let f : pre.Plus ≡ o = cc in ap unary_mark f
unary_on _ o h = cc

-- ---- an operator between operands

leveled_is : (k : ℕ) (m : Mark) (b : Option BinaryOperator) (s : Span) (ts : Words) (x : (BinaryOperator × Span) × Words) → binary_of m ≡ b → leveled k b s ts ≡ Some x
    → (marked m s ∷ ts ≡ marked (binary_mark x.0.0) x.0.1 ∷ x.1) × (looseness x.0.0 ≡ k)
leveled_is k m (Some o) s ts x q h = elim (chosen (looseness o == k) _ _ _ h) [
  | inl p ↦
      let f : ((o, s), ts) ≡ x = cc in
      (ap (λ z. marked z s ∷ ts) (binary_on m o q) ∙ ap (λ (y : (BinaryOperator × Span) × Words). marked (binary_mark y.0.0) y.0.1 ∷ y.1) f, ap (λ (y : (BinaryOperator × Span) × Words). looseness y.0.0) (sym f) ∙ eqb-true (looseness o) k p.0)
  | inr p ↦ (let n : ⊥ = cc in absurd n)
]
leveled_is k m None s ts x q h = cc

binary_is : (k : ℕ) (x : Kind) (s : Span) (ts : Words) (y : (BinaryOperator × Span) × Words) → binary_from k x s ts ≡ Some y → (at x s ∷ ts ≡ marked (binary_mark y.0.0) y.0.1 ∷ y.1) × (looseness y.0.0 ≡ k)
binary_is k (kind.Mark m) s ts y h = leveled_is k m (binary_of m) s ts y refl h
binary_is k _ s ts y h = cc

pub ate_binary : (k : ℕ) (ts : Words) (x : (BinaryOperator × Span) × Words) → binary_at k ts ≡ Some x → (ts ≡ marked (binary_mark x.0.0) x.0.1 ∷ x.1) × (looseness x.0.0 ≡ k)
ate_binary k [] x h = cc
ate_binary k (t ∷ ts) x h = binary_is k t.kind t.span ts x h

pub sees_binary : (k : ℕ) (o : BinaryOperator) (s : Span) (ts : Words) → looseness o ≡ k → binary_at k (marked (binary_mark o) s ∷ ts) ≡ Some ((o, s), ts)
sees_binary k o s ts h = ap (λ b. leveled k b s ts) (binary_back o) ∙ cond_true (looseness o == k) _ _ (ap (λ z. z == k) h ∙ eq-eqb k k refl)

-- ---- an operator before an operand

signs_is : (m : Mark) (b : Option UnaryOperator) (s : Span) (ts : Words) (x : (UnaryOperator × Span) × Words) → unary_of m ≡ b → signs b s ts ≡ Some x → marked m s ∷ ts ≡ marked (unary_mark x.0.0) x.0.1 ∷ x.1
signs_is m (Some o) s ts x q h =
    let f : ((o, s), ts) ≡ x = cc in
    ap (λ z. marked z s ∷ ts) (unary_on m o q) ∙ ap (λ (y : (UnaryOperator × Span) × Words). marked (unary_mark y.0.0) y.0.1 ∷ y.1) f
signs_is m None s ts x q h = cc

unary_is : (x : Kind) (s : Span) (ts : Words) (y : (UnaryOperator × Span) × Words) → unary_from x s ts ≡ Some y → at x s ∷ ts ≡ marked (unary_mark y.0.0) y.0.1 ∷ y.1
unary_is (kind.Mark m) s ts y h = signs_is m (unary_of m) s ts y refl h
unary_is _ s ts y h = cc

pub ate_unary : (ts : Words) (x : (UnaryOperator × Span) × Words) → unary_at ts ≡ Some x → ts ≡ marked (unary_mark x.0.0) x.0.1 ∷ x.1
ate_unary [] x h = cc
ate_unary (t ∷ ts) x h = unary_is t.kind t.span ts x h

pub sees_unary : (o : UnaryOperator) (s : Span) (ts : Words) → unary_at (marked (unary_mark o) s ∷ ts) ≡ Some ((o, s), ts)
sees_unary o s ts = ap (λ b. signs b s ts) (unary_back o)
