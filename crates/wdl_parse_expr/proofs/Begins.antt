-- How expressions begin.
use Rattle.std.proofs.Common.{◌≡◌, ℕ, Bool, true, false, not, List, [], ◌∷◌, ◌++◌, refl, ap, sym, ◌∙◌, codes}
use Rattle.std.proofs.lemmas.Slice.Eq.{bytes_eq-Decides}
use Rattle.std.specs.Str.{bytes_eq}
use Rattle.wdl_base.specs.Names.{is_name, reserved_words}
use Rattle.wdl_ast.specs.declared.token.Mark.{Mark}
use Rattle.wdl_ast.specs.declared.token.Mark.TheVariants as mark
use Rattle.wdl_ast.specs.declared.token.Kind.{Kind}
use Rattle.wdl_ast.specs.declared.token.Kind.TheVariants as kind
use Rattle.wdl_ast.specs.declared.token.Token.{Token}
use Rattle.wdl_ast.specs.declared.expr.BinaryOperator.{BinaryOperator}
use Rattle.wdl_ast.specs.declared.expr.BinaryOperator.TheVariants as op
use Rattle.wdl_ast.specs.declared.expr.UnaryOperator.{UnaryOperator}
use Rattle.wdl_ast.specs.declared.expr.UnaryOperator.TheVariants as pre
use Rattle.wdl_ast.specs.declared.expr.Expr.{Expr}
use Rattle.wdl_ast.specs.Words.{Words, binary_mark, unary_mark, words}
use Rattle.token_reading.specs.Outcome.{is_mark}
use Rattle.token_reading.proofs.Steps.{marks}

abbrev pub begins : Kind → Bool
begins (kind.Word w) = true
begins (kind.Int n) = true
begins (kind.StrOpen q) = true
begins (kind.Mark mark.Not) = true
begins (kind.Mark mark.Minus) = true
begins (kind.Mark mark.Plus) = true
begins (kind.Mark mark.OpenParen) = true
begins (kind.Mark mark.OpenBracket) = true
begins (kind.Mark mark.OpenBrace) = true
begins _ = false

abbrev pub no_assign : Words → Bool
no_assign [] = true
no_assign (t ∷ ts) = not (is_mark mark.Assign t.kind)

-- no `=` is behind a word
abbrev pub calm : Kind → Words → Bool
calm (kind.Word w) more = no_assign more
calm _ more = true

-- with such a token; `=` is not the second where the first is a word
abbrev pub Begins : Words → Type 0
Begins ws = (t : Token) × (more : Words) × (ws ≡ t ∷ more) × (begins t.kind ≡ true) × (calm t.kind more ≡ true)

abbrev pub Starts : (Expr → Type 0) → Type 0
Starts P = (x : Expr) → P x → Begins (words x)

no_assign_before : (more : Words) (t : Token) (rest : Words) → no_assign more ≡ true → is_mark mark.Assign t.kind ≡ false → no_assign (more ++ t ∷ rest) ≡ true
no_assign_before [] t rest h q = ap not q
no_assign_before (u ∷ more) t rest h q = h

pub calm_before : (k : Kind) (more : Words) (t : Token) (rest : Words) → calm k more ≡ true → is_mark mark.Assign t.kind ≡ false → calm k (more ++ t ∷ rest) ≡ true
calm_before (kind.Word w) more t rest h q = no_assign_before more t rest h q
calm_before _ more t rest h q = refl

-- ---- closing marks

pub closer_begins : (m : Mark) → begins (kind.Mark m) ≡ false → (k : Kind) → begins k ≡ true → is_mark m k ≡ false
closer_begins m h (kind.Mark k) b = apart (is_mark m (kind.Mark k)) refl
  where
    apart : (q : Bool) → is_mark m (kind.Mark k) ≡ q → q ≡ false
    apart false p = refl
    apart true p = (let f : kind.Mark k ≡ kind.Mark m = marks m (kind.Mark k) p in let n : true ≡ false = sym b ∙ ap begins f ∙ h in let z : ⊥ = cc in absurd z)
closer_begins m h _ b = refl

-- what begins so does not begin with `=`
pub no_assign_begins : (ws rest : Words) → Begins ws → no_assign (ws ++ rest) ≡ true
no_assign_begins ws rest b = ap (λ z. no_assign (z ++ rest)) b.2 ∙ ap not (closer_begins mark.Assign refl b.0.kind b.3)

-- ---- operators

pub binary_not_assign : (o : BinaryOperator) → is_mark mark.Assign (kind.Mark (binary_mark o)) ≡ false
binary_not_assign op.Or = refl
binary_not_assign op.And = refl
binary_not_assign op.Equal = refl
binary_not_assign op.NotEqual = refl
binary_not_assign op.Less = refl
binary_not_assign op.LessEqual = refl
binary_not_assign op.Greater = refl
binary_not_assign op.GreaterEqual = refl
binary_not_assign op.Add = refl
binary_not_assign op.Subtract = refl
binary_not_assign op.Multiply = refl
binary_not_assign op.Divide = refl
binary_not_assign op.Remainder = refl

pub unary_begins : (o : UnaryOperator) → begins (kind.Mark (unary_mark o)) ≡ true
unary_begins pre.Not = refl
unary_begins pre.Negate = refl
unary_begins pre.Plus = refl

-- ---- names are no other words

pub name_not : (w v : List ℕ) → is_name w ≡ true → is_name v ≡ false → bytes_eq w v ≡ false
name_not w v h q = apart (bytes_eq w v) refl
  where
    apart : (b : Bool) → bytes_eq w v ≡ b → b ≡ false
    apart false p = refl
    apart true p = (let f : w ≡ v = (bytes_eq-Decides w v).0 p in let n : true ≡ false = sym h ∙ ap is_name f ∙ q in let z : ⊥ = cc in absurd z)

pub if_reserved : is_name (codes "if") ≡ false
unfolding reserved_words
if_reserved = refl

pub true_reserved : is_name (codes "true") ≡ false
unfolding reserved_words
true_reserved = refl

pub false_reserved : is_name (codes "false") ≡ false
unfolding reserved_words
false_reserved = refl

pub none_reserved : is_name (codes "None") ≡ false
unfolding reserved_words
none_reserved = refl
