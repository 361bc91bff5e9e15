-- Readings of a text without spans: what is open is a list of kinds, the innermost first.
use Rattle.std.proofs.Common.{◌≡◌, ℕ, ◌+◌, Bool, true, false, cond, List, [], ◌∷◌, ◌++◌, length, Option, Some, None, refl, ap, sym, ◌∙◌, subst}
use Rattle.wdl_base.specs.declared.span.Span.{Span}
use Rattle.wdl_ast.specs.declared.token.Mark.{Mark}
use Rattle.wdl_ast.specs.declared.token.Mark.TheVariants as mark
use Rattle.wdl_ast.specs.declared.token.Kind.{Kind}
use Rattle.wdl_ast.specs.declared.token.Kind.TheVariants as kind
use Rattle.wdl_ast.specs.declared.token.Token.{Token}
use Rattle.wdl_ast.specs.Spelled as s
use Rattle.wdl_ast.specs.Spelled.{inside_of, inside_at, is_hole, is_open_brace, unclosed_from, is_command, IsTokenIn, IsGapIn, AreTokens, IsOver, span_at, placed}
use Rattle.wdl_ast.specs.Spelled.Classes.{Bytes}
use Rattle.wdl_ast.specs.Spelled.Chars.{Inside}
use Rattle.wdl_ast.specs.Spelled.Gaps.{IsLastGap}
use Rattle.print_laws.specs.ReadBack.{kinds}

abbrev pub Stack : Type 0
Stack = List Kind

abbrev pub top : Stack → Option Kind
top [] = None
top (k ∷ st) = Some k

abbrev pub below : Stack → Stack
below [] = []
below (k ∷ st) = st

abbrev pub in_hole : Stack → Bool
in_hole st = is_hole (top st)

abbrev pub in_brace : Stack → Bool
in_brace st = is_open_brace (top st)

-- what a mark does to braces
pub data Brace : Type 0 where
  opening : Brace
  closing : Brace
  other : Brace

abbrev pub brace_of : Mark → Brace
brace_of mark.OpenBrace = opening
brace_of mark.CloseBrace = closing
brace_of m = other

abbrev pub brace : Kind
brace = kind.Mark mark.OpenBrace

abbrev pub behind_brace : Brace → Stack → Stack
behind_brace opening st = cond (in_hole st) (brace ∷ st) (cond (in_brace st) (brace ∷ st) st)
behind_brace closing st = cond (in_brace st) (below st) st
behind_brace other st = st

-- what is open behind a token
abbrev pub behind : Stack → Kind → Stack
behind st (kind.StrOpen q) = kind.StrOpen q ∷ st
behind st (kind.CommandOpen f) = kind.CommandOpen f ∷ st
behind st (kind.HoleOpen m) = kind.HoleOpen m ∷ st
behind st kind.StrClose = below st
behind st kind.CommandClose = below st
behind st kind.HoleClose = below st
behind st (kind.Mark m) = behind_brace (brace_of m) st
behind st k = st

-- no string and no command is open
abbrev pub AllClosed : Stack → Type 0
AllClosed [] = Unit {0}
AllClosed (k ∷ st) = (inside_of k ≡ None) × AllClosed st

-- the text spells tokens of these kinds, with gaps between
abbrev pub Reads : Bool → Stack → Bytes → List Kind → Type 0
Reads awaits st z [] = AllClosed st × IsLastGap z
Reads awaits st z (k ∷ ks) =
    (g : Bytes) × (w : Bytes) × (rest : Bytes) × (z ≡ g ++ (w ++ rest)) × IsGapIn (inside_at (top st)) g × IsTokenIn (inside_at (top st)) awaits (in_hole st) w rest k
    × Reads (is_command k) (behind st k) rest ks

-- ---- spans go and come

top_kinds : (o : s.Open) → s.innermost o ≡ top (kinds o)
top_kinds [] = refl
top_kinds (t ∷ o) = refl

below_kinds : (o : s.Open) → kinds (s.closed o) ≡ below (kinds o)
below_kinds [] = refl
below_kinds (t ∷ o) = refl

-- the same brace opens with a span and without
pushed : (o : s.Open) (t : Token) (h b : Bool) → kinds (cond h (t ∷ o) (cond b (t ∷ o) o)) ≡ cond h (t.kind ∷ kinds o) (cond b (t.kind ∷ kinds o) (kinds o))
pushed o t true b = refl
pushed o t false true = refl
pushed o t false false = refl

popped : (o : s.Open) (b : Bool) → kinds (cond b (s.closed o) o) ≡ cond b (below (kinds o)) (kinds o)
popped o true = below_kinds o
popped o false = refl

behind_mark : (o : s.Open) (p : Span) (m : Mark) → kinds (s.after o p (kind.Mark m)) ≡ behind_brace (brace_of m) (kinds o)
behind_mark o p mark.OpenBrace =
    pushed o (placed brace p) (s.in_hole o) (s.in_brace o)
    ∙ ap (λ x. cond (is_hole x) (brace ∷ kinds o) (cond (is_open_brace x) (brace ∷ kinds o) (kinds o))) (top_kinds o)
behind_mark o p mark.CloseBrace = popped o (s.in_brace o) ∙ ap (λ x. cond (is_open_brace x) (below (kinds o)) (kinds o)) (top_kinds o)
behind_mark o p mark.OpenBracket = refl
behind_mark o p mark.CloseBracket = refl
behind_mark o p mark.OpenParen = refl
behind_mark o p mark.CloseParen = refl
behind_mark o p mark.Comma = refl
behind_mark o p mark.Colon = refl
behind_mark o p mark.Dot = refl
behind_mark o p mark.Assign = refl
behind_mark o p mark.Question = refl
behind_mark o p mark.Plus = refl
behind_mark o p mark.Minus = refl
behind_mark o p mark.Star = refl
behind_mark o p mark.Slash = refl
behind_mark o p mark.Percent = refl
behind_mark o p mark.Not = refl
behind_mark o p mark.Equal = refl
behind_mark o p mark.NotEqual = refl
behind_mark o p mark.Less = refl
behind_mark o p mark.LessEqual = refl
behind_mark o p mark.Greater = refl
behind_mark o p mark.GreaterEqual = refl
behind_mark o p mark.And = refl
behind_mark o p mark.Or = refl

behind_kinds : (o : s.Open) (p : Span) (k : Kind) → kinds (s.after o p k) ≡ behind (kinds o) k
behind_kinds o p (kind.StrOpen q) = refl
behind_kinds o p (kind.CommandOpen f) = refl
behind_kinds o p (kind.HoleOpen m) = refl
behind_kinds o p kind.StrClose = below_kinds o
behind_kinds o p kind.CommandClose = below_kinds o
behind_kinds o p kind.HoleClose = below_kinds o
behind_kinds o p (kind.Mark m) = behind_mark o p m
behind_kinds o p (kind.Word w) = refl
behind_kinds o p (kind.Int n) = refl
behind_kinds o p (kind.Frac w) = refl
behind_kinds o p (kind.Chars w) = refl

closed_kinds : (o : s.Open) → s.unclosed o ≡ None → AllClosed (kinds o)
closed_kinds [] u = tt
closed_kinds (t ∷ o) u = go (inside_of t.kind) refl u (closed_kinds o)
  where
    go : (i : Option Inside) → inside_of t.kind ≡ i → unclosed_from i t (s.unclosed o) ≡ None → (s.unclosed o ≡ None → AllClosed (kinds o)) → (inside_of t.kind ≡ None) × AllClosed (kinds o)
    go None e u more = (e, more u)
    go (Some i) e u more = (let n : ⊥ = cc in absurd n)

unclosed_kinds : (o : s.Open) → AllClosed (kinds o) → s.unclosed o ≡ None
unclosed_kinds [] c = refl
unclosed_kinds (t ∷ o) (e, c) = ap (λ i. unclosed_from i t (s.unclosed o)) e ∙ unclosed_kinds o c

module _ (doc : ℕ) where
  pub without_spans : (at : ℕ) (awaits : Bool) (o : s.Open) (z : Bytes) (ts : List Token) → AreTokens IsOver doc at awaits o z ts → Reads awaits (kinds o) z (kinds ts)
  without_spans at awaits o z [] (u, last) = (closed_kinds o u, last)
  without_spans at awaits o z (t ∷ ts) (g, w, rest, k, text, gap, is, placed_is, more) =
      let here : k ≡ t.kind = sym (ap (λ (x : Token). x.kind) placed_is) in
      let next = without_spans (at + length g + length w) (is_command k) (s.after o (span_at doc (at + length g) (at + length g + length w)) k) rest ts more in
      subst (λ j. Reads awaits (kinds o) z (j ∷ kinds ts)) here (
        g,
        w,
        rest,
        text,
        subst (λ x. IsGapIn (inside_at x) g) (top_kinds o) gap,
        subst (λ x. IsTokenIn (inside_at x) awaits (is_hole x) w rest k) (top_kinds o) is,
        subst (λ st. Reads (is_command k) st rest (kinds ts)) (behind_kinds o (span_at doc (at + length g) (at + length g + length w)) k) next,
      )

  pub with_spans : (at : ℕ) (awaits : Bool) (o : s.Open) (z : Bytes) (ks : List Kind) → Reads awaits (kinds o) z ks → (ts : List Token) × (kinds ts ≡ ks) × AreTokens IsOver doc at awaits o z ts
  with_spans at awaits o z [] (c, last) = ([], refl, (unclosed_kinds o c, last))
  with_spans at awaits o z (k ∷ ks) (g, w, rest, text, gap, is, more) =
      let p = span_at doc (at + length g) (at + length g + length w) in
      let (ts, same, next) = with_spans (at + length g + length w) (is_command k) (s.after o p k) rest ks (subst (λ st. Reads (is_command k) st rest ks) (sym (behind_kinds o p k)) more) in (
        placed k p ∷ ts,
        ap (λ x. k ∷ x) same,
        (g, w, rest, k, text, subst (λ x. IsGapIn (inside_at x) g) (sym (top_kinds o)) gap, subst (λ x. IsTokenIn (inside_at x) awaits (is_hole x) w rest k) (sym (top_kinds o)) is, refl, next),
      )
