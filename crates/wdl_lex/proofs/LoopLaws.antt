-- One turn of the loop that reads a text.
use Rattle.std.proofs.Common.{◌≡◌, ℕ, suc, ◌+◌, ◌<◌, ◌≤◌, Bool, false, List, [], ◌∷◌, ◌++◌, length, take, drop, Option, Some, None, Result, Ok, Err, refl, ap, sym, ◌∙◌, subst, append_assoc, length-append, length-drop, arith}
use Rattle.std.proofs.lemmas.List.{append-nil, drop-drop, take-append-drop, length-take-le, drop_all}
use Rattle.wdl_ast.specs.declared.token.Kind.{Kind}
use Rattle.wdl_ast.specs.declared.token.Token.{Token}
use Rattle.wdl_ast.specs.Spelled.{Open, inside_of, inside, in_hole, after, is_command, unclosed, span_at, placed, IsToken}
use Rattle.wdl_ast.specs.Spelled.Classes.{Bytes, is_end}
use Rattle.wdl_lex.specs.declared.fault.Flaw.{Flaw}
use Rattle.wdl_lex.specs.Reading.{Fault, fault_at, open_code, and_then, gap, token, ended, lex_from, lex, with_front}
use Rattle.std.proofs.Common.{◌⊎◌, inl, inr}
use Rattle.std.proofs.lemmas.Bool.Decides.{nat_tests}
use Rattle.std.proofs.lemmas.Str.{IsUtf8-nil}
use Rattle.std.specs.Str.{IsUtf8}
use Rattle.wdl_ast.specs.Spelled.Classes.{first}
use Rattle.wdl_ast.specs.Spelled.Chars.{Inside}
use Rattle.wdl_ast.specs.Spelled.Gaps.{IsGap}
use Rattle.wdl_lex.specs.Faults as fault
use Rattle.wdl_lex.specs.Faults.{IsFlawIn}
use Rattle.wdl_lex.specs.Reading.Code.{char_len}
use Rattle.wdl_lex.specs.Reading.Gaps.{gap_in}
use Rattle.wdl_lex.proofs.Lists.{left}
use Rattle.wdl_lex.proofs.GapLaws.{CutsOff}
use Rattle.wdl_lex.proofs.TextLaws.{cut_before, behind_gap, behind_token}
use Rattle.wdl_lex.proofs.Whole.{Parts, parts, at_end, at_token, at_flaw, reads_token, reads_flaw}

abbrev Texts : Type 0
Texts = Result (List Token) Fault

front_nil : (o : Texts) → with_front [] o ≡ o
unfolding and_then
front_nil (Ok ts) = refl
front_nil (Err f) = refl

front_both : (front : List Token) (x : Token) (o : Texts) → with_front front (and_then o (λ ts. Ok (x ∷ ts))) ≡ with_front (front ++ x ∷ []) o
unfolding and_then
front_both front x (Ok ts) = ap (λ z. Ok z) (sym (append_assoc front (x ∷ []) ts))
front_both front x (Err f) = refl

front_err : (front : List Token) (f : Fault) → with_front front (Err f) ≡ Err f
unfolding and_then
front_err front f = refl

abbrev pub finished : List Token → Option Token → Texts
finished front None = Ok front
finished front (Some t) = Err (open_code (inside_of t.kind), t.span)

front_ended : (front : List Token) (o : Option Token) → with_front front (ended o) ≡ finished front o
unfolding and_then
front_ended front None = ap (λ z. Ok z) (append-nil front)
front_ended front (Some t) = refl

not_end : (y : Bytes) → 0 < length y → is_end y ≡ false
not_end [] h = absurd (omega arith)
not_end (b ∷ y) h = refl

module _ (limited : Bool) (doc : ℕ) (z : Bytes) where
  pub starts : (front : List Token) (opened : Open) (n : ℕ) → front ≡ [] → opened ≡ [] → n ≡ suc (length z) → lex limited doc z ≡ with_front front (lex_from limited doc n 0 false opened z)
  unfolding lex
  starts front opened n f o e =
      sym (front_nil (lex_from limited doc (suc (length z)) 0 false [] z)) ∙ ap (λ x. with_front x (lex_from limited doc (suc (length z)) 0 false [] z)) (sym f)
      ∙ ap (λ x. with_front front (lex_from limited doc (suc (length z)) 0 false x z)) (sym o) ∙ ap (λ k. with_front front (lex_from limited doc k 0 false opened z)) (sym e)

  module _ (front : List Token) (awaits : Bool) (opened : Open) (n m at g : ℕ) (so_far : lex limited doc z ≡ with_front front (lex_from limited doc n at awaits opened (drop at z))) (turns : n ≡ suc m) (gap_is : g ≡ gap opened (drop at z)) (within : at + g ≤ length z) where
    fits : g ≤ length (drop at z)
    fits = omega (arith, length-drop at z)

    behind : drop g (drop at z) ≡ drop (at + g) z
    behind = drop-drop g at z

    text : drop at z ≡ take g (drop at z) ++ drop (at + g) z
    text = sym (take-append-drop g (drop at z)) ∙ ap (λ y. take g (drop at z) ++ y) behind

    gap_len : gap opened (drop at z) ≡ length (take g (drop at z))
    gap_len = sym gap_is ∙ sym (length-take-le g (drop at z) fits)

    len : length (take g (drop at z)) ≡ g
    len = length-take-le g (drop at z) fits

    turn : lex limited doc z ≡ with_front front (lex_from limited doc (suc m) at awaits opened (drop at z))
    turn = so_far ∙ ap (λ k. with_front front (lex_from limited doc k at awaits opened (drop at z))) turns

    some : at + g < length z → is_end (drop (at + g) z) ≡ false
    some less = not_end (drop (at + g) z) (omega (arith, length-drop (at + g) z))

    pub at_last : at + g ≡ length z → lex limited doc z ≡ finished front (unclosed opened)
    at_last e =
        turn ∙ ap (with_front front) (at_end limited doc m at awaits opened (drop at z) (take g (drop at z)) (drop (at + g) z) text gap_len (drop_all (at + g) z (omega arith))) ∙ front_ended front (unclosed opened)

    pub failed : at + g < length z → (f : Flaw) → token limited awaits opened (drop (at + g) z) ≡ Err f → lex limited doc z ≡ Err (fault_at doc (at + g) f)
    failed less f h =
        turn ∙ ap (with_front front) (at_flaw limited doc m at awaits opened (drop at z) (take g (drop at z)) (drop (at + g) z) text gap_len f (some less) h ∙ ap (λ k. Err (fault_at doc (at + k) f)) len) ∙ front_err front (fault_at doc (at + g) f)

    abbrev next : ℕ → ℕ → Kind → Bytes → Texts
    next k l x rest = and_then (lex_from limited doc m (at + k + l) (is_command x) (after opened (span_at doc (at + k) (at + k + l)) x) rest) (λ ts. Ok (placed x (span_at doc (at + k) (at + k + l)) ∷ ts))

    pub went : at + g < length z → (k : Kind) (l : ℕ) → token limited awaits opened (drop (at + g) z) ≡ Ok (k, l) →
        lex limited doc z ≡ with_front (front ++ placed k (span_at doc (at + g) (at + g + l)) ∷ []) (lex_from limited doc m (at + g + l) (is_command k) (after opened (span_at doc (at + g) (at + g + l)) k) (drop (at + g + l) z))
    went less k l h = go (reads_token limited doc awaits opened (drop (at + g) z) k l (some less) h)
      where
        go : ((w : Bytes) × (rest : Bytes) × (drop (at + g) z ≡ w ++ rest) × (length w ≡ l) × (rest ≡ drop l (drop (at + g) z)) × IsToken awaits opened w rest k) → lex limited doc z ≡ with_front (front ++ placed k (span_at doc (at + g) (at + g + l)) ∷ []) (lex_from limited doc m (at + g + l) (is_command k) (after opened (span_at doc (at + g) (at + g + l)) k) (drop (at + g + l) z))
        go (w, rest, t, lw, r, is) =
            turn
            ∙ ap (with_front front) (
            at_token limited doc m at awaits opened (drop at z) (take g (drop at z)) (drop (at + g) z) text gap_len w rest k (some less) t (h ∙ ap (λ x. Ok (k, x)) (sym lw))
            ∙ ap (λ x. next x (length w) k rest) len ∙ ap (λ x. next g x k rest) lw ∙ ap (next g l k) (r ∙ drop-drop l (at + g) z))
            ∙ front_both front (placed k (span_at doc (at + g) (at + g + l))) (lex_from limited doc m (at + g + l) (is_command k) (after opened (span_at doc (at + g) (at + g + l)) k) (drop (at + g + l) z))

  pub all_read : (front : List Token) (awaits : Bool) (opened : Open) (n at : ℕ) → lex limited doc z ≡ with_front front (lex_from limited doc n at awaits opened (drop at z)) → n ≡ 0 → lex limited doc z ≡ Err (102, span_at doc at at)
  unfolding lex_from
  all_read front awaits opened n at h e = h ∙ ap (λ k. with_front front (lex_from limited doc k at awaits opened (drop at z))) e ∙ front_err front (102, span_at doc at at)

-- ---- where the places stand

char_small : (b : ℕ) → char_len b ≤ 4
char_small b = grind (arith, nat_tests)

flaw_within : (i : Option Inside) (awaits closes : Bool) (y : Bytes) (f : Flaw) → IsFlawIn i awaits closes y f → (f.start ≤ length y) × (f.end ≤ length y + 4)
flaw_within None awaits closes y f (fault.stray z none) = (omega arith, (let q = char_small (first y) in omega (arith, q)))
flaw_within None awaits closes y f (fault.glued w rest k l h) = (omega arith, omega (arith, length-append w rest))
flaw_within None awaits closes y f (fault.large w rest k l h) = (omega arith, omega (arith, length-append w rest))
flaw_within None awaits closes y f (fault.long w rest k l h) = (omega arith, omega (arith, length-append w rest))
flaw_within (Some i) awaits closes y f (fault.nul z) = (omega arith, omega arith)
flaw_within (Some i) awaits closes y f (fault.newline z str) = (omega arith, omega arith)
flaw_within (Some i) awaits closes y f (fault.escape w rest out str h) = (omega (arith, length-append w rest), omega (arith, length-append w rest))

module _ (limited : Bool) (awaits : Bool) (opened : Open) (y : Bytes) (some : 0 < length y) where
  pub token_flaw : (f : Flaw) → token limited awaits opened y ≡ Err f → (f.start ≤ length y) × (f.end ≤ length y + 4)
  token_flaw f h = flaw_within (inside opened) awaits (in_hole opened) y f (reads_flaw limited 0 awaits opened y f (not_end y some) h)

  pub token_within : (k : Kind) (m : ℕ) → token limited awaits opened y ≡ Ok (k, m) → m ≤ length y
  token_within k m h = let t = reads_token limited 0 awaits opened y k m (not_end y some) h in (let q = ap length t.2 in omega (arith, q, t.3, length-append t.0 t.1))

  pub token_utf8 : (k : Kind) (m : ℕ) → token limited awaits opened y ≡ Ok (k, m) → IsUtf8 y → IsUtf8 (drop m y)
  token_utf8 k m h u =
      let t = reads_token limited 0 awaits opened y k m (not_end y some) h in
      subst IsUtf8 t.4 (behind_token (inside opened) awaits (in_hole opened) t.0 t.1 k t.5 (subst IsUtf8 t.2 u))

pub gap_utf8 : (i : Option Inside) (z : Bytes) → IsUtf8 z → IsUtf8 (drop (gap_in i z) z)
gap_utf8 i z u = go i (parts i z)
  where
    behind : (g y : Bytes) (n : ℕ) → z ≡ g ++ y → n ≡ length g → IsUtf8 y → IsUtf8 (drop n z)
    behind g y n text len v = subst IsUtf8 (sym (left z g y n text (sym len))) v

    rest_utf8 : (g y : Bytes) → IsUtf8 (g ++ y) → IsGap g ⊎ CutsOff y → IsUtf8 y
    rest_utf8 g y u (inl q) = behind_gap g y q u
    rest_utf8 g y u (inr (inl e)) = subst IsUtf8 (sym e) IsUtf8-nil
    rest_utf8 g y u (inr (inr (v, e))) = subst IsUtf8 (sym e) (cut_before g v 0 (subst (λ x. IsUtf8 (g ++ x)) e u) (omega arith)).1

    go : (i : Option Inside) → Parts i z → IsUtf8 (drop (gap_in i z) z)
    go (Some i) p = u
    go None (g, y, text, len, before, last) = behind g y (gap_in None z) text len (rest_utf8 g y (subst IsUtf8 text u) before)
