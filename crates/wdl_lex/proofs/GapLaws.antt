-- The blank space and comments between tokens.
use Rattle.std.proofs.Common.{◌≡◌, ℕ, suc, ◌+◌, Bool, true, false, not, ◌&&◌, ◌||◌, ◌==◌, ◌⊎◌, inl, inr, [], ◌∷◌, ◌++◌, length, refl, ap, sym, ◌∙◌, subst, append_assoc, length-append, arith}
use Rattle.std.proofs.lemmas.List.{append-nil}
use Rattle.std.proofs.lemmas.Bool.{and_parts, or_parts, cond-true, cond-false, eqb-true, not-true}
use Rattle.std.specs.List.{list_all}
use Rattle.wdl_ast.specs.Spelled.Classes.{Bytes, is_blank}
use Rattle.wdl_ast.specs.Spelled.Gaps as s
use Rattle.wdl_ast.specs.Spelled.Gaps.{IsGap, IsLastGap, is_inside}
use Rattle.wdl_lex.specs.Reading.Gaps.{gap_len}

inside_byte : (b : ℕ) → is_inside b ≡ true → ((b == 10) ≡ false) × ((b == 0) ≡ false)
inside_byte b h = or_parts (b == 10) (b == 0) (not-true (b == 10 || b == 0) h)

in_comment : (b : ℕ) (z : Bytes) → is_inside b ≡ true → gap_len true (b ∷ z) ≡ suc (gap_len true z)
in_comment b z h = let q = inside_byte b h in cond-false (b == 10) _ _ q.0 ∙ cond-false (b == 0) _ _ q.1

comment_len : (body z : Bytes) → list_all is_inside body ≡ true → gap_len true (body ++ 10 ∷ z) ≡ suc (length body + gap_len false z)
comment_len [] z h = (let e : suc (gap_len false z) ≡ suc (0 + gap_len false z) = omega arith in e)
comment_len (b ∷ body) z h =
    let q = and_parts (is_inside b) (list_all is_inside body) h in
    in_comment b (body ++ 10 ∷ z) q.0 ∙ ap suc (comment_len body z q.1) ∙ (let e : suc (suc (length body + gap_len false z)) ≡ suc (length (b ∷ body) + gap_len false z) = omega arith in e)

open_comment : (body : Bytes) → list_all is_inside body ≡ true → gap_len true body ≡ length body
open_comment [] h = refl
open_comment (b ∷ body) h = let q = and_parts (is_inside b) (list_all is_inside body) h in in_comment b body q.0 ∙ ap suc (open_comment body q.1)

-- a gap is measured, whatever follows it
pub gap_then : (g z : Bytes) → IsGap g → gap_len false (g ++ z) ≡ length g + gap_len false z
gap_then g z s.none = (let e : gap_len false z ≡ 0 + gap_len false z = omega arith in e)
gap_then g z (s.blank b y q more) = cond-true (is_blank b) _ _ q ∙ ap suc (gap_then y z more) ∙ (let e : suc (length y + gap_len false z) ≡ length (b ∷ y) + gap_len false z = omega arith in e)
gap_then g z (s.comment body y q more) =
    ap (λ x. suc (gap_len true x)) (append_assoc body (10 ∷ y) z) ∙ ap suc (comment_len body (y ++ z) q) ∙ ap (λ n. suc (suc (length body + n))) (gap_then y z more)
    ∙ (let e : suc (suc (length body + (length y + gap_len false z))) ≡ length (35 ∷ (body ++ 10 ∷ y)) + gap_len false z = omega (arith, length-append body (10 ∷ y)) in e)

pub last_gap : (z : Bytes) → IsLastGap z → gap_len false z ≡ length z
last_gap z (inl g) = ap (gap_len false) (sym (append-nil z)) ∙ gap_then z [] g ∙ (let e : length z + 0 ≡ length z = omega arith in e)
last_gap z (inr l) =
    let e1 = ap (gap_len false) l.2 in
    let e2 = gap_then l.0 (35 ∷ l.1) l.3 in
    let e3 = open_comment l.1 l.4 in
    let e4 : length z ≡ length l.0 + length (35 ∷ l.1) = ap length l.2 ∙ length-append l.0 (35 ∷ l.1) in
    let e5 : gap_len false (35 ∷ l.1) ≡ suc (gap_len true l.1) = refl in
    omega (arith, e1, e2, e3, e4, e5)

-- ---- what is measured

-- where a comment is cut off: at the end of the text or at a NUL
abbrev pub CutsOff : Bytes → Type 0
CutsOff y = (y ≡ []) ⊎ ((v : Bytes) × (y ≡ 0 ∷ v))

abbrev pub Measured : Bytes → Bytes → Type 0
Measured g y = IsGap g ⊎ (CutsOff y × IsLastGap g)

abbrev InComment : Bytes → Bytes → Type 0
InComment g y = ((body : Bytes) × (more : Bytes) × (g ≡ body ++ 10 ∷ more) × (list_all is_inside body ≡ true) × Measured more y) ⊎ (CutsOff y × (list_all is_inside g ≡ true))

abbrev pub Splits : (Bytes → Bytes → Type 0) → ℕ → Bytes → Type 0
Splits P n z = (g : Bytes) × (y : Bytes) × (z ≡ g ++ y) × (length g ≡ n) × P g y

behind_blank : (b : ℕ) (g y : Bytes) → is_blank b ≡ true → Measured g y → Measured (b ∷ g) y
behind_blank b g y h (inl q) = inl (s.blank b g h q)
behind_blank b g y h (inr (e, inl q)) = inl (s.blank b g h q)
behind_blank b g y h (inr (e, inr l)) = inr (e, inr (b ∷ l.0, l.1, ap (λ x. b ∷ x) l.2, s.blank b l.0 h l.3, l.4))

behind_comment : (g y : Bytes) → InComment g y → Measured (35 ∷ g) y
behind_comment g y (inl (body, more, e, all, inl q)) = inl (subst (λ x. IsGap (35 ∷ x)) (sym e) (s.comment body more all q))
behind_comment g y (inl (body, more, e, all, inr (n, inl q))) = inl (subst (λ x. IsGap (35 ∷ x)) (sym e) (s.comment body more all q))
behind_comment g y (inl (body, more, e, all, inr (n, inr l))) =
    inr (n, inr (35 ∷ (body ++ 10 ∷ l.0), l.1, ap (λ x. 35 ∷ x) (e ∙ ap (λ x. body ++ 10 ∷ x) l.2 ∙ sym (append_assoc body (10 ∷ l.0) (35 ∷ l.1))), s.comment body l.0 all l.3, l.4))
behind_comment g y (inr (n, all)) = inr (n, inr ([], g, refl, s.none, all))

gap_sound : (z : Bytes) → Splits Measured (gap_len false z) z × Splits InComment (gap_len true z) z
gap_sound [] = (([], [], refl, refl, inl s.none), ([], [], refl, refl, inr (inl refl, refl)))
gap_sound (b ∷ z) = (let rec = gap_sound z in code (is_blank b) refl (b == 35) refl rec.0 rec.1, let rec = gap_sound z in inside (b == 10) refl (b == 0) refl rec.0 rec.1)
  where
    code : (t : Bool) → is_blank b ≡ t → (c : Bool) → (b == 35) ≡ c → Splits Measured (gap_len false z) z → Splits InComment (gap_len true z) z → Splits Measured (gap_len false (b ∷ z)) (b ∷ z)
    code true h c k m o = (b ∷ m.0, m.1, ap (λ x. b ∷ x) m.2, ap suc m.3 ∙ sym (cond-true (is_blank b) _ _ h), behind_blank b m.0 m.1 h m.4)
    code false h true k m o =
        let is : b ≡ 35 = eqb-true b 35 k in
        (b ∷ o.0, o.1, ap (λ x. b ∷ x) o.2, ap suc o.3 ∙ sym (cond-false (is_blank b) _ _ h ∙ cond-true (b == 35) _ _ k), subst (λ x. Measured (x ∷ o.0) o.1) (sym is) (behind_comment o.0 o.1 o.4))
    code false h false k m o = ([], b ∷ z, refl, sym (cond-false (is_blank b) _ _ h ∙ cond-false (b == 35) _ _ k), inl s.none)

    inside : (t : Bool) → (b == 10) ≡ t → (c : Bool) → (b == 0) ≡ c → Splits Measured (gap_len false z) z → Splits InComment (gap_len true z) z → Splits InComment (gap_len true (b ∷ z)) (b ∷ z)
    inside true h c k m o = (b ∷ m.0, m.1, ap (λ x. b ∷ x) m.2, ap suc m.3 ∙ sym (cond-true (b == 10) _ _ h), inl ([], m.0, ap (λ x. x ∷ m.0) (eqb-true b 10 h), refl, m.4))
    inside false h true k m o = ([], b ∷ z, refl, sym (cond-false (b == 10) _ _ h ∙ cond-true (b == 0) _ _ k), inr (inr (z, ap (λ x. x ∷ z) (eqb-true b 0 k)), refl))
    inside false h false k m o = (b ∷ o.0, o.1, ap (λ x. b ∷ x) o.2, ap suc o.3 ∙ sym (cond-false (b == 10) _ _ h ∙ cond-false (b == 0) _ _ k), still o.0 o.1 o.4)
      where
        here : (rest : Bool) → rest ≡ true → (is_inside b && rest) ≡ true
        here rest q = ap (λ x. not (x || (b == 0)) && rest) h ∙ ap (λ x. not x && rest) k ∙ q

        still : (g y : Bytes) → InComment g y → InComment (b ∷ g) y
        still g y (inl (body, more, e, all, q)) = inl (b ∷ body, more, ap (λ x. b ∷ x) e, here (list_all is_inside body) all, q)
        still g y (inr (n, all)) = inr (n, here (list_all is_inside g) all)

pub gap_splits : (z : Bytes) → Splits Measured (gap_len false z) z
gap_splits z = (gap_sound z).0

-- no gap begins with such a byte
pub no_gap : (b : ℕ) (z : Bytes) → (is_blank b || b == 35) ≡ false → gap_len false (b ∷ z) ≡ 0
no_gap b z h = let q = or_parts (is_blank b) (b == 35) h in cond-false (is_blank b) _ _ q.0 ∙ cond-false (b == 35) _ _ q.1
