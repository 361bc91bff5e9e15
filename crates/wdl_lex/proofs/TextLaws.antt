-- The texts of tokens are UTF-8 without NUL, and so is what follows a token of a text that is UTF-8.
use Rattle.std.proofs.Common.{◌≡◌, ℕ, suc, ◌<◌, Bool, true, false, cond, ◌&&◌, ◌||◌, ◌==◌, ◌⊎◌, inl, inr, [], ◌∷◌, ◌++◌, length, take, get_or, Option, Some, None, Result, Ok, refl, ap, sym, ◌∙◌, subst, append_assoc, length-append, arith}
use Rattle.std.proofs.lemmas.Bool.{and_parts, and_from, or_parts, or_cases, eqb-true, not-true}
use Rattle.std.proofs.lemmas.Bool.Decides.{nat_tests}
use Rattle.std.proofs.lemmas.List.{append-nil, drop_at, take_at, get_or_at}
use Rattle.std.proofs.lemmas.Str.{IsUtf8-append, IsUtf8-nil, IsUtf8-encode, IsUtf8-take, IsUtf8-drop, IsCharBoundary-before_ascii, IsCharBoundary-from_take, inside_one}
use Rattle.std.specs.Prelude.{is_some}
use Rattle.std.specs.Char.{encode_utf8}
use Rattle.std.specs.Str.{IsUtf8}
use Rattle.wdl_base.specs.Plain.{has_nul}
use Rattle.wdl_ast.specs.declared.token.Kind.{Kind}
use Rattle.wdl_ast.specs.declared.token.Quote.TheVariants.{Single, Double}
use Rattle.wdl_ast.specs.declared.token.Fence.TheVariants.{Brace, Angle}
use Rattle.wdl_ast.specs.declared.token.HoleMark.{HoleMark}
use Rattle.wdl_ast.specs.declared.token.HoleMark.TheVariants.{Tilde, Dollar}
use Rattle.wdl_ast.specs.Spelled.{IsTokenIn}
use Rattle.wdl_ast.specs.Spelled.Classes.{Bytes, first}
use Rattle.wdl_ast.specs.Spelled.Escapes as e
use Rattle.wdl_ast.specs.Spelled.Escapes.{simple, is_character, IsEscape}
use Rattle.wdl_ast.specs.Spelled.Chars as s
use Rattle.wdl_ast.specs.Spelled.Chars.{Inside, string, command, is_string, closer, begins, hole_at, hole_byte, stops, AreChars, Stops}
use Rattle.wdl_ast.specs.Spelled.Gaps as gaps
use Rattle.wdl_ast.specs.Spelled.Gaps.{IsGap}
use Rattle.wdl_lex.proofs.Digits.{is_plain, are_plain, plain_utf8, digits_plain}
use Rattle.wdl_lex.proofs.Lists.{chosen}
use Rattle.wdl_lex.proofs.EscapeLaws.{hex_is}
use Rattle.wdl_lex.specs.declared.fault.Flaw.{Flaw}
use Rattle.wdl_lex.specs.Reading.Chars.{Meant, chars}
use Rattle.wdl_lex.proofs.CharLaws.{hole_bytes, WellRead, BadlyRead, chars_cases}
use Rattle.wdl_lex.proofs.CodeLaws.{spells_plain}

-- ---- where a text may be cut

pub cut_before : (p r : Bytes) (b : ℕ) → IsUtf8 (p ++ b ∷ r) → b < 128 → IsUtf8 p × IsUtf8 (b ∷ r)
cut_before p r b u h =
    let at : get_or (p ++ b ∷ r) (length p) 0 ≡ b = get_or_at p b r 0 (length p) refl in
    let edge = IsCharBoundary-before_ascii (p ++ b ∷ r) (length p) (omega (arith, length-append p (b ∷ r))) (omega (arith, at)) in
    (subst IsUtf8 (take_at p (b ∷ r) (length p) refl) (IsUtf8-take (p ++ b ∷ r) (length p) u edge), subst IsUtf8 (drop_at p (b ∷ r) (length p) refl) (IsUtf8-drop (p ++ b ∷ r) (length p) u edge))

pub behind_plain : (a r : Bytes) → are_plain a ≡ true → IsUtf8 (a ++ r) → IsUtf8 r
behind_plain a r h u =
    let front : IsUtf8 (take (length a) (a ++ r)) = subst IsUtf8 (sym (take_at a r (length a) refl)) (plain_utf8 a h) in
    let edge = IsCharBoundary-from_take (a ++ r) (length a) u (omega (arith, length-append a r)) front in
    subst IsUtf8 (drop_at a r (length a) refl) (IsUtf8-drop (a ++ r) (length a) u edge)

-- ---- escapes

-- what holds of each short escape
simple_each : (Q : ℕ → ℕ → Type 0) → Q 92 92 → Q 110 10 → Q 116 9 → Q 39 39 → Q 34 34 → Q 126 126 → Q 36 36 → (b c : ℕ) → simple b ≡ Some c → Q b c
simple_each Q q1 q2 q3 q4 q5 q6 q7 b c h =
    step 92 92 _ q1 (step 110 10 _ q2 (step 116 9 _ q3 (step 39 39 _ q4 (step 34 34 _ q5 (step 126 126 _ q6 (step 36 36 _ q7 (λ q. (let n : ⊥ = cc in absurd n)))))))) h
  where
    step : (k v : ℕ) (o : Option ℕ) → Q k v → (o ≡ Some c → Q b c) → cond (b == k) (Some v) o ≡ Some c → Q b c
    step k v o p more q = go (chosen (b == k) _ _ _ q)
      where
        go : ((b == k) ≡ true) × (Some v ≡ Some c) ⊎ (((b == k) ≡ false) × (o ≡ Some c)) → Q b c
        go (inl t) = (let f : v ≡ c = (let g = t.1 in cc) in subst (λ x. Q x c) (sym (eqb-true b k t.0)) (subst (Q k) f p))
        go (inr t) = more t.1

simple_plain : (b c : ℕ) → simple b ≡ Some c → is_plain b ≡ true
simple_plain b c h = simple_each (λ b c. is_plain b ≡ true) refl refl refl refl refl refl refl b c h

simple_character : (b c : ℕ) → simple b ≡ Some c → is_character c ≡ true
simple_character b c h = simple_each (λ b c. is_character c ≡ true) refl refl refl refl refl refl refl b c h

letter_plain : (b : ℕ) → (b ≡ 120) ⊎ ((b ≡ 117) ⊎ (b ≡ 85)) → is_plain b ≡ true
letter_plain b (inl q) = ap is_plain q
letter_plain b (inr (inl q)) = ap is_plain q
letter_plain b (inr (inr q)) = ap is_plain q

escape_plain : (x : Bytes) (c : ℕ) → IsEscape x c → are_plain x ≡ true
escape_plain x c (e.short b d h) = and_from (is_plain b) true (simple_plain b d h) refl
escape_plain x c (e.octal w n d h) = digits_plain 8 w (omega arith) d
escape_plain x c (e.hex b w n d h) = and_from (is_plain b) (are_plain w) (letter_plain b (hex_is b (length w) n)) (digits_plain 16 w (omega arith) d)

escape_character : (x : Bytes) (c : ℕ) → IsEscape x c → is_character c ≡ true
escape_character x c (e.short b d h) = simple_character b d h
escape_character x c (e.octal w n d h) = h
escape_character x c (e.hex b w n d h) = h

nul_at : (w : Bytes) → has_nul w ≡ true → (k : ℕ) × (k < length w) × (get_or w k 0 ≡ 0)
nul_at [] h = cc
nul_at (b ∷ w) h = go (b == 0) refl h (λ q. nul_at w q)
  where
    go : (t : Bool) → (b == 0) ≡ t → (t || has_nul w) ≡ true → (has_nul w ≡ true → (k : ℕ) × (k < length w) × (get_or w k 0 ≡ 0)) → (k : ℕ) × (k < length (b ∷ w)) × (get_or (b ∷ w) k 0 ≡ 0)
    go true q h more = (0, omega arith, eqb-true b 0 q)
    go false q h more = let t = more h in (suc t.0, omega (arith, t.1), t.2)

encode_nul : (c : ℕ) → (c == 0) ≡ false → has_nul (encode_utf8 c) ≡ false
encode_nul c h = go (has_nul (encode_utf8 c)) refl
  where
    go : (t : Bool) → has_nul (encode_utf8 c) ≡ t → has_nul (encode_utf8 c) ≡ false
    go false q = q
    go true q =
        let t = nul_at (encode_utf8 c) q in
        let is : c ≡ get_or (encode_utf8 c) t.0 0 = inside_one c [] (encode_utf8 c) t.0 (sym (append-nil (encode_utf8 c))) t.1 (omega (arith, t.2)) in
        (let zero_is : c ≡ 0 = is ∙ t.2 in (let f = sym (ap (λ x. x == 0) zero_is) ∙ h in let n : ⊥ = cc in absurd n))

nul_append : (a b : Bytes) → has_nul a ≡ false → has_nul b ≡ false → has_nul (a ++ b) ≡ false
nul_append [] b h k = k
nul_append (x ∷ a) b h k = let q = or_parts (x == 0) (has_nul a) h in ap (λ t. t || has_nul (a ++ b)) q.0 ∙ nul_append a b q.1 k

-- ---- characters

closer_small : (i : Inside) (b : ℕ) (v : Bytes) → begins (closer i) (b ∷ v) ≡ true → b < 128
closer_small (string Single) b v h = let e = eqb-true 39 b (and_parts (39 == b) true h).0 in omega (arith, e)
closer_small (string Double) b v h = let e = eqb-true 34 b (and_parts (34 == b) true h).0 in omega (arith, e)
closer_small (command Brace) b v h = let e = eqb-true 125 b (and_parts (125 == b) true h).0 in omega (arith, e)
closer_small (command Angle) b v h = let e = eqb-true 62 b (and_parts (62 == b) (begins (62 ∷ 62 ∷ []) v) h).0 in omega (arith, e)

hole_small : (i : Inside) (b c : ℕ) (o : Option HoleMark) → hole_at i b c ≡ o → is_some o ≡ true → b < 128
hole_small i b c None e h = cc
hole_small i b c (Some Tilde) e h = let t = hole_bytes i b c Tilde e in omega (arith, t.0)
hole_small i b c (Some Dollar) e h = let t = hole_bytes i b c Dollar e in omega (arith, t.0)

-- what stops characters is ASCII
stop_cases : (i : Inside) (r : Bytes) → stops i r ≡ true → (r ≡ []) ⊎ ((b : ℕ) × (v : Bytes) × (r ≡ b ∷ v) × (b < 128))
stop_cases i [] h = inl refl
stop_cases i (b ∷ v) h = inr (b, v, refl, line (or_cases (begins (closer i) (b ∷ v) || is_some (hole_at i b (first v)) || b == 0) (is_string i && b == 10) h))
  where
    closes : (begins (closer i) (b ∷ v) ≡ true) ⊎ (is_some (hole_at i b (first v)) ≡ true) → b < 128
    closes (inl q) = closer_small i b v q
    closes (inr q) = hole_small i b (first v) (hole_at i b (first v)) refl q

    nul : ((begins (closer i) (b ∷ v) || is_some (hole_at i b (first v))) ≡ true) ⊎ ((b == 0) ≡ true) → b < 128
    nul (inl q) = closes (or_cases (begins (closer i) (b ∷ v)) (is_some (hole_at i b (first v))) q)
    nul (inr q) = let f = eqb-true b 0 q in omega (arith, f)

    line : ((begins (closer i) (b ∷ v) || is_some (hole_at i b (first v)) || b == 0) ≡ true) ⊎ ((is_string i && b == 10) ≡ true) → b < 128
    line (inl q) = nul (or_cases (begins (closer i) (b ∷ v) || is_some (hole_at i b (first v))) (b == 0) q)
    line (inr q) = let f = eqb-true b 10 (and_parts (is_string i) (b == 10) q).1 in omega (arith, f)

-- a text that ends where characters stop
front_utf8 : (i : Inside) (p r : Bytes) → stops i r ≡ true → IsUtf8 (p ++ r) → IsUtf8 p × IsUtf8 r
front_utf8 i p r st u = go (stop_cases i r st)
  where
    go : (r ≡ []) ⊎ ((b : ℕ) × (v : Bytes) × (r ≡ b ∷ v) × (b < 128)) → IsUtf8 p × IsUtf8 r
    go (inl q) = (subst IsUtf8 (ap (λ x. p ++ x) q ∙ append-nil p) u, subst IsUtf8 (sym q) IsUtf8-nil)
    go (inr (b, v, q, small)) = let c = cut_before p v b (subst (λ x. IsUtf8 (p ++ x)) q u) small in (c.0, subst IsUtf8 (sym q) c.1)

-- the meant characters, behind bytes that were not split
chars_utf8 : (i : Inside) (p w rest new : Bytes) → AreChars (Stops i) i w rest new → IsUtf8 (p ++ (w ++ rest)) → IsUtf8 (p ++ new) × IsUtf8 rest
chars_utf8 i p w rest new (s.over r st) u = let f = front_utf8 i p r st u in (subst IsUtf8 (sym (append-nil p)) f.0, f.1)
chars_utf8 i p w rest new (s.plain b v r out st bs more) u =
    let t = chars_utf8 i (p ++ b ∷ []) v rest out more (subst IsUtf8 (sym (append_assoc p (b ∷ []) (v ++ rest))) u) in
    (subst IsUtf8 (append_assoc p (b ∷ []) out) t.0, t.1)
chars_utf8 i p w rest new (s.escape x c v r out str is more) u =
    let cut = cut_before p ((x ++ v) ++ rest) 92 u (omega arith) in
    let behind = behind_plain (92 ∷ x) (v ++ rest) (and_from (is_plain 92) (are_plain x) refl (escape_plain x c is)) (subst (λ z. IsUtf8 (92 ∷ z)) (append_assoc x v rest) cut.1) in
    let t = chars_utf8 i [] v rest out more behind in
    let char = IsUtf8-encode c (and_parts _ _ (escape_character x c is)).0 in
    (IsUtf8-append p (encode_utf8 c ++ out) cut.0 (IsUtf8-append (encode_utf8 c) out char t.0), t.1)

chars_nul : (Ends : Bytes → Type 0) (i : Inside) (w rest new : Bytes) → AreChars Ends i w rest new → has_nul new ≡ false
chars_nul Ends i w rest new (s.over r q) = refl
chars_nul Ends i w rest new (s.plain b v r out st bs more) =
    let p = or_parts (begins (closer i) (b ∷ (v ++ rest)) || is_some (hole_at i b (first (v ++ rest))) || b == 0) (is_string i && b == 10) st in
    let q = or_parts (begins (closer i) (b ∷ (v ++ rest)) || is_some (hole_at i b (first (v ++ rest)))) (b == 0) p.0 in
    ap (λ t. t || has_nul out) q.1 ∙ chars_nul Ends i v rest out more
chars_nul Ends i w rest new (s.escape x c v r out str is more) =
    nul_append (encode_utf8 c) out (encode_nul c (not-true (c == 0) (and_parts _ _ (escape_character x c is)).1)) (chars_nul Ends i v rest out more)

pub chars_text : (i : Inside) (w rest new : Bytes) → AreChars (Stops i) i w rest new → IsUtf8 (w ++ rest) → IsUtf8 new × (has_nul new ≡ false)
chars_text i w rest new h u = ((chars_utf8 i [] w rest new h u).0, chars_nul (Stops i) i w rest new h)

-- ---- what follows a token, and what follows a gap

closer_plain : (i : Inside) → are_plain (closer i) ≡ true
closer_plain (string Single) = refl
closer_plain (string Double) = refl
closer_plain (command Brace) = refl
closer_plain (command Angle) = refl

hole_plain : (m : HoleMark) → are_plain (hole_byte m ∷ 123 ∷ []) ≡ true
hole_plain Tilde = refl
hole_plain Dollar = refl

pub behind_token : (o : Option Inside) (awaits closes : Bool) (w rest : Bytes) (k : Kind) → IsTokenIn o awaits closes w rest k → IsUtf8 (w ++ rest) → IsUtf8 rest
behind_token None awaits closes w rest k t u = behind_plain w rest (spells_plain awaits closes w k t.longest.spells) u
behind_token (Some i) awaits closes w rest k (s.close r) u = behind_plain (closer i) rest (closer_plain i) u
behind_token (Some i) awaits closes w rest k (s.hole m r h) u = behind_plain (hole_byte m ∷ 123 ∷ []) rest (hole_plain m) u
behind_token (Some i) awaits closes w rest k (s.chars b v r out st h) u = (chars_utf8 i [] (b ∷ v) rest out h u).1

blank_plain : (b : ℕ) → Rattle.wdl_ast.specs.Spelled.Classes.is_blank b ≡ true → is_plain b ≡ true
blank_plain b h = grind (arith, nat_tests)

pub behind_gap : (g y : Bytes) → IsGap g → IsUtf8 (g ++ y) → IsUtf8 y
behind_gap g y gaps.none u = u
behind_gap g y (gaps.blank b v q more) u = behind_gap v y more (behind_plain (b ∷ []) (v ++ y) (and_from (is_plain b) true (blank_plain b q) refl) u)
behind_gap g y (gaps.comment body v q more) u =
    let cut = cut_before (35 ∷ body) (v ++ y) 10 (subst (λ z. IsUtf8 (35 ∷ z)) (append_assoc body (10 ∷ v) y) u) (omega arith) in
    behind_gap v y more (behind_plain (10 ∷ []) (v ++ y) refl cut.1)

abbrev meant : Meant → Result Meant Flaw
meant m = Ok m

same_meant : (x y : Meant) → meant x ≡ meant y → x ≡ y
same_meant x y h = cc

pub chars_give : (i : Inside) (z new : Bytes) (m : ℕ) → chars i z ≡ Ok (new, m) → IsUtf8 z → IsUtf8 new × (has_nul new ≡ false)
chars_give i z new m h u = go (chars_cases i z)
  where
    go : WellRead i z ⊎ BadlyRead i z → IsUtf8 new × (has_nul new ≡ false)
    go (inl (w, rest, x, text, is, a)) =
        let same : x ≡ new = ap (λ (t : Meant). t.0) (same_meant (x, length w) (new, m) (sym is ∙ h)) in
        let t = chars_text i w rest x a (subst IsUtf8 text u) in
        (subst IsUtf8 same t.0, ap has_nul (sym same) ∙ t.1)
    go (inr b) = (let f = sym b.4 ∙ h in let n : ⊥ = cc in absurd n)
