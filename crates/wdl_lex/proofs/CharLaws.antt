-- The tokens in strings and commands: each is read, and what is read is one.
use Rattle.std.proofs.Common.{◌≡◌, ℕ, zero, suc, ◌+◌, ◌-◌, ◌<◌, ◌≤◌, Bool, true, false, cond, ◌&&◌, ◌||◌, ◌==◌, nat_lt, ◌⊎◌, inl, inr, [], ◌∷◌, ◌++◌, length, Option, Some, None, Result, Ok, Err, refl, ap, sym, ◌∙◌, subst, append_assoc, length-append, arith}
use Rattle.std.proofs.lemmas.Bool.{and_parts, or_parts, or_from, cond-true, cond-false, eqb-true, lt-ltb, cases_Bool}
use Rattle.std.proofs.lemmas.List.{append-nil}
use Rattle.std.specs.Prelude.{is_some}
use Rattle.std.specs.Char.{encode_utf8}
use Rattle.wdl_ast.specs.declared.token.Quote.TheVariants.{Single, Double}
use Rattle.wdl_ast.specs.declared.token.Fence.TheVariants.{Brace, Angle}
use Rattle.wdl_ast.specs.declared.token.HoleMark.{HoleMark}
use Rattle.wdl_ast.specs.declared.token.HoleMark.TheVariants.{Tilde, Dollar}
use Rattle.wdl_ast.specs.declared.token.Kind.{Kind}
use Rattle.wdl_ast.specs.declared.token.Kind.TheVariants as kind
use Rattle.wdl_ast.specs.Spelled.Classes.{Bytes, first}
use Rattle.wdl_ast.specs.Spelled.Escapes.{IsEscape}
use Rattle.wdl_ast.specs.Spelled.Chars as s
use Rattle.wdl_ast.specs.Spelled.Chars.{Inside, string, command, is_string, closer, begins, takes_dollar, hole_at, hole_byte, stops, is_backslash, AreChars, Stops, IsTextToken}
use Rattle.wdl_lex.specs.declared.fault.Flaw.{Flaw}
use Rattle.wdl_lex.specs.Faults as fault
use Rattle.wdl_lex.specs.Faults.{IsBadEscape, IsTextFlaw}
use Rattle.wdl_lex.specs.Reading.Code.{Found, flaw}
use Rattle.wdl_lex.specs.Reading.Escapes.{escape}
use Rattle.wdl_lex.specs.Reading.Chars.{Meant, with_escape, chars_from, chars, as_chars, text_behind_hole, text_token}
use Rattle.wdl_lex.proofs.Lists.{chosen, clash, same_front}
use Rattle.wdl_lex.proofs.EscapeLaws.{escape_full, escape_sound, no_escape}

-- ---- characters

abbrev read_ok : Meant → Result Meant Flaw
read_ok m = Ok m

module _ (i : Inside) where
  -- what was written for what was read, and what ended it
  abbrev Ended : Result Meant Flaw → ℕ → Bytes → Bytes → Bytes → Bytes → Type 0
  Ended r n out w rest new =
      ((r ≡ Ok (out ++ new, n + length w)) × AreChars (Stops i) i w rest new)
      ⊎ ((r ≡ Err (flaw 105 (n + length w) (n + length w + 1))) × (is_string i ≡ true) × AreChars IsBadEscape i w rest new)

  abbrev Read : Result Meant Flaw → ℕ → ℕ → Bytes → Bytes → Type 0
  Read r skip n out z =
      (v : Bytes) × (w : Bytes) × (rest : Bytes) × (new : Bytes) × (z ≡ v ++ (w ++ rest)) × (length v ≡ skip) × Ended r (n + skip) out w rest new

  stopped : (n : ℕ) (out z : Bytes) → stops i z ≡ true → Read (Ok (out, n)) 0 n out z
  stopped n out z st =
      ([], [], z, [], refl, refl, inl ((let f : out ≡ out ++ [] = sym (append-nil out) in let e : n ≡ n + 0 + 0 = omega arith in (let q : Ok (out, n) ≡ Ok (out ++ [], n + 0 + 0) = cc in q)), s.over z st))

  -- one byte further
  behind_skip : (r : Result Meant Flaw) (skip n b : ℕ) (out z : Bytes) → 0 < skip → Read r (skip - 1) (n + 1) out z → Read r skip n out (b ∷ z)
  behind_skip r skip n b out z some (v, w, rest, new, text, len, e) =
      let same : n + 1 + (skip - 1) ≡ n + skip = omega arith in
      (b ∷ v, w, rest, new, ap (λ x. b ∷ x) text, (let q : length (b ∷ v) ≡ skip = omega (arith, len) in q), subst (λ m. Ended r m out w rest new) same e)

  behind_plain : (r : Result Meant Flaw) (n b : ℕ) (out z : Bytes) → stops i (b ∷ z) ≡ false → is_backslash i b ≡ false → Read r 0 (n + 1) (out ++ b ∷ []) z → Read r 0 n out (b ∷ z)
  behind_plain r n b out z st bs (c ∷ v, w, rest, new, text, len, e) = absurd (omega (arith, len))
  behind_plain r n b out z st bs ([], w, rest, new, text, len, inl e) =
      let m : n + 1 + 0 + length w ≡ n + 0 + length (b ∷ w) = omega arith in
      let o : (out ++ b ∷ []) ++ new ≡ out ++ b ∷ new = append_assoc out (b ∷ []) new in
      ([], b ∷ w, rest, b ∷ new, ap (λ x. b ∷ x) text, refl, inl (e.0 ∙ (let q : Ok ((out ++ b ∷ []) ++ new, n + 1 + 0 + length w) ≡ Ok (out ++ b ∷ new, n + 0 + length (b ∷ w)) = cc in q), s.plain b w rest new (ap (λ x. stops i (b ∷ x)) (sym text) ∙ st) bs e.1))
  behind_plain r n b out z st bs ([], w, rest, new, text, len, inr e) =
      let m : n + 1 + 0 + length w ≡ n + 0 + length (b ∷ w) = omega arith in
      ([], b ∷ w, rest, b ∷ new, ap (λ x. b ∷ x) text, refl, inr (e.0 ∙ ap (λ k. Err (flaw 105 k (k + 1))) m, e.1, s.plain b w rest new (ap (λ x. stops i (b ∷ x)) (sym text) ∙ st) bs e.2))

  behind_escape : (r : Result Meant Flaw) (n : ℕ) (out z x y : Bytes) (c : ℕ) → is_string i ≡ true → z ≡ x ++ y → IsEscape x c → Read r (length x) (n + 1) (out ++ encode_utf8 c) z → Read r 0 n out (92 ∷ z)
  behind_escape r n out z x y c str text is (v, w, rest, new, t, len, e) = go (same_front v x (w ++ rest) y (sym t ∙ text) len) e
    where
      whole : v ≡ x → 92 ∷ z ≡ (92 ∷ (x ++ w)) ++ rest
      whole q = ap (λ u. 92 ∷ u) (t ∙ ap (λ u. u ++ (w ++ rest)) q ∙ sym (append_assoc x w rest))

      places : n + 1 + length x + length w ≡ n + 0 + length (92 ∷ (x ++ w))
      places = omega (arith, length-append x w)

      go : (v ≡ x) × (w ++ rest ≡ y) → Ended r (n + 1 + length x) (out ++ encode_utf8 c) w rest new → Read r 0 n out (92 ∷ z)
      go q (inl e) =
          let o : (out ++ encode_utf8 c) ++ new ≡ out ++ (encode_utf8 c ++ new) = append_assoc out (encode_utf8 c) new in
          let m : n + 1 + length x + length w ≡ n + 0 + length (92 ∷ (x ++ w)) = places in
          ([], 92 ∷ (x ++ w), rest, encode_utf8 c ++ new, whole q.0, refl, inl (e.0 ∙ (let p : Ok ((out ++ encode_utf8 c) ++ new, n + 1 + length x + length w) ≡ Ok (out ++ (encode_utf8 c ++ new), n + 0 + length (92 ∷ (x ++ w))) = cc in p), s.escape x c w rest new str is e.1))
      go q (inr e) = ([], 92 ∷ (x ++ w), rest, encode_utf8 c ++ new, whole q.0, refl, inr (e.0 ∙ ap (λ k. Err (flaw 105 k (k + 1))) places, e.1, s.escape x c w rest new str is e.2))

  broken : (n : ℕ) (out z : Bytes) → is_string i ≡ true → escape z ≡ None → Read (Err (flaw 105 n (n + 1))) 0 n out (92 ∷ z)
  broken n out z str none =
      let m : n ≡ n + 0 + 0 = omega arith in
      ([], [], 92 ∷ z, [], refl, refl, inr (ap (λ k. Err (flaw 105 k (k + 1))) m, str, s.over (92 ∷ z) (z, refl, no_escape z none)))

  as_read : (r t : Result Meant Flaw) (skip n : ℕ) (out z : Bytes) → t ≡ r → Read t skip n out z → Read r skip n out z
  as_read r t skip n out z e q = subst (λ x. Read x skip n out z) e q

  -- what reading characters gives, from a place on with `skip` bytes to pass
  run : (skip n : ℕ) (out z : Bytes) → skip ≤ length z → Read (chars_from i skip out n z) skip n out z
  run zero n out [] h = stopped n out [] refl
  run (suc k) n out [] h = absurd (omega arith)
  run (suc k) n out (b ∷ z) h =
      as_read _ _ (suc k) n out (b ∷ z) (sym (cond-true (nat_lt 0 (suc k)) _ _ (lt-ltb 0 (suc k) (omega arith)))) (behind_skip _ (suc k) n b out z (omega arith) (run (suc k - 1) (n + 1) out z (omega arith)))
  run zero n out (b ∷ z) h = at_stop (cases_Bool (stops i (b ∷ z))) (λ skip out h. run skip (n + 1) out z h)
    where
      escaped : is_string i ≡ true → ((skip : ℕ) (out : Bytes) → skip ≤ length z → Read (chars_from i skip out (n + 1) z) skip (n + 1) out z) → (o : Option (ℕ × ℕ)) → escape z ≡ o → Read (with_escape o n (λ c len. chars_from i len (out ++ encode_utf8 c) (n + 1) z)) 0 n out (92 ∷ z)
      escaped str next None e = broken n out z str e
      escaped str next (Some t) e =
          let x = escape_sound z t.0 t.1 e in
          let fits : t.1 ≤ length z = (let q = ap length x.2 in omega (arith, q, length-append x.0 x.1, x.3)) in
          behind_escape _ n out z x.0 x.1 t.0 str x.2 x.4
          (subst (λ k. Read (chars_from i t.1 (out ++ encode_utf8 t.0) (n + 1) z) k (n + 1) (out ++ encode_utf8 t.0) z) (sym x.3) (next t.1 (out ++ encode_utf8 t.0) fits))

      at_backslash : stops i (b ∷ z) ≡ false → (is_backslash i b ≡ true) ⊎ (is_backslash i b ≡ false) → ((skip : ℕ) (out : Bytes) → skip ≤ length z → Read (chars_from i skip out (n + 1) z) skip (n + 1) out z) → Read (chars_from i 0 out n (b ∷ z)) 0 n out (b ∷ z)
      at_backslash st (inl bs) next =
          let t = and_parts (b == 92) (is_string i) bs in
          as_read _ _ 0 n out (b ∷ z) (sym (cond-false (stops i (b ∷ z)) _ _ st ∙ cond-true (is_backslash i b) _ _ bs))
          (subst (λ x. Read (with_escape (escape z) n (λ c len. chars_from i len (out ++ encode_utf8 c) (n + 1) z)) 0 n out (x ∷ z)) (sym (eqb-true b 92 t.0)) (escaped t.1 next (escape z) refl))
      at_backslash st (inr bs) next =
          as_read _ _ 0 n out (b ∷ z) (sym (cond-false (stops i (b ∷ z)) _ _ st ∙ cond-false (is_backslash i b) _ _ bs)) (behind_plain _ n b out z st bs (next 0 (out ++ b ∷ []) (omega arith)))

      at_stop : (stops i (b ∷ z) ≡ true) ⊎ (stops i (b ∷ z) ≡ false) → ((skip : ℕ) (out : Bytes) → skip ≤ length z → Read (chars_from i skip out (n + 1) z) skip (n + 1) out z) → Read (chars_from i 0 out n (b ∷ z)) 0 n out (b ∷ z)
      at_stop (inl st) next = as_read _ _ 0 n out (b ∷ z) (sym (cond-true (stops i (b ∷ z)) _ _ st)) (stopped n out (b ∷ z) st)
      at_stop (inr st) next = at_backslash st (cases_Bool (is_backslash i b)) next

  -- ---- and what is written is read

  passes : (x y out : Bytes) (n : ℕ) → chars_from i (length x) out n (x ++ y) ≡ chars_from i 0 out (n + length x) y
  passes [] y out n = ap (λ m. chars_from i 0 out m y) (let e : n ≡ n + 0 = omega arith in e)
  passes (b ∷ x) y out n =
      cond-true (nat_lt 0 (length (b ∷ x))) _ _ (lt-ltb 0 (length (b ∷ x)) (omega arith))
      ∙ ap (λ k. chars_from i k out (n + 1) (x ++ y)) (let e : length (b ∷ x) - 1 ≡ length x = omega arith in e) ∙ passes x y out (n + 1)
      ∙ ap (λ m. chars_from i 0 out m y) (let e : n + 1 + length x ≡ n + length (b ∷ x) = omega arith in e)

pub backslash_goes_on : (i : Inside) (z : Bytes) → is_string i ≡ true → stops i (92 ∷ z) ≡ false
backslash_goes_on (string Single) z h = no_hole (first z == 123)
  where
    no_hole : (t : Bool) → (false || is_some (cond t (cond false (Some Tilde) (cond false (Some Dollar) None)) None) || false || (true && false)) ≡ false
    no_hole true = refl
    no_hole false = refl
backslash_goes_on (string Double) z h = no_hole (first z == 123)
  where
    no_hole : (t : Bool) → (false || is_some (cond t (cond false (Some Tilde) (cond false (Some Dollar) None)) None) || false || (true && false)) ≡ false
    no_hole true = refl
    no_hole false = refl
backslash_goes_on (command f) z h = cc

same_ok : (a b : Bytes) (m n : ℕ) → a ≡ b → m ≡ n → read_ok (a, m) ≡ read_ok (b, n)
same_ok a b m n p q = cc

chars_full : (i : Inside) (w rest new : Bytes) → AreChars (Stops i) i w rest new → (out : Bytes) (n : ℕ) → chars_from i 0 out n (w ++ rest) ≡ Ok (out ++ new, n + length w)
chars_full i w rest new (s.over r st) out n = at_end r st
  where
    at_end : (r : Bytes) → stops i r ≡ true → chars_from i 0 out n r ≡ read_ok (out ++ [], n + 0)
    at_end [] st = same_ok out (out ++ []) n (n + 0) (sym (append-nil out)) (omega arith)
    at_end (b ∷ r) st = cond-true (stops i (b ∷ r)) _ _ st ∙ same_ok out (out ++ []) n (n + 0) (sym (append-nil out)) (omega arith)
chars_full i w rest new (s.plain b v r o st bs more) out n =
    cond-false (stops i (b ∷ (v ++ rest))) _ _ st ∙ cond-false (is_backslash i b) _ _ bs ∙ chars_full i v rest o more (out ++ b ∷ []) (n + 1)
    ∙ same_ok ((out ++ b ∷ []) ++ o) (out ++ b ∷ o) (n + 1 + length v) (n + length (b ∷ v)) (append_assoc out (b ∷ []) o) (omega arith)
chars_full i w rest new (s.escape x c v r o str e more) out n =
    cond-false (stops i (92 ∷ ((x ++ v) ++ rest))) _ _ (backslash_goes_on i ((x ++ v) ++ rest) str) ∙ cond-true (is_backslash i 92) _ _ str
    ∙ ap (λ z. with_escape (escape z) n (λ c len. chars_from i len (out ++ encode_utf8 c) (n + 1) z)) (append_assoc x v rest)
    ∙ ap (λ t. with_escape t n (λ c len. chars_from i len (out ++ encode_utf8 c) (n + 1) (x ++ (v ++ rest)))) (escape_full x (v ++ rest) c e)
    ∙ passes i x (v ++ rest) (out ++ encode_utf8 c) (n + 1) ∙ chars_full i v rest o more (out ++ encode_utf8 c) (n + 1 + length x)
    ∙ same_ok ((out ++ encode_utf8 c) ++ o) (out ++ (encode_utf8 c ++ o)) (n + 1 + length x + length v) (n + length (92 ∷ (x ++ v))) (append_assoc out (encode_utf8 c) o) (omega (arith, length-append x v))

abbrev pub WellRead : Inside → Bytes → Type 0
WellRead i z = (w : Bytes) × (rest : Bytes) × (new : Bytes) × (z ≡ w ++ rest) × (chars i z ≡ Ok (new, length w)) × AreChars (Stops i) i w rest new

abbrev pub BadlyRead : Inside → Bytes → Type 0
BadlyRead i z = (w : Bytes) × (rest : Bytes) × (new : Bytes) × (z ≡ w ++ rest) × (chars i z ≡ Err (flaw 105 (length w) (length w + 1))) × (is_string i ≡ true) × AreChars IsBadEscape i w rest new

pub chars_cases : (i : Inside) (z : Bytes) → WellRead i z ⊎ BadlyRead i z
unfolding chars
chars_cases i z = go (run i 0 0 [] z (omega arith))
  where
    go : Read i (chars_from i 0 [] 0 z) 0 0 [] z → WellRead i z ⊎ BadlyRead i z
    go (b ∷ v, w, rest, new, text, len, e) = absurd (omega (arith, len))
    go ([], w, rest, new, text, len, inl e) = inl (w, rest, new, text, e.0 ∙ same_ok new new (0 + 0 + length w) (length w) refl (omega arith), e.1)
    go ([], w, rest, new, text, len, inr e) = inr (w, rest, new, text, e.0 ∙ ap (λ k. Err (flaw 105 k (k + 1))) (let q : 0 + 0 + length w ≡ length w = omega arith in q), e.1, e.2)

pub chars_are : (i : Inside) (w rest new : Bytes) → AreChars (Stops i) i w rest new → chars i (w ++ rest) ≡ Ok (new, length w)
unfolding chars
chars_are i w rest new h = chars_full i w rest new h [] 0 ∙ same_ok new new (0 + length w) (length w) refl (omega arith)

-- ---- tokens

begins_with : (c z : Bytes) → begins c z ≡ true → (rest : Bytes) × (z ≡ c ++ rest)
begins_with [] z h = (z, refl)
begins_with (b ∷ c) [] h = cc
begins_with (b ∷ c) (x ∷ z) h =
    let q = and_parts (b == x) (begins c z) h in
    let t = begins_with c z q.1 in
    (t.0, (let e : b ≡ x = eqb-true b x q.0 in let f = t.1 in (let g : x ∷ z ≡ b ∷ (c ++ t.0) = cc in g)))

closes_itself : (i : Inside) (rest : Bytes) → begins (closer i) (closer i ++ rest) ≡ true
closes_itself (string Single) rest = refl
closes_itself (string Double) rest = refl
closes_itself (command Brace) rest = refl
closes_itself (command Angle) rest = refl

hole_is_open : (i : Inside) (m : HoleMark) (z : Bytes) → begins (closer i) (hole_byte m ∷ z) ≡ false
hole_is_open (string Single) Tilde z = refl
hole_is_open (string Double) Tilde z = refl
hole_is_open (command Brace) Tilde z = refl
hole_is_open (command Angle) Tilde z = refl
hole_is_open (string Single) Dollar z = refl
hole_is_open (string Double) Dollar z = refl
hole_is_open (command Brace) Dollar z = refl
hole_is_open (command Angle) Dollar z = refl

-- what opens a placeholder
pub hole_bytes : (i : Inside) (b c : ℕ) (m : HoleMark) → hole_at i b c ≡ Some m → (b ≡ hole_byte m) × (c ≡ 123) × (hole_at i (hole_byte m) 123 ≡ Some m)
hole_bytes i b c m h = brace (chosen (c == 123) _ _ _ h)
  where
    dollar : c ≡ 123 → ((b == 36 && takes_dollar i) ≡ true) × (Some Dollar ≡ Some m) ⊎ (((b == 36 && takes_dollar i) ≡ false) × (None ≡ Some m)) → (b ≡ hole_byte m) × (c ≡ 123) × (hole_at i (hole_byte m) 123 ≡ Some m)
    dollar e (inl q) =
        let t = and_parts (b == 36) (takes_dollar i) q.0 in
        let is : Dollar ≡ m = (let f = q.1 in cc) in
        subst (λ x. (b ≡ hole_byte x) × (c ≡ 123) × (hole_at i (hole_byte x) 123 ≡ Some x)) is (eqb-true b 36 t.0, e, cond-true (takes_dollar i) _ _ t.1)
    dollar e (inr q) = (let f = q.1 in let n : ⊥ = cc in absurd n)

    tilde : c ≡ 123 → ((b == 126) ≡ true) × (Some Tilde ≡ Some m) ⊎ (((b == 126) ≡ false) × (cond (b == 36 && takes_dollar i) (Some Dollar) None ≡ Some m)) → (b ≡ hole_byte m) × (c ≡ 123) × (hole_at i (hole_byte m) 123 ≡ Some m)
    tilde e (inl q) =
        let is : Tilde ≡ m = (let f = q.1 in cc) in
        subst (λ x. (b ≡ hole_byte x) × (c ≡ 123) × (hole_at i (hole_byte x) 123 ≡ Some x)) is (eqb-true b 126 q.0, e, refl)
    tilde e (inr q) = dollar e (chosen (b == 36 && takes_dollar i) _ _ _ q.1)

    brace : ((c == 123) ≡ true) × (cond (b == 126) (Some Tilde) (cond (b == 36 && takes_dollar i) (Some Dollar) None) ≡ Some m) ⊎ (((c == 123) ≡ false) × (None ≡ Some m)) → (b ≡ hole_byte m) × (c ≡ 123) × (hole_at i (hole_byte m) 123 ≡ Some m)
    brace (inl q) = tilde (eqb-true c 123 q.0) (chosen (b == 126) _ _ _ q.1)
    brace (inr q) = (let f = q.1 in let n : ⊥ = cc in absurd n)

none_hole : (i : Inside) (b c : ℕ) (o : Option HoleMark) → hole_at i b c ≡ o → is_some (hole_at i b c) ≡ false → hole_at i b c ≡ None
none_hole i b c None e h = e
none_hole i b c (Some m) e h = (let f = sym (ap is_some e) ∙ h in let n : ⊥ = cc in absurd n)

-- the tests of a byte at which characters may stand
stops_parts : (i : Inside) (b : ℕ) (z : Bytes) → begins (closer i) (b ∷ z) ≡ false → is_some (hole_at i b (first z)) ≡ false → (b == 0) ≡ false → (is_string i && b == 10) ≡ false → stops i (b ∷ z) ≡ false
stops_parts i b z c h n l = or_from _ _ (or_from _ _ (or_from _ _ c h) n) l

abbrev pub ReadsText : Inside → Bytes → Kind → ℕ → Type 0
ReadsText i z k m = (w : Bytes) × (rest : Bytes) × (z ≡ w ++ rest) × (length w ≡ m) × IsTextToken i w rest k

-- a token in a text that goes on, or what is wrong there
abbrev pub Tells : Inside → Bytes → Result Found Flaw → Type 0
Tells i z (Ok t) = ReadsText i z t.0 t.1
Tells i z (Err f) = IsTextFlaw i z f

tells_chars : (i : Inside) (b : ℕ) (y : Bytes) → stops i (b ∷ y) ≡ false → WellRead i (b ∷ y) ⊎ BadlyRead i (b ∷ y) → Tells i (b ∷ y) (as_chars (chars i (b ∷ y)))
unfolding as_chars
tells_chars i b y st (inl ([], rest, new, text, is, (s.over r q))) = clash (stops i (b ∷ y)) (ap (stops i) text ∙ q) st
tells_chars i b y st (inl (c ∷ w, rest, new, text, is, h)) =
    subst (Tells i (b ∷ y)) (sym (ap as_chars is)) (c ∷ w, rest, text, refl, s.chars c w rest new (ap (stops i) (sym text) ∙ st) h)
tells_chars i b y st (inr (w, rest, new, text, is, str, h)) =
    subst (Tells i (b ∷ y)) (sym (ap as_chars is)) (subst (λ x. IsTextFlaw i x (flaw 105 (length w) (length w + 1))) (sym text) (fault.escape w rest new str h))

pub text_tells : (i : Inside) (b : ℕ) (y : Bytes) → Tells i (b ∷ y) (text_token i (b ∷ y))
unfolding text_token
text_tells i b y = close (cases_Bool (begins (closer i) (b ∷ y)))
  where
    line : begins (closer i) (b ∷ y) ≡ false → hole_at i b (first y) ≡ None → (b == 0) ≡ false → (is_string i && b == 10 ≡ true) ⊎ ((is_string i && b == 10) ≡ false) → Tells i (b ∷ y) (cond (is_string i && b == 10) (Err (flaw 103 0 1)) (as_chars (chars i (b ∷ y))))
    line c h n (inl q) =
        let t = and_parts (is_string i) (b == 10) q in
        subst (Tells i (b ∷ y)) (sym (cond-true (is_string i && b == 10) _ _ q)) (subst (λ x. IsTextFlaw i (x ∷ y) (flaw 103 0 1)) (sym (eqb-true b 10 t.1)) (fault.newline y t.0))
    line c h n (inr q) =
        subst (Tells i (b ∷ y)) (sym (cond-false (is_string i && b == 10) _ _ q)) (tells_chars i b y (stops_parts i b y c (ap is_some h) n q) (chars_cases i (b ∷ y)))

    nul : begins (closer i) (b ∷ y) ≡ false → hole_at i b (first y) ≡ None → ((b == 0) ≡ true) ⊎ ((b == 0) ≡ false) → Tells i (b ∷ y) (text_behind_hole None i (b ∷ y))
    nul c h (inl q) = subst (Tells i (b ∷ y)) (sym (cond-true (b == 0) _ _ q)) (subst (λ x. IsTextFlaw i (x ∷ y) (flaw 102 0 1)) (sym (eqb-true b 0 q)) (fault.nul y))
    nul c h (inr q) = subst (Tells i (b ∷ y)) (sym (cond-false (b == 0) _ _ q)) (line c h q (cases_Bool (is_string i && b == 10)))

    opened : (y : Bytes) (m : HoleMark) → hole_at i b (first y) ≡ Some m → Tells i (b ∷ y) (Ok (kind.HoleOpen m, 2))
    opened [] m h = let t = hole_bytes i b 0 m h in absurd (omega (arith, t.1))
    opened (c ∷ y) m h =
        let t = hole_bytes i b c m h in
        (hole_byte m ∷ 123 ∷ [], y, (let e = t.0 in let f = t.1 in (let g : b ∷ c ∷ y ≡ hole_byte m ∷ 123 ∷ y = cc in g)), refl, s.hole m y t.2)

    hole : begins (closer i) (b ∷ y) ≡ false → (o : Option HoleMark) → hole_at i b (first y) ≡ o → Tells i (b ∷ y) (text_behind_hole o i (b ∷ y))
    hole c None h = nul c h (cases_Bool (b == 0))
    hole c (Some m) h = opened y m h

    close : (begins (closer i) (b ∷ y) ≡ true) ⊎ (begins (closer i) (b ∷ y) ≡ false) → Tells i (b ∷ y) (text_token i (b ∷ y))
    close (inl q) =
        let t = begins_with (closer i) (b ∷ y) q in
        subst (Tells i (b ∷ y)) (sym (cond-true (begins (closer i) (b ∷ y)) _ _ q)) (closer i, t.0, t.1, refl, s.close t.0)
    close (inr q) = subst (Tells i (b ∷ y)) (sym (cond-false (begins (closer i) (b ∷ y)) _ _ q)) (hole q (hole_at i b (first y)) refl)

pub text_full : (i : Inside) (w rest : Bytes) (k : Kind) → IsTextToken i w rest k → text_token i (w ++ rest) ≡ Ok (k, length w)
unfolding text_token as_chars
text_full i w rest k (s.close r) = cond-true (begins (closer i) (closer i ++ rest)) _ _ (closes_itself i rest)
text_full i w rest k (s.hole m r h) =
    cond-false (begins (closer i) (hole_byte m ∷ 123 ∷ rest)) _ _ (hole_is_open i m (123 ∷ rest)) ∙ ap (λ o. text_behind_hole o i (hole_byte m ∷ 123 ∷ rest)) h
text_full i w rest k (s.chars b v r new st h) =
    let p = or_parts (begins (closer i) (b ∷ (v ++ rest)) || is_some (hole_at i b (first (v ++ rest))) || b == 0) (is_string i && b == 10) st in
    let q = or_parts (begins (closer i) (b ∷ (v ++ rest)) || is_some (hole_at i b (first (v ++ rest)))) (b == 0) p.0 in
    let t = or_parts (begins (closer i) (b ∷ (v ++ rest))) (is_some (hole_at i b (first (v ++ rest)))) q.0 in
    cond-false (begins (closer i) (b ∷ (v ++ rest))) _ _ t.0
    ∙ ap (λ o. text_behind_hole o i (b ∷ (v ++ rest))) (none_hole i b (first (v ++ rest)) (hole_at i b (first (v ++ rest))) refl t.1)
    ∙ cond-false (b == 0) _ _ q.1 ∙ cond-false (is_string i && b == 10) _ _ p.1 ∙ ap as_chars (chars_are i (b ∷ v) rest new h)
