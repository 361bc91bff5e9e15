-- The tokens in strings and commands: what is written for one is that token again, before what ends it.
use Rattle.std.proofs.Common.{◌≡◌, ℕ, suc, ◌<◌, Bool, true, false, not, cond, ◌&&◌, ◌||◌, ◌==◌, ◌⊎◌, inl, inr, List, [], ◌∷◌, ◌++◌, length, get_or, Some, None, refl, ap, sym, ◌∙◌, subst, arith}
use Rattle.std.proofs.lemmas.Bool.{and_parts, and_from, or_parts, or_cases, eqb-true, cases_Bool}
use Rattle.std.proofs.lemmas.Bool.Decides.{nat_tests}
use Rattle.std.proofs.lemmas.List.{append-nil}
use Rattle.std.proofs.lemmas.Str.{IsUtf8-append, IsUtf8-nil, IsUtf8-encode, encodes-chars, scalars-chars, inside_one}
use Rattle.std.specs.Char.{encode_utf8}
use Rattle.std.specs.List.{list_all}
use Rattle.std.specs.Prelude.{is_some, encode_utf8_all}
use Rattle.std.specs.Str.{IsUtf8, chars}
use Rattle.wdl_base.specs.Plain.{has_nul}
use Rattle.wdl_ast.specs.declared.token.Fence.TheVariants.{Brace, Angle}
use Rattle.wdl_ast.specs.declared.token.HoleMark.{HoleMark}
use Rattle.wdl_ast.specs.declared.token.HoleMark.TheVariants.{Tilde, Dollar}
use Rattle.wdl_ast.specs.declared.token.Quote.{Quote}
use Rattle.wdl_ast.specs.declared.token.Quote.TheVariants.{Single, Double}
use Rattle.wdl_ast.specs.Spelled.Chars as s
use Rattle.wdl_ast.specs.Spelled.Chars.{Inside, string, command, is_string, closer, begins, hole_at, hole_byte, stops, is_backslash, AreChars, Stops}
use Rattle.wdl_ast.specs.Spelled.Classes.{Bytes, first}
use Rattle.wdl_ast.specs.Spelled.Escapes as e
use Rattle.wdl_ast.specs.Spelled.Escapes.{simple}
use Rattle.wdl_print.specs.TokenText.{escape, escaped, quote_byte}
use lib.Utf8.{scalar, scalars}

-- ---- what ends characters

pub data Ending (i : Inside) : Bytes → Type 0 where
  by_closer : Ending i (closer i)
  by_hole : (m : HoleMark) → hole_at i (hole_byte m) 123 ≡ Some m → Ending i (hole_byte m ∷ 123 ∷ [])

pub ending_stops : (i : Inside) (e r : Bytes) → Ending i e → stops i (e ++ r) ≡ true
ending_stops (string Single) e r by_closer = refl
ending_stops (string Double) e r by_closer = refl
ending_stops (command Brace) e r by_closer = refl
ending_stops (command Angle) e r by_closer = refl
ending_stops (string Single) e r (by_hole Tilde h) = refl
ending_stops (string Double) e r (by_hole Tilde h) = refl
ending_stops (command Brace) e r (by_hole Tilde h) = refl
ending_stops (command Angle) e r (by_hole Tilde h) = refl
ending_stops (string Single) e r (by_hole Dollar h) = refl
ending_stops (string Double) e r (by_hole Dollar h) = refl
ending_stops (command Brace) e r (by_hole Dollar h) = refl
ending_stops (command Angle) e r (by_hole Dollar h) = cc

-- ---- whether characters stop is seen in what ends them, whatever stands behind that

same_first : (i : Inside) (v e r new : Bytes) → Ending i e → first (v ++ (e ++ r)) ≡ first (v ++ (e ++ new))
same_first i (b ∷ v) e r new end = refl
same_first (string Single) [] e r new by_closer = refl
same_first (string Double) [] e r new by_closer = refl
same_first (command Brace) [] e r new by_closer = refl
same_first (command Angle) [] e r new by_closer = refl
same_first i [] e r new (by_hole m h) = refl

same_angles : (v e r new : Bytes) → Ending (command Angle) e → begins (62 ∷ 62 ∷ []) (v ++ (e ++ r)) ≡ begins (62 ∷ 62 ∷ []) (v ++ (e ++ new))
same_angles (b ∷ c ∷ v) e r new end = refl
same_angles (b ∷ []) e r new by_closer = refl
same_angles (b ∷ []) e r new (by_hole Tilde h) = refl
same_angles (b ∷ []) e r new (by_hole Dollar h) = refl
same_angles [] e r new by_closer = refl
same_angles [] e r new (by_hole Tilde h) = refl
same_angles [] e r new (by_hole Dollar h) = refl

same_closer : (i : Inside) (b : ℕ) (v e r new : Bytes) → Ending i e → begins (closer i) (b ∷ (v ++ (e ++ r))) ≡ begins (closer i) (b ∷ (v ++ (e ++ new)))
same_closer (string Single) b v e r new end = refl
same_closer (string Double) b v e r new end = refl
same_closer (command Brace) b v e r new end = refl
same_closer (command Angle) b v e r new end = ap (λ t. 62 == b && t) (same_angles v e r new end)

pub same_stop : (i : Inside) (b : ℕ) (v e r new : Bytes) → Ending i e → stops i (b ∷ (v ++ (e ++ r))) ≡ stops i (b ∷ (v ++ (e ++ new)))
same_stop i b v e r new end =
    ap (λ t. t || is_some (hole_at i b (first (v ++ (e ++ r)))) || b == 0 || (is_string i && b == 10)) (same_closer i b v e r new end)
    ∙ ap (λ t. begins (closer i) (b ∷ (v ++ (e ++ new))) || is_some (hole_at i b t) || b == 0 || (is_string i && b == 10)) (same_first i v e r new end)

-- the same characters before another rest
pub moved : (i : Inside) (e r new : Bytes) → Ending i e → (w rest out : Bytes) → rest ≡ e ++ r → AreChars (Stops i) i w rest out → AreChars (Stops i) i w (e ++ new) out
moved i e r new end w rest out text (s.over u st) = s.over (e ++ new) (ending_stops i e new end)
moved i e r new end w rest out text (s.plain b v u x st bs more) =
    s.plain b v (e ++ new) x (sym (same_stop i b v e r new end) ∙ ap (λ z. stops i (b ∷ (v ++ z))) (sym text) ∙ st) bs (moved i e r new end v rest x text more)
moved i e r new end w rest out text (s.escape x c v u y str is more) = s.escape x c v (e ++ new) y str is (moved i e r new end v rest y text more)

-- a command has no escapes
pub as_written : (i : Inside) → is_string i ≡ false → (Ends : Bytes → Type 0) (w rest out : Bytes) → AreChars Ends i w rest out → out ≡ w
as_written i plain Ends w rest out (s.over u st) = refl
as_written i plain Ends w rest out (s.plain b v u x st bs more) = ap (λ z. b ∷ z) (as_written i plain Ends v rest x more)
as_written i plain Ends w rest out (s.escape x c v u y str is more) = (let h = sym str ∙ plain in let n : ⊥ = cc in absurd n)

-- ---- the characters of a string

abbrev is_special : Quote → ℕ → Bool
is_special q b = b == 92 || b == 126 || b == 36 || b == quote_byte q || b == 10 || b == 0

abbrev is_ordinary : Quote → ℕ → Bool
is_ordinary q b = not (is_special q b)

-- six tests none of which holds
tests : (a b c d f g : Bool) → not (a || b || c || d || f || g) ≡ true → (a ≡ false) × (b ≡ false) × (c ≡ false) × (d ≡ false) × (f ≡ false) × (g ≡ false)
tests false false false false false false h = (refl, refl, refl, refl, refl, refl)
tests true b c d f g h = cc
tests false true c d f g h = cc
tests false false true d f g h = cc
tests false false false true f g h = cc
tests false false false false true g h = cc
tests false false false false false true h = cc

swapped : (a b : ℕ) → (a == b) ≡ false → (b == a) ≡ false
swapped a b h = grind (arith, nat_tests)

-- the tests of a byte in a string
abbrev stop_tests : (closes brace tilde dollar nul line : Bool) → Bool
stop_tests c b t d n l = (c && true) || is_some (cond b (cond t (Some Tilde) (cond (d && true) (Some Dollar) None)) None) || n || (true && l)

no_stop : (b : Bool) → stop_tests false b false false false false ≡ false
no_stop true = refl
no_stop false = refl

goes_on : (q : Quote) (b : ℕ) (z : Bytes) → is_ordinary q b ≡ true → (stops (string q) (b ∷ z) ≡ false) × (is_backslash (string q) b ≡ false)
goes_on Single b z h =
    let t = tests (b == 92) (b == 126) (b == 36) (b == 39) (b == 10) (b == 0) h in (
      ap (λ x. stop_tests x (first z == 123) (b == 126) (b == 36) (b == 0) (b == 10)) (swapped b 39 t.3) ∙ ap (λ x. stop_tests false (first z == 123) x (b == 36) (b == 0) (b == 10)) t.1
          ∙ ap (λ x. stop_tests false (first z == 123) false x (b == 0) (b == 10)) t.2 ∙ ap (λ x. stop_tests false (first z == 123) false false x (b == 10)) t.5
          ∙ ap (λ x. stop_tests false (first z == 123) false false false x) t.4 ∙ no_stop (first z == 123),
      ap (λ x. x && true) t.0,
    )
goes_on Double b z h =
    let t = tests (b == 92) (b == 126) (b == 36) (b == 34) (b == 10) (b == 0) h in (
      ap (λ x. stop_tests x (first z == 123) (b == 126) (b == 36) (b == 0) (b == 10)) (swapped b 34 t.3) ∙ ap (λ x. stop_tests false (first z == 123) x (b == 36) (b == 0) (b == 10)) t.1
          ∙ ap (λ x. stop_tests false (first z == 123) false x (b == 0) (b == 10)) t.2 ∙ ap (λ x. stop_tests false (first z == 123) false false x (b == 10)) t.5
          ∙ ap (λ x. stop_tests false (first z == 123) false false false x) t.4 ∙ no_stop (first z == 123),
      ap (λ x. x && true) t.0,
    )

-- all pass a test, or one fails it
all_or : (p : ℕ → Bool) (w : Bytes) → (list_all p w ≡ true) ⊎ ((k : ℕ) × (k < length w) × (p (get_or w k 0) ≡ false))
all_or p [] = inl refl
all_or p (b ∷ w) = go (cases_Bool (p b)) (all_or p w)
  where
    go : (p b ≡ true) ⊎ (p b ≡ false) → (list_all p w ≡ true) ⊎ ((k : ℕ) × (k < length w) × (p (get_or w k 0) ≡ false)) → (list_all p (b ∷ w) ≡ true) ⊎ ((k : ℕ) × (k < length (b ∷ w)) × (p (get_or (b ∷ w) k 0) ≡ false))
    go (inr h) t = inr (0, omega arith, h)
    go (inl h) (inl t) = inl (and_from (p b) (list_all p w) h t)
    go (inl h) (inr (k, fits, t)) = inr (suc k, omega (arith, fits), t)

special_small : (q : Quote) (b : ℕ) → is_ordinary q b ≡ false → b < 128
special_small Single b h = grind (arith, nat_tests)
special_small Double b h = grind (arith, nat_tests)

encoded_ordinary : (q : Quote) (c : ℕ) → is_ordinary q c ≡ true → list_all (is_ordinary q) (encode_utf8 c) ≡ true
encoded_ordinary q c h = go (all_or (is_ordinary q) (encode_utf8 c))
  where
    go : (list_all (is_ordinary q) (encode_utf8 c) ≡ true) ⊎ ((k : ℕ) × (k < length (encode_utf8 c)) × (is_ordinary q (get_or (encode_utf8 c) k 0) ≡ false)) → list_all (is_ordinary q) (encode_utf8 c) ≡ true
    go (inl t) = t
    go (inr (k, fits, t)) =
        let is : c ≡ get_or (encode_utf8 c) k 0 = inside_one c [] (encode_utf8 c) k (sym (append-nil (encode_utf8 c))) fits (special_small q (get_or (encode_utf8 c) k 0) t) in
        (let f : true ≡ false = sym h ∙ ap (is_ordinary q) is ∙ t in let n : ⊥ = cc in absurd n)

module _ (q : Quote) (rest : Bytes) where
  abbrev Written : Bytes → Bytes → Type 0
  Written w out = AreChars (Stops (string q)) (string q) w rest out

  plain_written : (x w out : Bytes) → list_all (is_ordinary q) x ≡ true → Written w out → Written (x ++ w) (x ++ out)
  plain_written [] w out h more = more
  plain_written (b ∷ x) w out h more =
      let t = and_parts (is_ordinary q b) (list_all (is_ordinary q) x) h in
      let g = goes_on q b ((x ++ w) ++ rest) t.0 in
      s.plain b (x ++ w) rest (x ++ out) g.0 g.1 (plain_written x w out t.1 more)

  -- what is read from a backslash and one byte
  abbrev IsShort : ℕ → ℕ → Type 0
  IsShort b c = (simple b ≡ Some c) × (encode_utf8 c ≡ c ∷ [])

  short_written : (b c : ℕ) (w out : Bytes) → IsShort b c → Written w out → Written (92 ∷ b ∷ w) (encode_utf8 c ++ out)
  short_written b c w out h more = s.escape (b ∷ []) c w rest out refl (e.short b c h.0) more

  quote_short : (p : Quote) → IsShort (quote_byte p) (quote_byte p)
  unfolding encode_utf8
  quote_short Single = (refl, refl)
  quote_short Double = (refl, refl)

  itself_short : (c : ℕ) → (c == 92 || c == 126 || c == 36 || c == quote_byte q) ≡ true → IsShort c c
  unfolding encode_utf8
  itself_short c h = quoted (or_cases (c == 92 || c == 126 || c == 36) (c == quote_byte q) h)
    where
      as_one : (b : ℕ) → IsShort b b → (c == b) ≡ true → IsShort c c
      as_one b t k = subst (λ x. IsShort x x) (sym (eqb-true c b k)) t

      tilde : ((c == 92) ≡ true) ⊎ ((c == 126) ≡ true) → IsShort c c
      tilde (inl k) = as_one 92 (refl, refl) k
      tilde (inr k) = as_one 126 (refl, refl) k

      dollar : ((c == 92 || c == 126) ≡ true) ⊎ ((c == 36) ≡ true) → IsShort c c
      dollar (inl k) = tilde (or_cases (c == 92) (c == 126) k)
      dollar (inr k) = as_one 36 (refl, refl) k

      quoted : ((c == 92 || c == 126 || c == 36) ≡ true) ⊎ ((c == quote_byte q) ≡ true) → IsShort c c
      quoted (inl k) = dollar (or_cases (c == 92 || c == 126) (c == 36) k)
      quoted (inr k) = as_one (quote_byte q) (quote_short q) k

  not_special : (a b c d f g : Bool) → (a || b || c || d) ≡ false → f ≡ false → g ≡ false → not (a || b || c || d || f || g) ≡ true
  not_special false false false false false false h k l = refl
  not_special true b c d f g h k l = cc
  not_special false true c d f g h k l = cc
  not_special false false true d f g h k l = cc
  not_special false false false true f g h k l = cc
  not_special false false false false true g h k l = cc
  not_special false false false false false true h k l = cc

  one_written : (c : ℕ) (w out : Bytes) → (c == 0) ≡ false → Written w out → Written (escape q c ++ w) (encode_utf8 c ++ out)
  unfolding encode_utf8
  one_written c w out some more = special (c == 92 || c == 126 || c == 36 || c == quote_byte q) refl
    where
      tab : (c == 92 || c == 126 || c == 36 || c == quote_byte q) ≡ false → (c == 10) ≡ false → (t : Bool) → (c == 9) ≡ t → Written (cond t (92 ∷ 116 ∷ []) (encode_utf8 c) ++ w) (encode_utf8 c ++ out)
      tab h k true l = short_written 116 c w out (subst (λ x. IsShort 116 x) (sym (eqb-true c 9 l)) (refl, refl)) more
      tab h k false l = plain_written (encode_utf8 c) w out (encoded_ordinary q c (not_special (c == 92) (c == 126) (c == 36) (c == quote_byte q) (c == 10) (c == 0) h k some)) more

      line : (c == 92 || c == 126 || c == 36 || c == quote_byte q) ≡ false → (t : Bool) → (c == 10) ≡ t → Written (cond t (92 ∷ 110 ∷ []) (cond (c == 9) (92 ∷ 116 ∷ []) (encode_utf8 c)) ++ w) (encode_utf8 c ++ out)
      line h true k = short_written 110 c w out (subst (λ x. IsShort 110 x) (sym (eqb-true c 10 k)) (refl, refl)) more
      line h false k = tab h k (c == 9) refl

      special : (t : Bool) → (c == 92 || c == 126 || c == 36 || c == quote_byte q) ≡ t → Written (cond t (92 ∷ encode_utf8 c) (cond (c == 10) (92 ∷ 110 ∷ []) (cond (c == 9) (92 ∷ 116 ∷ []) (encode_utf8 c))) ++ w) (encode_utf8 c ++ out)
      special true h = let t = itself_short c h in subst (λ x. Written ((92 ∷ x) ++ w) (encode_utf8 c ++ out)) (sym t.1) (short_written c c w out t more)
      special false h = line h (c == 10) refl

  nul_parts : (x y : Bytes) → has_nul (x ++ y) ≡ false → (has_nul x ≡ false) × (has_nul y ≡ false)
  nul_parts [] y h = (refl, h)
  nul_parts (b ∷ x) y h =
      let p = or_parts (b == 0) (has_nul (x ++ y)) h in
      let t = nul_parts x y p.1 in
      (ap (λ t. t || has_nul x) p.0 ∙ t.0, t.1)

  no_nul : (c : ℕ) → has_nul (encode_utf8 c) ≡ false → (c == 0) ≡ false
  unfolding encode_utf8
  no_nul c h = go (c == 0) refl
    where
      go : (t : Bool) → (c == 0) ≡ t → (c == 0) ≡ false
      go false k = k
      go true k = (let f : true ≡ false = ap (λ x. has_nul (encode_utf8 x)) (sym (eqb-true c 0 k)) ∙ h in let n : ⊥ = cc in absurd n)

  escaped_written : (cs : List ℕ) → has_nul (encode_utf8_all cs) ≡ false → stops (string q) rest ≡ true → Written (escaped q cs) (encode_utf8_all cs)
  escaped_written [] h st = s.over rest st
  escaped_written (c ∷ cs) h st =
      let t = nul_parts (encode_utf8 c) (encode_utf8_all cs) h in
      one_written c (escaped q cs) (encode_utf8_all cs) (no_nul c t.0) (escaped_written cs t.1 st)

pub string_written : (q : Quote) (rest out : Bytes) → IsUtf8 out → has_nul out ≡ false → stops (string q) rest ≡ true → AreChars (Stops (string q)) (string q) (escaped q (chars out)) rest out
string_written q rest out u h st =
    subst (λ x. AreChars (Stops (string q)) (string q) (escaped q (chars out)) rest x) (encodes-chars out u) (escaped_written q rest (chars out) (ap has_nul (encodes-chars out u) ∙ h) st)

-- ---- UTF-8

two_utf8 : (b c : ℕ) → scalar b ≡ true → scalar c ≡ true → IsUtf8 (encode_utf8 b ++ encode_utf8 c)
two_utf8 b c h k = IsUtf8-append (encode_utf8 b) (encode_utf8 c) (IsUtf8-encode b h) (IsUtf8-encode c k)

escape_utf8 : (q : Quote) (c : ℕ) → scalar c ≡ true → IsUtf8 (escape q c)
unfolding encode_utf8
escape_utf8 q c h = go (c == 92 || c == 126 || c == 36 || c == quote_byte q) (c == 10) (c == 9)
  where
    go : (x y z : Bool) → IsUtf8 (cond x (92 ∷ encode_utf8 c) (cond y (92 ∷ 110 ∷ []) (cond z (92 ∷ 116 ∷ []) (encode_utf8 c))))
    go true y z = two_utf8 92 c refl h
    go false true z = two_utf8 92 110 refl refl
    go false false true = two_utf8 92 116 refl refl
    go false false false = IsUtf8-encode c h

escaped_all : (q : Quote) (cs : List ℕ) → scalars cs ≡ true → IsUtf8 (escaped q cs)
escaped_all q [] h = IsUtf8-nil
escaped_all q (c ∷ cs) h = let t = and_parts (scalar c) (scalars cs) h in IsUtf8-append (escape q c) (escaped q cs) (escape_utf8 q c t.0) (escaped_all q cs t.1)

pub escaped_utf8 : (q : Quote) (out : Bytes) → IsUtf8 out → IsUtf8 (escaped q (chars out))
escaped_utf8 q out u = escaped_all q (chars out) (scalars-chars out u)
