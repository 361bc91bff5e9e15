-- The text that is made of tokens has these tokens.
use Rattle.std.proofs.Common.{◌≡◌, ℕ, Bool, true, false, cond, ◌==◌, ◌⊎◌, inl, inr, List, [], ◌∷◌, ◌++◌, length, Option, Some, None, refl, ap, sym, ◌∙◌, subst, append_assoc, arith}
use Rattle.std.proofs.lemmas.Bool.Decides.{nat_tests}
use Rattle.std.proofs.lemmas.Str.{IsUtf8-append, IsUtf8-nil, length-encode}
use Rattle.std.specs.Char.{encode_utf8, len_utf8}
use Rattle.std.specs.Prelude.{codes}
use Rattle.std.specs.Str.{IsUtf8, chars}
use Rattle.wdl_base.specs.Plain.{has_nul}
use Rattle.wdl_ast.specs.declared.document.Document.{Document}
use Rattle.wdl_ast.specs.declared.token.Fence.TheVariants.{Brace, Angle}
use Rattle.wdl_ast.specs.declared.token.HoleMark.{HoleMark}
use Rattle.wdl_ast.specs.declared.token.HoleMark.TheVariants.{Tilde, Dollar}
use Rattle.wdl_ast.specs.declared.token.Kind.{Kind}
use Rattle.wdl_ast.specs.declared.token.Kind.TheVariants as kind
use Rattle.wdl_ast.specs.declared.token.Quote.TheVariants.{Single, Double}
use Rattle.wdl_ast.specs.declared.token.Token.{Token}
use Rattle.wdl_ast.specs.DocumentWords.{document_words}
use Rattle.wdl_ast.specs.Spelled.{inside_at, is_command, IsGapIn, IsTokenIn, Spelled}
use Rattle.wdl_ast.specs.Spelled.Chars as s
use Rattle.wdl_ast.specs.Spelled.Chars.{Inside, string, command, closer, closing, hole_byte, stops, AreChars, Stops, IsTextToken}
use Rattle.wdl_ast.specs.Spelled.Classes.{Bytes, is_blank, is_end}
use Rattle.wdl_ast.specs.Spelled.Code.{IsCodeToken}
use Rattle.wdl_ast.specs.Spelled.Gaps as gaps
use Rattle.wdl_ast.specs.Spelled.Gaps.{IsLastGap}
use Rattle.wdl_lex.proofs.CodeLaws.{spells_plain}
use Rattle.wdl_lex.proofs.Digits.{plain_utf8}
use Rattle.wdl_lex.proofs.TextLaws.{chars_text, behind_token, behind_gap}
use Rattle.wdl_print.specs.declared.inside.Open.{Open}
use Rattle.wdl_print.specs.declared.inside.Open.TheVariants as open_
use Rattle.wdl_print.specs.Printed.{ends_line, gap, printed_from, printed_document}
use Rattle.wdl_print.specs.TokenText.{after, innermost, spelling, escaped}
use Rattle.print_laws.specs.ReadBack.{kinds, IsReadAs, IsWritten}
use Rattle.print_laws.proofs.Copied.{Ending, by_closer, by_hole, ending_stops, moved, as_written, string_written, escaped_utf8}
use Rattle.print_laws.proofs.Longest.{is_space, IsApart, is_edge, is_code, code_kind, hole_closes, code_again}
use Rattle.print_laws.proofs.Places.{places, inside_place, Sound, same_inside, behind_sound, MayClose, behind_places, inside_has, hole_has}
use Rattle.print_laws.proofs.Stack.{Stack, top, in_hole, behind, AllClosed, Reads, with_spans, without_spans}
use Rattle.wdl_lex.proofs.CharLaws.{backslash_goes_on as backslash_on}

-- ---- the text, made of kinds

abbrev blank : List Kind → Bytes
blank [] = []
blank (k ∷ ks) = codes " "

abbrev gap_of : Option Open → Kind → List Kind → Bytes
gap_of None k ks = cond (ends_line k) (codes "\n") (blank ks)
gap_of (Some open_.Placeholder) k ks = blank ks
gap_of (Some (open_.Quoted q)) k ks = []
gap_of (Some (open_.Command f)) k ks = []

abbrev written : List Open → List Kind → Bytes
written os [] = []
written os (k ∷ ks) = spelling (innermost os) k ++ (gap_of (innermost (after os k)) k ks ++ written (after os k) ks)

-- what stands behind a token of this kind
abbrev rest_of : List Open → Kind → List Kind → Bytes
rest_of os k ks = gap_of (innermost os) k ks ++ written os ks

same_gap : (o : Option Open) (k : Kind) (ts : List Token) → gap o k ts ≡ gap_of o k (kinds ts)
same_gap None k [] = refl
same_gap None k (t ∷ ts) = refl
same_gap (Some open_.Placeholder) k [] = refl
same_gap (Some open_.Placeholder) k (t ∷ ts) = refl
same_gap (Some (open_.Quoted q)) k ts = refl
same_gap (Some (open_.Command f)) k ts = refl

same_text : (os : List Open) (ts : List Token) → printed_from os ts ≡ written os (kinds ts)
same_text os [] = refl
same_text os (t ∷ ts) =
    append_assoc (spelling (innermost os) t.kind) (gap (innermost (after os t.kind)) t.kind ts) (printed_from (after os t.kind) ts)
    ∙ ap (λ x. spelling (innermost os) t.kind ++ (x ++ printed_from (after os t.kind) ts)) (same_gap (innermost (after os t.kind)) t.kind ts)
    ∙ ap (λ x. spelling (innermost os) t.kind ++ (gap_of (innermost (after os t.kind)) t.kind (kinds ts) ++ x)) (same_text (after os t.kind) ts)

-- ---- gaps

data IsSpace : Option Inside → Bytes → Type 0 where
  nothing : (o : Option Inside) → IsSpace o []
  one : (b : ℕ) → is_space b ≡ true → IsSpace None (b ∷ [])

space_blank : (b : ℕ) → is_space b ≡ true → is_blank b ≡ true
space_blank b h = grind (arith, nat_tests)

space_gap : (o : Option Inside) (g : Bytes) → IsSpace o g → IsGapIn o g
space_gap None g (nothing p) = gaps.none
space_gap None g (one b h) = gaps.blank b [] (space_blank b h) gaps.none
space_gap (Some i) g (nothing p) = refl

space_last : (o : Option Inside) (g : Bytes) → IsSpace o g → IsLastGap (g ++ [])
space_last o g (nothing p) = inl gaps.none
space_last o g (one b h) = inl (gaps.blank b [] (space_blank b h) gaps.none)

space_plain : (b : ℕ) → is_space b ≡ true → IsUtf8 (b ∷ [])
space_plain b h = go (b == 32) refl
  where
    go : (t : Bool) → (b == 32) ≡ t → IsUtf8 (b ∷ [])
    go true e = let same : 32 ≡ b = omega (arith, Rattle.std.proofs.lemmas.Bool.eqb-true b 32 e) in subst (λ x. IsUtf8 (x ∷ [])) same (plain_utf8 (32 ∷ []) refl)
    go false e = let same : 10 ≡ b = grind (arith, nat_tests) in subst (λ x. IsUtf8 (x ∷ [])) same (plain_utf8 (10 ∷ []) refl)

space_utf8 : (o : Option Inside) (g : Bytes) → IsSpace o g → IsUtf8 g
space_utf8 o g (nothing p) = IsUtf8-nil
space_utf8 o g (one b h) = space_plain b h

blank_fits : (ks : List Kind) → IsSpace None (blank ks)
blank_fits [] = nothing None
blank_fits (k ∷ ks) = one 32 refl

gap_fits : (o : Option Open) (k : Kind) (ks : List Kind) → IsSpace (inside_place o) (gap_of o k ks)
gap_fits None k ks = go (ends_line k)
  where
    go : (t : Bool) → IsSpace None (cond t (codes "\n") (blank ks))
    go true = one 10 refl
    go false = blank_fits ks
gap_fits (Some open_.Placeholder) k ks = blank_fits ks
gap_fits (Some (open_.Quoted q)) k ks = nothing (Some (string q))
gap_fits (Some (open_.Command f)) k ks = nothing (Some (command f))

blank_apart : (os : List Open) (ks : List Kind) → IsApart (blank ks ++ written os ks)
blank_apart os [] = inl refl
blank_apart os (k ∷ ks) = inr (32, written os (k ∷ ks), refl, refl)

gap_apart : (o : Option Open) (os : List Open) (k : Kind) (ks : List Kind) → inside_place o ≡ None → IsApart (gap_of o k ks ++ written os ks)
gap_apart None os k ks h = go (ends_line k)
  where
    go : (t : Bool) → IsApart (cond t (codes "\n") (blank ks) ++ written os ks)
    go true = inr (10, written os ks, refl, refl)
    go false = blank_apart os ks
gap_apart (Some open_.Placeholder) os k ks h = blank_apart os ks
gap_apart (Some (open_.Quoted q)) os k ks h = cc
gap_apart (Some (open_.Command f)) os k ks h = cc

apart_or_edge : (os : List Open) (k : Kind) (ks : List Kind) → inside_place (innermost os) ≡ None → is_code k ≡ true → IsApart (rest_of (after os k) k ks) ⊎ (is_edge k ≡ true)
apart_or_edge os (kind.Word w) ks h c = inl (gap_apart (innermost os) os (kind.Word w) ks h)
apart_or_edge os (kind.Int n) ks h c = inl (gap_apart (innermost os) os (kind.Int n) ks h)
apart_or_edge os (kind.Frac w) ks h c = inl (gap_apart (innermost os) os (kind.Frac w) ks h)
apart_or_edge os (kind.Mark m) ks h c = inl (gap_apart (innermost os) os (kind.Mark m) ks h)
apart_or_edge os (kind.StrOpen q) ks h c = inr refl
apart_or_edge os kind.HoleClose ks h c = inr refl
apart_or_edge os (kind.CommandOpen f) ks h c = inr refl
apart_or_edge os kind.StrClose ks h c = cc
apart_or_edge os (kind.Chars w) ks h c = cc
apart_or_edge os (kind.HoleOpen m) ks h c = cc
apart_or_edge os kind.CommandClose ks h c = cc

-- ---- tokens in strings and commands

abbrev place_in : Inside → Open
place_in (string q) = open_.Quoted q
place_in (command f) = open_.Command f

place_is : (o : Option Open) (i : Inside) → Some i ≡ inside_place o → o ≡ Some (place_in i)
place_is None i e = cc
place_is (Some open_.Placeholder) i e = cc
place_is (Some (open_.Quoted q)) i e = let f : string q ≡ i = cc in ap (λ x. Some (place_in x)) f
place_is (Some (open_.Command c)) i e = let f : command c ≡ i = cc in ap (λ x. Some (place_in x)) f

spelled_closing : (i : Inside) → spelling (Some (place_in i)) (closing i) ≡ closer i
spelled_closing (string Single) = refl
spelled_closing (string Double) = refl
spelled_closing (command Brace) = refl
spelled_closing (command Angle) = refl

spelled_hole : (o : Option Open) (m : HoleMark) → spelling o (kind.HoleOpen m) ≡ hole_byte m ∷ 123 ∷ []
spelled_hole o Tilde = refl
spelled_hole o Dollar = refl

closer_utf8 : (i : Inside) → IsUtf8 (closer i)
closer_utf8 (string Single) = plain_utf8 (39 ∷ []) refl
closer_utf8 (string Double) = plain_utf8 (34 ∷ []) refl
closer_utf8 (command Brace) = plain_utf8 (125 ∷ []) refl
closer_utf8 (command Angle) = plain_utf8 (62 ∷ 62 ∷ 62 ∷ []) refl

hole_utf8 : (m : HoleMark) → IsUtf8 (hole_byte m ∷ 123 ∷ [])
hole_utf8 Tilde = plain_utf8 (126 ∷ 123 ∷ []) refl
hole_utf8 Dollar = plain_utf8 (36 ∷ 123 ∷ []) refl

no_gap : (i : Inside) (k : Kind) (ks : List Kind) → gap_of (Some (place_in i)) k ks ≡ []
no_gap (string q) k ks = refl
no_gap (command f) k ks = refl

ends_there : (i : Inside) (w rest out : Bytes) → AreChars (Stops i) i w rest out → stops i rest ≡ true
ends_there i w rest out (s.over u st) = st
ends_there i w rest out (s.plain b v u x st bs more) = ends_there i v u x more
ends_there i w rest out (s.escape x c v u y str is more) = ends_there i v u y more

encode_some : (c : ℕ) (y z : Bytes) → length z ≡ len_utf8 c → is_end (z ++ y) ≡ false
encode_some c y [] e = absurd (grind (arith, nat_tests))
encode_some c y (b ∷ z) e = refl

some_out : (i : Inside) (b : ℕ) (w rest out z : Bytes) → z ≡ b ∷ w → AreChars (Stops i) i z rest out → is_end out ≡ false
some_out i b w rest out z e (s.over u st) = cc
some_out i b w rest out z e (s.plain a v u x st bs more) = refl
some_out i b w rest out z e (s.escape x c v u y str is more) = encode_some c y (encode_utf8 c) (length-encode c)

-- characters that are not empty are a token
as_token : (i : Inside) (w rest out : Bytes) → AreChars (Stops i) i w rest out → is_end out ≡ false → IsTextToken i w rest (kind.Chars out)
as_token i w rest out (s.over u st) some = cc
as_token i w rest out (s.plain b v u x st bs more) some = s.chars b v u (b ∷ x) st (s.plain b v u x st bs more)
as_token i w rest out (s.escape x c v u y str is more) some = s.chars 92 (x ++ v) u (encode_utf8 c ++ y) (backslash_on i ((x ++ v) ++ u) str) (s.escape x c v u y str is more)

-- what is written for characters
module _ (out : Bytes) (u : IsUtf8 out) (plain : has_nul out ≡ false) where
  chars_again : (i : Inside) (w rest e r new : Bytes) → AreChars (Stops i) i w rest out → is_end out ≡ false → Ending i e → rest ≡ e ++ r → IsTextToken i (spelling (Some (place_in i)) (kind.Chars out)) (e ++ new) (kind.Chars out) × IsUtf8 (spelling (Some (place_in i)) (kind.Chars out))
  chars_again (string q) w rest e r new a some end text = (as_token (string q) (escaped q (chars out)) (e ++ new) out (string_written q (e ++ new) out u plain (ending_stops (string q) e new end)) some, escaped_utf8 q out u)
  chars_again (command f) w rest e r new a some end text =
      let same = as_written (command f) refl (Stops (command f)) w rest out a in
      (subst (λ x. IsTextToken (command f) x (e ++ new) (kind.Chars out)) (sym same) (as_token (command f) w (e ++ new) out (moved (command f) e r new end w rest out text a) some), u)

-- the token behind characters, which ends them
abbrev Next : Inside → List Open → Bytes → List Kind → Type 0
Next i os rest ks = (e : Bytes) × (r : Bytes) × (new : Bytes) × Ending i e × (rest ≡ e ++ r) × (written os ks ≡ e ++ new)

closed_top : (st : Stack) → AllClosed st → inside_at (top st) ≡ None
closed_top [] c = refl
closed_top (k ∷ st) c = c.0

module _ (i : Inside) (os : List Open) (place : innermost os ≡ Some (place_in i)) where
  next_text : (w rest : Bytes) (k : Kind) (ks : List Kind) → stops i (w ++ rest) ≡ true → IsTextToken i w rest k → Next i os (w ++ rest) (k ∷ ks)
  next_text w rest k ks st (s.close r) =
      (closer i, r, rest_of (after os (closing i)) (closing i) ks, by_closer, refl, ap (λ x. x ++ rest_of (after os (closing i)) (closing i) ks) (ap (λ p. spelling p (closing i)) place ∙ spelled_closing i))
  next_text w rest k ks st (s.hole m r h) = (
    hole_byte m ∷ 123 ∷ [],
    r,
    rest_of (after os (kind.HoleOpen m)) (kind.HoleOpen m) ks,
    by_hole m h,
    refl,
    ap (λ x. x ++ rest_of (after os (kind.HoleOpen m)) (kind.HoleOpen m) ks) (spelled_hole (innermost os) m),
  )
  next_text w rest k ks st (s.chars b v r out go_on a) = (let h = sym st ∙ go_on in let n : ⊥ = cc in absurd n)

  next_in : (o : Option Inside) → o ≡ Some i → (awaits closes : Bool) (g w rest : Bytes) (k : Kind) (ks : List Kind) → stops i (g ++ (w ++ rest)) ≡ true → IsGapIn o g → IsTokenIn o awaits closes w rest k → Next i os (g ++ (w ++ rest)) (k ∷ ks)
  next_in None e awaits closes g w rest k ks st gap is = cc
  next_in (Some j) e awaits closes g w rest k ks st gap is =
      let same : j ≡ i = cc in
      let none : [] ≡ g = sym gap in
      subst (λ x. Next i os (x ++ (w ++ rest)) (k ∷ ks)) none
      (next_text w rest k ks (subst (λ x. stops i (x ++ (w ++ rest)) ≡ true) gap st) (subst (λ x. IsTextToken x w rest k) same is))

  next : (st : Stack) (z : Bytes) (ks : List Kind) → inside_at (top st) ≡ Some i → stops i z ≡ true → Reads false st z ks → Next i os z ks
  next st z [] inside st_ (c, last) = (let h = sym (closed_top st c) ∙ inside in let n : ⊥ = cc in absurd n)
  next st z (k ∷ ks) inside stop (g, w, rest, text, gap, is, more) =
      subst (λ x. Next i os x (k ∷ ks)) (sym text) (next_in (inside_at (top st)) inside false (in_hole st) g w rest k ks (subst (λ x. stops i x ≡ true) text stop) gap is)

-- ---- every token

abbrev Again : Option Inside → Bool → Bool → List Open → Kind → List Kind → Type 0
Again o awaits closes os k ks = IsTokenIn o awaits closes (spelling (innermost os) k) (rest_of (after os k) k ks) k × IsUtf8 (spelling (innermost os) k)

module _ (st : Stack) (ks : List Kind) (awaits : Bool) where
  code_token : (w rest : Bytes) (k : Kind) → inside_place (innermost (places st)) ≡ None → IsCodeToken awaits (in_hole st) w rest k → Again None awaits (in_hole st) (places st) k ks
  code_token w rest k outside is =
      let os = places st in
      let t = code_again (innermost os) awaits (in_hole st) w rest (rest_of (after os k) k ks) k is (apart_or_edge os k ks outside (code_kind awaits (in_hole st) w rest k is)) in
      (t, plain_utf8 (spelling (innermost os) k) (spells_plain awaits (in_hole st) (spelling (innermost os) k) k t.longest.spells))

  text_token : (i : Inside) (w rest : Bytes) (k : Kind) → inside_at (top st) ≡ Some i → innermost (places st) ≡ Some (place_in i) → IsUtf8 (w ++ rest) → IsTextToken i w rest k → Reads (is_command k) (behind st k) rest ks → Again (Some i) awaits (in_hole st) (places st) k ks
  text_token i w rest k inside place u (s.close r) more =
      let same : closer i ≡ spelling (innermost (places st)) (closing i) = sym (ap (λ p. spelling p (closing i)) place ∙ spelled_closing i) in
      let new = rest_of (after (places st) (closing i)) (closing i) ks in
      (subst (λ x. IsTextToken i x new (closing i)) same (s.close new), subst IsUtf8 same (closer_utf8 i))
  text_token i w rest k inside place u (s.hole m r h) more =
      let same : hole_byte m ∷ 123 ∷ [] ≡ spelling (innermost (places st)) (kind.HoleOpen m) = sym (spelled_hole (innermost (places st)) m) in
      let new = rest_of (after (places st) (kind.HoleOpen m)) (kind.HoleOpen m) ks in
      (subst (λ x. IsTextToken i x new (kind.HoleOpen m)) same (s.hole m new h), subst IsUtf8 same (hole_utf8 m))
  text_token i w rest k inside place u (s.chars b v r out go_on a) more =
      let os = places st in
      let (e, t, new, end, text, made) = next i os place st r ks inside (ends_there i (b ∷ v) r out a) more in
      let known = chars_text i (b ∷ v) r out a u in
      let again = chars_again out known.0 known.1 i (b ∷ v) r e t new a (some_out i b v r out (b ∷ v) refl a) end text in
      let same : spelling (Some (place_in i)) (kind.Chars out) ≡ spelling (innermost os) (kind.Chars out) = ap (λ p. spelling p (kind.Chars out)) (sym place) in
      let behind_it : e ++ new ≡ rest_of os (kind.Chars out) ks = sym made ∙ ap (λ x. x ++ written os ks) (sym (ap (λ p. gap_of p (kind.Chars out) ks) place ∙ no_gap i (kind.Chars out) ks)) in (
        subst (λ x. IsTextToken i x (rest_of os (kind.Chars out) ks) (kind.Chars out)) same (subst (λ x. IsTextToken i (spelling (Some (place_in i)) (kind.Chars out)) x (kind.Chars out)) behind_it again.0),
        subst IsUtf8 same again.1,
      )

  token_again : (o : Option Inside) → inside_at (top st) ≡ o → o ≡ inside_place (innermost (places st)) → (w rest : Bytes) (k : Kind) → IsUtf8 (w ++ rest) → IsTokenIn o awaits (in_hole st) w rest k → Reads (is_command k) (behind st k) rest ks → Again o awaits (in_hole st) (places st) k ks
  token_again None inside place w rest k u is more = code_token w rest k (sym place) is
  token_again (Some i) inside place w rest k u is more = text_token i w rest k inside (place_is (innermost (places st)) i place) u is more

-- ---- what closes has something to close

code_closes : (st : Stack) (k : Kind) → is_code k ≡ true → (k ≡ kind.HoleClose → in_hole st ≡ true) → MayClose st k
code_closes st kind.HoleClose c h = hole_has (top st) (h refl)
code_closes st kind.StrClose c h = cc
code_closes st kind.CommandClose c h = cc
code_closes st (kind.StrOpen q) c h = tt
code_closes st (kind.CommandOpen f) c h = tt
code_closes st (kind.HoleOpen m) c h = tt
code_closes st (kind.Mark m) c h = tt
code_closes st (kind.Word w) c h = tt
code_closes st (kind.Int n) c h = tt
code_closes st (kind.Frac w) c h = tt
code_closes st (kind.Chars w) c h = tt

text_closes : (st : Stack) (i : Inside) (w rest : Bytes) (k : Kind) → inside_at (top st) ≡ Some i → IsTextToken i w rest k → MayClose st k
text_closes st (string q) w rest k inside (s.close r) = inside_has (top st) (string q) inside
text_closes st (command f) w rest k inside (s.close r) = inside_has (top st) (command f) inside
text_closes st i w rest k inside (s.hole m r h) = tt
text_closes st i w rest k inside (s.chars b v r out go_on a) = tt

may_close : (st : Stack) (o : Option Inside) (awaits : Bool) (w rest : Bytes) (k : Kind) → inside_at (top st) ≡ o → IsTokenIn o awaits (in_hole st) w rest k → MayClose st k
may_close st None awaits w rest k inside is = code_closes st k (code_kind awaits (in_hole st) w rest k is) (λ e. hole_closes awaits (in_hole st) w rest (subst (IsCodeToken awaits (in_hole st) w rest) e is))
may_close st (Some i) awaits w rest k inside is = text_closes st i w rest k inside is

-- ---- the text is read as these tokens

gap_in : (o : Option Inside) (g y : Bytes) → IsGapIn o g → IsUtf8 (g ++ y) → IsUtf8 y
gap_in None g y h u = behind_gap g y h u
gap_in (Some i) g y h u = subst (λ x. IsUtf8 (x ++ y)) h u

back : (ks : List Kind) (awaits : Bool) (st : Stack) (z g : Bytes) → Sound st → IsUtf8 z → Reads awaits st z ks → IsSpace (inside_at (top st)) g
    → Reads awaits st (g ++ written (places st) ks) ks × IsUtf8 (written (places st) ks)
back [] awaits st z g sound u (c, last) space = ((c, space_last (inside_at (top st)) g space), IsUtf8-nil)
back (k ∷ ks) awaits st z g sound u (h, w, rest, text, gap, is, more) space =
    let o = inside_at (top st) in
    let os = places st in
    let here = gap_in o h (w ++ rest) gap (subst IsUtf8 text u) in
    let same : places (behind st k) ≡ after os k = behind_places st k (may_close st o awaits w rest k refl is) in
    let fits = subst (λ x. IsSpace x (gap_of (innermost (places (behind st k))) k ks)) (sym (same_inside (behind st k) (behind_sound st k sound))) (gap_fits (innermost (places (behind st k))) k ks) in
    let (read, text_utf8) = back ks (is_command k) (behind st k) rest (gap_of (innermost (places (behind st k))) k ks) (behind_sound st k sound) (behind_token o awaits (in_hole st) w rest k is here) more fits in
    let (again, token_utf8) = token_again st ks awaits o refl (same_inside st sound) w rest k here is more in (
      (g, spelling (innermost os) k, rest_of (after os k) k ks, refl, space_gap o g space, again, subst (λ x. Reads (is_command k) (behind st k) (rest_of x k ks) ks) same read),
      IsUtf8-append (spelling (innermost os) k) (rest_of (after os k) k ks) token_utf8
          (subst (λ x. IsUtf8 (rest_of x k ks)) same
          (IsUtf8-append (gap_of (innermost (places (behind st k))) k ks) (written (places (behind st k)) ks) (space_utf8 (inside_at (top (behind st k))) (gap_of (innermost (places (behind st k))) k ks) fits) text_utf8)),
    )

-- a word and a number on a line of their own, and then the rest
abbrev lined : Bytes → Bytes → List Kind → Bytes
lined v n ks = v ++ (32 ∷ (n ++ (10 ∷ written [] ks)))

line_back : (v n z : Bytes) (ks : List Kind) → IsUtf8 z → Reads false [] z (kind.Word v ∷ kind.Frac n ∷ ks) → Reads false [] (lined v n ks) (kind.Word v ∷ kind.Frac n ∷ ks) × IsUtf8 (lined v n ks)
line_back v n z ks u (g, w, rest, text, gap, is, (h, x, end, text_, gap_, is_, more)) =
    let first_utf8 = behind_token None false false w rest (kind.Word v) is (behind_gap g (w ++ rest) gap (subst IsUtf8 text u)) in
    let second_utf8 = behind_token None (is_command (kind.Word v)) false x end (kind.Frac n) is_ (behind_gap h (x ++ end) gap_ (subst IsUtf8 text_ first_utf8)) in
    let (read, text_utf8) = back ks false [] end (10 ∷ []) tt second_utf8 more (one 10 refl) in
    let number = code_again None (is_command (kind.Word v)) false x end (10 ∷ written [] ks) (kind.Frac n) is_ (inl (inr (10, written [] ks, refl, refl))) in
    let word = code_again None false false w rest (32 ∷ (n ++ (10 ∷ written [] ks))) (kind.Word v) is (inl (inr (32, n ++ (10 ∷ written [] ks), refl, refl))) in (
      ([], v, 32 ∷ (n ++ (10 ∷ written [] ks)), refl, gaps.none, word, (32 ∷ [], n, 10 ∷ written [] ks, refl, gaps.blank 32 [] refl gaps.none, number, read)),
      IsUtf8-append v (32 ∷ (n ++ (10 ∷ written [] ks))) (plain_utf8 v (spells_plain false false v (kind.Word v) word.longest.spells))
          (IsUtf8-append (32 ∷ []) (n ++ (10 ∷ written [] ks)) (plain_utf8 (32 ∷ []) refl)
          (IsUtf8-append n (10 ∷ written [] ks) (plain_utf8 n (spells_plain (is_command (kind.Word v)) false n (kind.Frac n) number.longest.spells))
          (IsUtf8-append (10 ∷ []) (written [] ks) (plain_utf8 (10 ∷ []) refl) text_utf8))),
    )

to_the_right : (v n y : Bytes) → v ++ 32 ∷ [] ++ n ++ 10 ∷ [] ++ y ≡ v ++ (32 ∷ (n ++ (10 ∷ y)))
to_the_right v n y =
    append_assoc (v ++ 32 ∷ [] ++ n) (10 ∷ []) y ∙ append_assoc (v ++ 32 ∷ []) n (10 ∷ y) ∙ append_assoc v (32 ∷ []) (n ++ (10 ∷ y))

pub printed_read_back : (doc : ℕ) (d : Document) → IsWritten (document_words d) → IsReadAs doc (printed_document d) (document_words d)
unfolding printed_document
printed_read_back doc d (from, bytes, (ts, spelled, same)) =
    let ks = kinds (Rattle.std.proofs.Common.drop 2 (document_words d)) in
    let reads = subst (Reads false [] bytes) same (without_spans from 0 false [] bytes ts spelled.spells) in
    let (read, text_utf8) = line_back (codes "version") (codes "1.1") bytes ks spelled.utf8 reads in
    let (us, kinds_are, spells) = with_spans doc 0 false [] (lined (codes "version") (codes "1.1") ks) (kinds (document_words d)) read in
    let text : lined (codes "version") (codes "1.1") ks ≡ printed_document d =
    sym (to_the_right (codes "version") (codes "1.1") (printed_from [] (Rattle.std.proofs.Common.drop 2 (document_words d)))
    ∙ ap (λ x. codes "version" ++ (32 ∷ (codes "1.1" ++ (10 ∷ x)))) (same_text [] (Rattle.std.proofs.Common.drop 2 (document_words d)))) in
    (us, subst (λ x. Spelled doc x us) text (record { utf8 = text_utf8; spells = spells }), kinds_are)
