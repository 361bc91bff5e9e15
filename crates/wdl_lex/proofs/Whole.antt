-- Reading a whole text gives the tokens that it spells, or tells what is wrong.
use Rattle.std.proofs.Common.{◌≡◌, ℕ, zero, suc, ◌+◌, ◌<◌, Bool, true, false, cond, ◌⊎◌, inl, inr, List, [], ◌∷◌, ◌++◌, length, drop, Option, Some, None, Result, Ok, Err, refl, ap, sym, ◌∙◌, subst, length-append, arith}
use Rattle.std.proofs.lemmas.Bool.{and_parts, and_from, cond-true, cond-false}
use Rattle.std.proofs.lemmas.List.{append-nil, drop_at}
use Rattle.wdl_ast.specs.declared.token.Kind.{Kind}
use Rattle.wdl_ast.specs.declared.token.Token.{Token}
use Rattle.wdl_ast.specs.Spelled.{Open, inside_of, inside, in_hole, after, is_command, unclosed, unclosed_from, IsTokenIn, IsToken, IsGapIn, span_at, placed, AreTokens, IsOver}
use Rattle.wdl_ast.specs.Spelled.Classes.{Bytes, is_end}
use Rattle.wdl_ast.specs.Spelled.Code.{IsCodeToken}
use Rattle.wdl_ast.specs.Spelled.Chars as chars
use Rattle.wdl_ast.specs.Spelled.Chars.{Inside, string, command, closer, IsTextToken}
use Rattle.wdl_ast.specs.Spelled.Gaps as gaps
use Rattle.wdl_ast.specs.Spelled.Gaps.{IsGap, IsLastGap}
use Rattle.wdl_ast.specs.declared.token.Quote.TheVariants.{Single, Double}
use Rattle.wdl_ast.specs.declared.token.Fence.TheVariants.{Brace, Angle}
use Rattle.wdl_lex.specs.declared.fault.Flaw.{Flaw}
use Rattle.wdl_lex.specs.Limits.{is_short, are_short}
use Rattle.wdl_lex.specs.Faults.{IsFlawIn, IsFlawedBy, IsUnclosed}
use Rattle.wdl_lex.specs.Reading.{Fault, fault_at, located, and_then, token_in, token, gap, ended, lex_from}
use Rattle.wdl_lex.specs.Reading.Code.{Found, code_token}
use Rattle.wdl_lex.specs.Reading.Gaps.{gap_len, gap_in}
use Rattle.wdl_lex.specs.Reading.Chars.{text_token}
use Rattle.wdl_lex.proofs.Digits.{is_plain, are_plain}
use Rattle.wdl_lex.proofs.Lists.{same_head, left}
use Rattle.wdl_lex.proofs.CodeLaws.{opens_gap, spells_first, spells_plain, code_sound, code_full, code_wrong}
use Rattle.wdl_lex.proofs.CharLaws.{text_tells, text_full, Tells}
use Rattle.wdl_lex.proofs.GapLaws.{gap_then, last_gap, CutsOff, Measured, gap_splits, no_gap}

-- ---- gaps in their places

-- what stands before the next token, and what follows it
abbrev pub Before : Option Inside → Bytes → Bytes → Type 0
Before None g y = IsGap g ⊎ CutsOff y
Before (Some i) g y = g ≡ []

abbrev pub Parts : Option Inside → Bytes → Type 0
Parts i z = (g : Bytes) × (y : Bytes) × (z ≡ g ++ y) × (gap_in i z ≡ length g) × Before i g y × (y ≡ [] → IsLastGap z)

pub parts : (i : Option Inside) (z : Bytes) → Parts i z
parts (Some i) z = ([], z, refl, refl, refl, λ e. inl (subst IsGap (sym e) gaps.none))
parts None z =
    let m = gap_splits z in
    (m.0, m.1, m.2, sym m.3, before m.0 m.1 m.4, last m.0 m.1 m.2 m.4)
  where
    before : (g y : Bytes) → Measured g y → IsGap g ⊎ CutsOff y
    before g y (inl q) = inl q
    before g y (inr q) = inr q.0

    last : (g y : Bytes) → z ≡ g ++ y → Measured g y → y ≡ [] → IsLastGap z
    last g y t q e = subst IsLastGap (sym (t ∙ ap (λ x. g ++ x) e ∙ append-nil g)) (whole q)
      where
        whole : Measured g y → IsLastGap g
        whole (inl q) = inl q
        whole (inr q) = q.1

-- ---- tokens in their places

code_some : (awaits closes : Bool) (w rest : Bytes) (k : Kind) → IsCodeToken awaits closes w rest k → (b : ℕ) × (v : Bytes) × (w ≡ b ∷ v) × (opens_gap b ≡ false) × (is_plain b ≡ true)
code_some awaits closes w rest k t =
    let f = spells_first awaits closes w k t.longest.spells in
    let p = spells_plain awaits closes w k t.longest.spells in
    (f.0, f.1, f.2, f.3, (and_parts (is_plain f.0) (are_plain f.1) (ap are_plain (sym f.2) ∙ p)).0)

text_some : (i : Inside) (w rest : Bytes) (k : Kind) → IsTextToken i w rest k → (b : ℕ) × (v : Bytes) × (w ≡ b ∷ v)
text_some i w rest k (chars.close r) = closer_some i
  where
    closer_some : (i : Inside) → (b : ℕ) × (v : Bytes) × (closer i ≡ b ∷ v)
    closer_some (string Single) = (39, [], refl)
    closer_some (string Double) = (34, [], refl)
    closer_some (command Brace) = (125, [], refl)
    closer_some (command Angle) = (62, 62 ∷ 62 ∷ [], refl)
text_some i w rest k (chars.hole m r h) = (Rattle.wdl_ast.specs.Spelled.Chars.hole_byte m, 123 ∷ [], refl)
text_some i w rest k (chars.chars b v r new st h) = (b, v, refl)

module _ (limited : Bool) (doc : ℕ) where
  abbrev Short : Kind → Type 0
  Short k = limited ≡ true → is_short k ≡ true

  -- what reading a token tells
  abbrev TellsIn : Option Inside → Bool → Bool → Bytes → Result Found Flaw → Type 0
  TellsIn i awaits closes y (Ok t) = (w : Bytes) × (rest : Bytes) × (y ≡ w ++ rest) × (length w ≡ t.1) × IsTokenIn i awaits closes w rest t.0 × Short t.0
  TellsIn i awaits closes y (Err f) = IsFlawIn i awaits closes y f

  closing_short : (i : Inside) → is_short (chars.closing i) ≡ true
  closing_short (string q) = refl
  closing_short (command f) = refl

  text_short : (i : Inside) (w rest : Bytes) (k : Kind) → IsTextToken i w rest k → is_short k ≡ true
  text_short i w rest k (chars.close r) = closing_short i
  text_short i w rest k (chars.hole m r h) = refl
  text_short i w rest k (chars.chars b v r new st h) = refl

  tells : (i : Option Inside) (awaits closes : Bool) (b : ℕ) (y : Bytes) → TellsIn i awaits closes (b ∷ y) (token_in limited i awaits closes (b ∷ y))
  tells None awaits closes b y = go (code_token limited awaits closes (b ∷ y)) refl
    where
      go : (r : Result Found Flaw) → code_token limited awaits closes (b ∷ y) ≡ r → TellsIn None awaits closes (b ∷ y) r
      go (Ok t) e = let c = code_sound limited awaits closes (b ∷ y) t.0 t.1 e in (c.0, c.1, c.2, c.3, c.4, c.5)
      go (Err f) e = code_wrong limited awaits closes (b ∷ y) f e
  tells (Some i) awaits closes b y = go (text_token i (b ∷ y)) (text_tells i b y)
    where
      go : (r : Result Found Flaw) → Tells i (b ∷ y) r → TellsIn (Some i) awaits closes (b ∷ y) r
      go (Ok t) q = (q.0, q.1, q.2, q.3, q.4, λ l. text_short i q.0 q.1 t.0 q.4)
      go (Err f) q = q

  full : (i : Option Inside) (awaits closes : Bool) (w rest : Bytes) (k : Kind) → IsTokenIn i awaits closes w rest k → Short k → token_in limited i awaits closes (w ++ rest) ≡ Ok (k, length w)
  full None awaits closes w rest k t h = code_full limited awaits closes w rest k t h
  full (Some i) awaits closes w rest k t h = text_full i w rest k t

  some : (i : Option Inside) (awaits closes : Bool) (w rest : Bytes) (k : Kind) → IsTokenIn i awaits closes w rest k → (b : ℕ) × (v : Bytes) × (w ≡ b ∷ v)
  some None awaits closes w rest k t = let c = code_some awaits closes w rest k t in (c.0, c.1, c.2)
  some (Some i) awaits closes w rest k t = text_some i w rest k t

  -- a gap ends where its token begins
  gap_is : (i : Option Inside) (awaits closes : Bool) (g w rest : Bytes) (k : Kind) → IsGapIn i g → IsTokenIn i awaits closes w rest k → gap_in i (g ++ (w ++ rest)) ≡ length g
  gap_is None awaits closes g w rest k q t =
      let c = code_some awaits closes w rest k t in
      gap_then g (w ++ rest) q ∙ ap (λ x. length g + gap_len false (x ++ rest)) c.2 ∙ ap (λ n. length g + n) (no_gap c.0 (c.1 ++ rest) c.3) ∙ (let e : length g + 0 ≡ length g = omega arith in e)
  gap_is (Some i) awaits closes g w rest k q t = ap length (sym q)

  -- and no comment is cut off before a token
  whole_gap : (i : Option Inside) (awaits closes : Bool) (g y w rest : Bytes) (k : Kind) → y ≡ w ++ rest → IsTokenIn i awaits closes w rest k → Before i g y → IsGapIn i g
  whole_gap (Some i) awaits closes g y w rest k text t q = q
  whole_gap None awaits closes g y w rest k text t (inl q) = q
  whole_gap None awaits closes g y w rest k text t (inr (inl e)) = let c = code_some awaits closes w rest k t in (let f = sym e ∙ text ∙ ap (λ x. x ++ rest) c.2 in let n : ⊥ = cc in absurd n)
  whole_gap None awaits closes g y w rest k text t (inr (inr (v, e))) =
      let c = code_some awaits closes w rest k t in
      let same = same_head 0 c.0 v (c.1 ++ rest) (sym e ∙ text ∙ ap (λ x. x ++ rest) c.2) in
      (let f = ap is_plain same.0 ∙ c.4 in let n : ⊥ = cc in absurd n)

  gap_or_nul : (i : Option Inside) (g : Bytes) (b : ℕ) (v : Bytes) → Before i g (b ∷ v) → IsGapIn i g ⊎ (b ≡ 0)
  gap_or_nul (Some i) g b v q = inl q
  gap_or_nul None g b v (inl q) = inl q
  gap_or_nul None g b v (inr (inl e)) = (let n : ⊥ = cc in absurd n)
  gap_or_nul None g b v (inr (inr (u, e))) = inr (same_head b 0 v u e).0

  -- ---- one turn of the reading

  abbrev Texts : Type 0
  Texts = Result (List Token) Fault

  abbrev later : ℕ → ℕ → Open → Bytes → Found → Texts
  later n at opened y t =
      and_then (lex_from limited doc n (at + t.1) (is_command t.0) (after opened (span_at doc at (at + t.1)) t.0) (drop t.1 y)) (λ ts. Ok (placed t.0 (span_at doc at (at + t.1)) ∷ ts))

  module _ (n at : ℕ) (awaits : Bool) (opened : Open) (z g y : Bytes) (text : z ≡ g ++ y) (gap_of : gap opened z ≡ length g) where
    left_over : drop (gap opened z) z ≡ y
    left_over = ap (λ m. drop m z) gap_of ∙ ap (drop (length g)) text ∙ drop_at g y (length g) refl

    abbrev turn_of : ℕ → Bytes → Texts
    turn_of m x = cond (is_end x) (ended (unclosed opened)) (and_then (located doc (at + m) (token limited awaits opened x)) (later n (at + m) opened x))

    turn : lex_from limited doc (suc n) at awaits opened z ≡ turn_of (length g) y
    unfolding lex_from
    turn = ap (turn_of (gap opened z)) left_over ∙ ap (λ m. turn_of m y) gap_of

    pub at_end : y ≡ [] → lex_from limited doc (suc n) at awaits opened z ≡ ended (unclosed opened)
    at_end e = turn ∙ cond-true (is_end y) _ _ (ap is_end e)

    pub at_token : (w rest : Bytes) (k : Kind) → is_end y ≡ false → y ≡ w ++ rest → token limited awaits opened y ≡ Ok (k, length w) →
        lex_from limited doc (suc n) at awaits opened z ≡ and_then (lex_from limited doc n (at + length g + length w) (is_command k) (after opened (span_at doc (at + length g) (at + length g + length w)) k) rest) (λ ts. Ok (placed k (span_at doc (at + length g) (at + length g + length w)) ∷ ts))
    unfolding and_then located
    at_token w rest k e q t =
        turn ∙ cond-false (is_end y) _ _ e ∙ ap (λ r. and_then (located doc (at + length g) r) (later n (at + length g) opened y)) t
        ∙ ap (λ x. and_then (lex_from limited doc n (at + length g + length w) (is_command k) (after opened (span_at doc (at + length g) (at + length g + length w)) k) x) (λ ts. Ok (placed k (span_at doc (at + length g) (at + length g + length w)) ∷ ts))) (ap (drop (length w)) q ∙ drop_at w rest (length w) refl)

    pub at_flaw : (f : Flaw) → is_end y ≡ false → token limited awaits opened y ≡ Err f → lex_from limited doc (suc n) at awaits opened z ≡ Err (fault_at doc (at + length g) f)
    unfolding and_then located
    at_flaw f e t = turn ∙ cond-false (is_end y) _ _ e ∙ ap (λ r. and_then (located doc (at + length g) r) (later n (at + length g) opened y)) t

  -- ---- what reading tells

  abbrev pub AllShort : List Token → Type 0
  AllShort ts = limited ≡ true → are_short ts ≡ true

  abbrev Flawed : ℕ → Bool → Open → Bytes → Fault → Type 0
  Flawed at awaits opened z e =
      (ts : List Token) × (from : ℕ) × (f : Flaw) × AreTokens (IsFlawedBy from f) doc at awaits opened z ts × (e.0 ≡ f.code) × (e.1 ≡ span_at doc (from + f.start) (from + f.end))

  abbrev CutOff : ℕ → Bool → Open → Bytes → Fault → Type 0
  CutOff at awaits opened z e = (ts : List Token) × AreTokens (IsUnclosed e.0 e.1) doc at awaits opened z ts

  abbrev pub Told : ℕ → Bool → Open → Bytes → Texts → Type 0
  Told at awaits opened z (Ok ts) = AreTokens IsOver doc at awaits opened z ts × AllShort ts
  Told at awaits opened z (Err e) = Flawed at awaits opened z e ⊎ CutOff at awaits opened z e

  told_end : (at : ℕ) (awaits : Bool) (opened : Open) (z : Bytes) (o : Option Token) → unclosed opened ≡ o → IsLastGap z → Told at awaits opened z (ended o)
  told_end at awaits opened z None e l = ((e, l), λ _. refl)
  told_end at awaits opened z (Some t) e l = inr ([], (l, (t, e, refl, refl)))

  told_token : (at : ℕ) (awaits : Bool) (opened : Open) (z g w rest : Bytes) (k : Kind) → z ≡ g ++ (w ++ rest) → IsGapIn (inside opened) g → IsToken awaits opened w rest k → Short k
      → (r : Texts) → Told (at + length g + length w) (is_command k) (after opened (span_at doc (at + length g) (at + length g + length w)) k) rest r
      → Told at awaits opened z (and_then r (λ ts. Ok (placed k (span_at doc (at + length g) (at + length g + length w)) ∷ ts)))
  unfolding and_then
  told_token at awaits opened z g w rest k text q t short (Ok ts) (are, all) =
      ((g, w, rest, k, text, q, t, refl, are), λ l. and_from (is_short k) (are_short ts) (short l) (all l))
  told_token at awaits opened z g w rest k text q t short (Err e) (inl (ts, from, f, are, c, s)) =
      inl (placed k (span_at doc (at + length g) (at + length g + length w)) ∷ ts, from, f, (g, w, rest, k, text, q, t, refl, are), c, s)
  told_token at awaits opened z g w rest k text q t short (Err e) (inr (ts, are)) =
      inr (placed k (span_at doc (at + length g) (at + length g + length w)) ∷ ts, (g, w, rest, k, text, q, t, refl, are))

  told_flaw : (at : ℕ) (awaits : Bool) (opened : Open) (z g : Bytes) (b : ℕ) (v : Bytes) (f : Flaw) → z ≡ g ++ b ∷ v → IsGapIn (inside opened) g ⊎ (b ≡ 0) → IsFlawIn (inside opened) awaits (in_hole opened) (b ∷ v) f
      → Told at awaits opened z (Err (fault_at doc (at + length g) f))
  told_flaw at awaits opened z g b v f text q w = inl ([], at + length g, f, (g, b ∷ v, text, q, w, refl), refl, refl)

  pub lex_tells : (n at : ℕ) (awaits : Bool) (opened : Open) (z : Bytes) → length z < n → Told at awaits opened z (lex_from limited doc n at awaits opened z)
  lex_tells zero at awaits opened z fits = absurd (omega arith)
  lex_tells (suc n) at awaits opened z fits = go (parts (inside opened) z) (λ at awaits opened z fits. lex_tells n at awaits opened z fits)
    where
      read : (g y : Bytes) (b : ℕ) (v : Bytes) → y ≡ b ∷ v → z ≡ g ++ y → gap opened z ≡ length g → Before (inside opened) g y
          → ((at : ℕ) (awaits : Bool) (opened : Open) (z : Bytes) → length z < n → Told at awaits opened z (lex_from limited doc n at awaits opened z))
          → (r : Result Found Flaw) → token limited awaits opened y ≡ r → TellsIn (inside opened) awaits (in_hole opened) y r → Told at awaits opened z (lex_from limited doc (suc n) at awaits opened z)
      read g y b v e text gap_of before rec (Err f) t w =
          subst (Told at awaits opened z) (sym (at_flaw n at awaits opened z g y text gap_of f (ap is_end e) t))
          (told_flaw at awaits opened z g b v f (text ∙ ap (λ x. g ++ x) e) (gap_or_nul (inside opened) g b v (subst (Before (inside opened) g) e before)) (subst (λ x. IsFlawIn (inside opened) awaits (in_hole opened) x f) e w))
      read g y b v e text gap_of before rec (Ok t) tok (w, rest, yt, len, is, short) =
          let s = some (inside opened) awaits (in_hole opened) w rest t.0 is in
          let less : length rest < n = (let q1 = ap length text in let q2 = ap length yt in let q3 = ap length s.2 in omega (arith, q1, q2, q3, length-append g y, length-append w rest, fits)) in
          let found : token limited awaits opened y ≡ Ok (t.0, length w) = tok ∙ ap (λ m. Ok (t.0, m)) (sym len) in
          subst (Told at awaits opened z) (sym (at_token n at awaits opened z g y text gap_of w rest t.0 (ap is_end e) yt found))
          (told_token at awaits opened z g w rest t.0 (text ∙ ap (λ x. g ++ x) yt) (whole_gap (inside opened) awaits (in_hole opened) g y w rest t.0 yt is before) is short _
          (rec (at + length g + length w) (is_command t.0) (after opened (span_at doc (at + length g) (at + length g + length w)) t.0) rest less))

      at_last : (g y u : Bytes) → y ≡ u → z ≡ g ++ y → gap opened z ≡ length g → Before (inside opened) g y → (y ≡ [] → IsLastGap z)
          → ((at : ℕ) (awaits : Bool) (opened : Open) (z : Bytes) → length z < n → Told at awaits opened z (lex_from limited doc n at awaits opened z)) → Told at awaits opened z (lex_from limited doc (suc n) at awaits opened z)
      at_last g y [] e text gap_of before last rec =
          subst (Told at awaits opened z) (sym (at_end n at awaits opened z g y text gap_of e)) (told_end at awaits opened z (unclosed opened) refl (last e))
      at_last g y (b ∷ v) e text gap_of before last rec =
          read g y b v e text gap_of before rec (token limited awaits opened y) refl (subst (λ x. TellsIn (inside opened) awaits (in_hole opened) x (token limited awaits opened x)) (sym e) (tells (inside opened) awaits (in_hole opened) b v))

      go : Parts (inside opened) z → ((at : ℕ) (awaits : Bool) (opened : Open) (z : Bytes) → length z < n → Told at awaits opened z (lex_from limited doc n at awaits opened z)) → Told at awaits opened z (lex_from limited doc (suc n) at awaits opened z)
      go (g, y, text, gap_of, before, last) rec = at_last g y y refl text gap_of before last rec

  -- ---- and what is spelled is read

  outside : (opened : Open) → unclosed opened ≡ None → inside opened ≡ None
  outside [] h = refl
  outside (t ∷ opened) h = go (inside_of t.kind) refl h
    where
      go : (o : Option Inside) → inside_of t.kind ≡ o → unclosed_from o t (unclosed opened) ≡ None → inside_of t.kind ≡ None
      go None e h = e
      go (Some i) e h = cc

  pub lex_full : (ts : List Token) (n at : ℕ) (awaits : Bool) (opened : Open) (z : Bytes) → AreTokens IsOver doc at awaits opened z ts → AllShort ts → length z < n → lex_from limited doc n at awaits opened z ≡ Ok ts
  unfolding and_then
  lex_full ts zero at awaits opened z h short fits = absurd (omega arith)
  lex_full [] (suc n) at awaits opened z (over, last) short fits =
      let gap_of : gap opened z ≡ length z = ap (λ i. gap_in i z) (outside opened over) ∙ last_gap z last in
      at_end n at awaits opened z z [] (sym (append-nil z)) gap_of refl ∙ ap ended over
  lex_full (t ∷ ts) (suc n) at awaits opened z (g, w, rest, k, text, q, is, placed_is, more) short fits =
      let gap_of : gap opened z ≡ length g = ap (gap opened) text ∙ gap_is (inside opened) awaits (in_hole opened) g w rest k q is in
      let s = some (inside opened) awaits (in_hole opened) w rest k is in
      let kinds : t.kind ≡ k = ap (λ (x : Token). x.kind) placed_is in
      let k_short : Short k = λ l. ap is_short (sym kinds) ∙ (and_parts (is_short t.kind) (are_short ts) (short l)).0 in
      let ts_short : AllShort ts = λ l. (and_parts (is_short t.kind) (are_short ts) (short l)).1 in
      let less : length rest < n = (let q1 = ap length text in let q3 = ap length s.2 in omega (arith, q1, q3, length-append g (w ++ rest), length-append w rest, fits)) in
      at_token n at awaits opened z g (w ++ rest) text gap_of w rest k (ap (λ x. is_end (x ++ rest)) s.2) refl (full (inside opened) awaits (in_hole opened) w rest k is k_short)
      ∙ ap (λ r. and_then r (λ ts. Ok (placed k (span_at doc (at + length g) (at + length g + length w)) ∷ ts))) (lex_full ts n (at + length g + length w) (is_command k) (after opened (span_at doc (at + length g) (at + length g + length w)) k) rest more ts_short less)
      ∙ ap (λ x. Ok (x ∷ ts)) (sym placed_is)

  -- ---- for code that reads on

  pub reads_token : (awaits : Bool) (opened : Open) (y : Bytes) (k : Kind) (m : ℕ) → is_end y ≡ false → token limited awaits opened y ≡ Ok (k, m) → (w : Bytes) × (rest : Bytes) × (y ≡ w ++ rest) × (length w ≡ m) × (rest ≡ drop m y) × IsToken awaits opened w rest k
  reads_token awaits opened [] k m some h = cc
  reads_token awaits opened (b ∷ v) k m some h =
      let t = subst (TellsIn (inside opened) awaits (in_hole opened) (b ∷ v)) h (tells (inside opened) awaits (in_hole opened) b v) in
      (t.0, t.1, t.2, t.3, sym (left (b ∷ v) t.0 t.1 m t.2 t.3), t.4)

  pub reads_flaw : (awaits : Bool) (opened : Open) (y : Bytes) (f : Flaw) → is_end y ≡ false → token limited awaits opened y ≡ Err f → IsFlawIn (inside opened) awaits (in_hole opened) y f
  reads_flaw awaits opened [] f some h = cc
  reads_flaw awaits opened (b ∷ v) f some h = subst (TellsIn (inside opened) awaits (in_hole opened) (b ∷ v)) h (tells (inside opened) awaits (in_hole opened) b v)
