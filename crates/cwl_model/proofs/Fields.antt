-- Fields and their pieces: exactly the plain fields have pieces, and text and pieces are each other's reverse.
use Rattle.std.proofs.Common.{◌≡◌, ℕ, zero, suc, Bool, true, false, not, cond, ◌==◌, ◌&&◌, ◌||◌, List, [], ◌∷◌, ◌++◌, length, drop, append_assoc, codes, Option, Some, None, option_map, arith, refl, sym, ap, subst, ◌∙◌}
use Rattle.std.proofs.lemmas.Bool.{false≢true, true≢false, and_parts, and_from, or_parts, eqb-true, not-true, or_from}
use Rattle.std.proofs.lemmas.Bool.Decides.{nat_tests}
use Rattle.std.proofs.Math.Seq.{drop-append_seam}
use Rattle.std.specs.Char.{is_ascii_alphabetic}
use Rattle.std.specs.Option.{is_some}
use Rattle.std.proofs.lemmas.Option.{same_Some}
use Rattle.wdl_base.specs.Names.{is_name, is_word_from}
use Rattle.cwl_model.specs.declared.tool.Piece.{Piece}
use Rattle.cwl_model.specs.declared.tool.Piece.TheVariants as piece
use Rattle.cwl_model.specs.Ids.{behind}
use Rattle.cwl_model.specs.Fields.{FieldsAreRead, reference_body, piece_field, field_text, is_word_char, word_at, past_word, starts, closed_by, reference_of, reference_at, begins_with, is_refused, opens, is_stray, is_plain_field, are_plain, is_empty, is_piece, is_chars, begins_with_chars, are_pieces, piece_at, reference_length, with_char, with_front, pieces_past, pieces_in}
use Rattle.wdl_base.proofs.Options.{map_parts, then_parts, chosen_parts, refused_parts}

-- ---- Booleans and answers that came

-- ---- prefixes and words

pub behind_is : (p s t : List ℕ) → behind p s ≡ Some t → s ≡ p ++ t
behind_is [] s t h = same_Some s t h
behind_is (c ∷ p) [] t h = cc
behind_is (c ∷ p) (d ∷ s) t h =
    let k = chosen_parts (c == d) (behind p s) t h in
    ap (λ x. x ∷ s) (sym (eqb-true c d k.0)) ∙ ap (λ x. c ∷ x) (behind_is p s t k.1)

starts_is : (p s : List ℕ) → starts p s ≡ true → (t : List ℕ) × (s ≡ p ++ t)
starts_is p s h = by_found (behind p s) refl h
  where
    by_found : (o : Option (List ℕ)) → behind p s ≡ o → is_some o ≡ true → (t : List ℕ) × (s ≡ p ++ t)
    by_found None e k = absurd (false≢true k)
    by_found (Some t) e k = (t, behind_is p s t e)

word_and_past : (s : List ℕ) → s ≡ word_at s ++ past_word s
word_and_past [] = refl
word_and_past (c ∷ cs) = by_test (is_word_char c) (word_and_past cs)
  where
    by_test : (b : Bool) → cs ≡ word_at cs ++ past_word cs → c ∷ cs ≡ cond b (c ∷ word_at cs) [] ++ cond b (past_word cs) (c ∷ cs)
    by_test true h = ap (λ x. c ∷ x) h
    by_test false h = refl

-- a word that is followed by something else
word_of : (w : List ℕ) (c : ℕ) (t : List ℕ) → is_word_from w ≡ true → is_word_char c ≡ false → word_at (w ++ c ∷ t) ≡ w
word_of [] c t h k = ap (λ b. cond b (c ∷ word_at t) []) k
word_of (d ∷ w) c t h k =
    let p = and_parts (is_word_char d) (is_word_from w) h in
    ap (λ b. cond b (d ∷ word_at (w ++ c ∷ t)) []) p.0 ∙ ap (λ x. d ∷ x) (word_of w c t p.1 k)

past_of : (w : List ℕ) (c : ℕ) (t : List ℕ) → is_word_from w ≡ true → is_word_char c ≡ false → past_word (w ++ c ∷ t) ≡ c ∷ t
past_of [] c t h k = ap (λ b. cond b (past_word t) (c ∷ t)) k
past_of (d ∷ w) c t h k =
    let p = and_parts (is_word_char d) (is_word_from w) h in
    ap (λ b. cond b (past_word (w ++ c ∷ t)) (d ∷ (w ++ c ∷ t))) p.0 ∙ past_of w c t p.1 k

letter_goes_on : (c : ℕ) → is_ascii_alphabetic c ≡ true → is_word_char c ≡ true
letter_goes_on c h = grind (arith, nat_tests)

pub name_is_word : (name : List ℕ) → is_name name ≡ true → is_word_from name ≡ true
name_is_word [] h = refl
name_is_word (c ∷ cs) h =
    let p = and_parts _ _ (and_parts _ _ h).0 in
    let q = and_parts (is_ascii_alphabetic c) (is_word_from cs) p.1 in
    and_from (is_word_char c) (is_word_from cs) (letter_goes_on c q.0) q.1

-- ---- references

-- a text that begins with a reference, behind the `$`
pub record Begins (s : List ℕ) (p : Piece) : Type 0 where
  pub kind : is_chars p ≡ false
  pub named : is_piece p ≡ true
  pub rest : List ℕ
  pub text : s ≡ reference_body p ++ rest

closed_is : (name r : List ℕ) (p : Piece) (a b : Bool) → starts (codes ")") r ≡ a → starts (codes ".path)") r ≡ b → is_name name ≡ true → closed_by name a b ≡ Some p
    → Begins (codes "(inputs." ++ (name ++ r)) p
closed_is name r p true b e f n h =
    let t = starts_is (codes ")") r e in
    let same : piece.Input name ≡ p = same_Some (piece.Input name) p h in
    subst (Begins (codes "(inputs." ++ (name ++ r))) same (record {
      kind = refl;
      named = n;
      rest = t.0;
      text = ap (λ x. codes "(inputs." ++ (name ++ x)) t.1 ∙ ap (λ x. codes "(inputs." ++ x) (sym (append_assoc name (codes ")") t.0));
    })
closed_is name r p false true e f n h =
    let t = starts_is (codes ".path)") r f in
    let same : piece.InputPath name ≡ p = same_Some (piece.InputPath name) p h in
    subst (Begins (codes "(inputs." ++ (name ++ r))) same (record {
      kind = refl;
      named = n;
      rest = t.0;
      text = ap (λ x. codes "(inputs." ++ (name ++ x)) t.1 ∙ ap (λ x. codes "(inputs." ++ x) (sym (append_assoc name (codes ".path)") t.0));
    })
closed_is name r p false false e f n h = cc

pub reference_is : (s : List ℕ) (p : Piece) → reference_at s ≡ Some p → Begins s p
reference_is s p h =
    let k = then_parts (λ t. reference_of (word_at t) (past_word t)) (behind (codes "(inputs.") s) p h in
    let w = word_at k.0 in
    let r = past_word k.0 in
    let c = chosen_parts (is_name w) (closed_by w (starts (codes ")") r) (starts (codes ".path)") r)) p k.2 in
    let is : s ≡ codes "(inputs." ++ (w ++ r) = behind_is (codes "(inputs.") s k.0 k.1 ∙ ap (λ x. codes "(inputs." ++ x) (word_and_past k.0) in
    subst (λ x. Begins x p) (sym is) (closed_is w r p (starts (codes ")") r) (starts (codes ".path)") r) refl refl c.0 c.1)

named_reference : (name r : List ℕ) (c : ℕ) → is_name name ≡ true → is_word_char c ≡ false
    → reference_at (codes "(inputs." ++ (name ++ c ∷ r)) ≡ closed_by name (starts (codes ")") (c ∷ r)) (starts (codes ".path)") (c ∷ r))
named_reference name r c n k =
    let w = name_is_word name n in
    ap (λ x. reference_of x (past_word (name ++ c ∷ r))) (word_of name c r w k)
    ∙ ap (λ x. reference_of name x) (past_of name c r w k)
    ∙ ap (λ b. cond b (closed_by name (starts (codes ")") (c ∷ r)) (starts (codes ".path)") (c ∷ r))) None) n

pub reference_found : (p : Piece) (t : List ℕ) → is_chars p ≡ false → is_piece p ≡ true → reference_at (reference_body p ++ t) ≡ Some p
reference_found (piece.Chars s) t k n = absurd (true≢false k)
reference_found (piece.Input name) t k n =
    ap (λ x. reference_at (codes "(inputs." ++ x)) (append_assoc name (codes ")") t) ∙ named_reference name t 41 n refl
reference_found (piece.InputPath name) t k n =
    ap (λ x. reference_at (codes "(inputs." ++ x)) (append_assoc name (codes ".path)") t) ∙ named_reference name (codes "path)" ++ t) 46 n refl

pub reference_text : (p : Piece) → is_chars p ≡ false → piece_field p ≡ 36 ∷ reference_body p
reference_text (piece.Chars s) h = absurd (true≢false h)
reference_text (piece.Input name) h = refl
reference_text (piece.InputPath name) h = refl

-- ---- characters that begin nothing

abbrev is_quiet : ℕ → Bool
is_quiet c = not (c == 0 || c == 92 || c == 36)

abbrev are_quiet : List ℕ → Bool
are_quiet [] = true
are_quiet (c ∷ cs) = is_quiet c && are_quiet cs

quiet_append : (a b : List ℕ) → are_quiet a ≡ true → are_quiet b ≡ true → are_quiet (a ++ b) ≡ true
quiet_append [] b h k = k
quiet_append (c ∷ a) b h k = let p = and_parts (is_quiet c) (are_quiet a) h in and_from (is_quiet c) (are_quiet (a ++ b)) p.0 (quiet_append a b p.1 k)

word_quiet : (c : ℕ) → is_word_char c ≡ true → is_quiet c ≡ true
word_quiet c h = grind (arith, nat_tests)

words_quiet : (w : List ℕ) → is_word_from w ≡ true → are_quiet w ≡ true
words_quiet [] h = refl
words_quiet (c ∷ w) h = let p = and_parts (is_word_char c) (is_word_from w) h in and_from (is_quiet c) (are_quiet w) (word_quiet c p.0) (words_quiet w p.1)

body_quiet : (p : Piece) → is_chars p ≡ false → is_piece p ≡ true → are_quiet (reference_body p) ≡ true
body_quiet (piece.Chars s) k n = refl
body_quiet (piece.Input name) k n = quiet_append name (codes ")") (words_quiet name (name_is_word name n)) refl
body_quiet (piece.InputPath name) k n = quiet_append name (codes ".path)") (words_quiet name (name_is_word name n)) refl

quiet_parts : (a b c : Bool) → not (a || b || c) ≡ true → (a ≡ false) × (b ≡ false) × (c ≡ false)
quiet_parts a b c h = let p = or_parts (a || b) c (not-true (a || b || c) h) in let q = or_parts a b p.0 in (q.0, q.1, p.1)

quiet_front : (c : ℕ) (cs : List ℕ) → is_quiet c ≡ true → is_stray c cs ≡ false
quiet_front c cs h =
    let q = quiet_parts (c == 0) (c == 92) (c == 36) h in
    ap (λ a. (a || c == 92 || (c == 36 && begins_with 123 cs)) || (opens c cs && not (is_some (reference_at cs)))) q.0
    ∙ ap (λ a. (a || (c == 36 && begins_with 123 cs)) || (opens c cs && not (is_some (reference_at cs)))) q.1
    ∙ ap (λ a. (a && begins_with 123 cs) || ((a && begins_with 40 cs) && not (is_some (reference_at cs)))) q.2

quiet_field : (q t : List ℕ) → are_quiet q ≡ true → is_plain_field (q ++ t) ≡ is_plain_field t
quiet_field [] t h = refl
quiet_field (c ∷ q) t h =
    let p = and_parts (is_quiet c) (are_quiet q) h in
    ap (λ b. not b && is_plain_field (q ++ t)) (quiet_front c (q ++ t) p.0) ∙ quiet_field q t p.1

-- ---- the front of a field

-- what is no stray character is a reference, or stands for itself
record Front (c : ℕ) (cs : List ℕ) (o : Option Piece) : Type 0 where
  pub calm : is_refused c cs ≡ false
  pub found : o ≡ piece_at c cs
  pub stays : o ≡ None → opens c cs ≡ false

front_of : (c : ℕ) (cs : List ℕ) → is_stray c cs ≡ false → Front c cs (piece_at c cs)
front_of c cs h =
    let p = or_parts (is_refused c cs) (opens c cs && not (is_some (reference_at cs))) h in
    record { calm = p.0; found = refl; stays = by_test (opens c cs) (reference_at cs) p.1 }
  where
    by_test : (a : Bool) (r : Option Piece) → a && not (is_some r) ≡ false → cond a r None ≡ None → a ≡ false
    by_test false r k e = refl
    by_test true None k e = absurd (true≢false k)
    by_test true (Some p) k e = cc

-- the reference at the front
front_reference : (c : ℕ) (cs : List ℕ) (p : Piece) → piece_at c cs ≡ Some p → (c ≡ 36) × Begins cs p
front_reference c cs p h =
    let k = chosen_parts (opens c cs) (reference_at cs) p h in
    (eqb-true c 36 (and_parts (c == 36) (begins_with 40 cs) k.0).0, reference_is cs p k.1)

-- fewer characters begin no more
refused_front : (c : ℕ) (s t : List ℕ) → is_refused c (s ++ t) ≡ false → is_refused c s ≡ false
refused_front c [] t h = let p = or_parts (c == 0 || c == 92) (c == 36 && begins_with 123 t) h in or_from (c == 0 || c == 92) (c == 36 && false) p.0 (by_test (c == 36))
  where
    by_test : (b : Bool) → b && false ≡ false
    by_test true = refl
    by_test false = refl
refused_front c (d ∷ s) t h = h

opens_front : (c : ℕ) (s t : List ℕ) → opens c (s ++ t) ≡ false → opens c s ≡ false
opens_front c [] t h = by_test (c == 36)
  where
    by_test : (b : Bool) → b && false ≡ false
    by_test true = refl
    by_test false = refl
opens_front c (d ∷ s) t h = h

-- ---- the pieces that are found are joined, and have the text

abbrev Read : List Piece → List ℕ → Type 0
Read ps s = (are_pieces ps ≡ true) × (field_text ps ≡ s)

one_plain : (c : ℕ) (s : List ℕ) → is_refused c s ≡ false → opens c s ≡ false → are_plain s ≡ true → are_plain (c ∷ s) ≡ true
one_plain c s h k p = ap (λ b. not b && not (opens c s) && are_plain s) h ∙ ap (λ b. not b && are_plain s) k ∙ p

char_read : (c : ℕ) (cs : List ℕ) (qs : List Piece) → is_refused c cs ≡ false → opens c cs ≡ false → Read qs cs → Read (with_char c qs) (c ∷ cs)
char_read c cs [] h k r =
    let calm = refused_front c [] cs h in
    let shut = opens_front c [] cs k in
    (ap (λ b. b && true && true) (one_plain c [] calm shut refl), ap (λ x. c ∷ x) r.1)
char_read c cs (piece.Chars s ∷ qs) h k r =
    let is = r.1 in
    let calm = refused_front c s (field_text qs) (ap (is_refused c) is ∙ h) in
    let shut = opens_front c s (field_text qs) (ap (opens c) is ∙ k) in
    let p = and_parts (is_piece (piece.Chars s) && not (begins_with_chars qs)) (are_pieces qs) r.0 in
    let q = and_parts (is_piece (piece.Chars s)) (not (begins_with_chars qs)) p.0 in
    let plain = (and_parts (not (is_empty s)) (are_plain s) q.0).1 in
    (and_from (are_plain (c ∷ s) && not (begins_with_chars qs)) (are_pieces qs) (and_from (are_plain (c ∷ s)) (not (begins_with_chars qs)) (one_plain c s calm shut plain) q.1) p.1, ap (λ x. c ∷ x) is)
char_read c cs (piece.Input name ∷ qs) h k r =
    let calm = refused_front c [] cs h in
    let shut = opens_front c [] cs k in
    (ap (λ b. b && true && are_pieces (piece.Input name ∷ qs)) (one_plain c [] calm shut refl) ∙ r.0, ap (λ x. c ∷ x) r.1)
char_read c cs (piece.InputPath name ∷ qs) h k r =
    let calm = refused_front c [] cs h in
    let shut = opens_front c [] cs k in
    (ap (λ b. b && true && are_pieces (piece.InputPath name ∷ qs)) (one_plain c [] calm shut refl) ∙ r.0, ap (λ x. c ∷ x) r.1)

pub reference_joins : (p : Piece) (qs : List Piece) → is_chars p ≡ false → is_piece p ≡ true → are_pieces qs ≡ true → are_pieces (p ∷ qs) ≡ true
reference_joins p qs k n h =
    ap (λ b. b && not (is_chars p && begins_with_chars qs) && are_pieces qs) n
    ∙ ap (λ b. not (b && begins_with_chars qs) && are_pieces qs) k
    ∙ h

front_read : (c : ℕ) (cs : List ℕ) (o : Option Piece) (qs : List Piece) → Front c cs o → are_pieces qs ≡ true → field_text qs ≡ drop (reference_length o) cs → Read (with_front c o qs) (c ∷ cs)
front_read c cs None qs f h is = char_read c cs qs f.calm (f.stays refl) (h, is)
front_read c cs (Some p) qs f h is =
    let r = front_reference c cs p (sym f.found) in
    let b = r.1 in
    let rest : field_text qs ≡ b.rest = is ∙ ap (drop (length (reference_body p))) b.text ∙ drop-append_seam (reference_body p) b.rest in (
      reference_joins p qs b.kind b.named h,
      ap (λ x. x ++ field_text qs) (reference_text p b.kind)
          ∙ ap (λ x. 36 ∷ (reference_body p ++ x)) rest
          ∙ ap (λ x. 36 ∷ x) (sym b.text)
          ∙ ap (λ x. x ∷ cs) (sym r.0),
    )

read_past : (s : List ℕ) (n : ℕ) (ps : List Piece) → pieces_past s n ≡ Some ps → Read ps (drop n s)
read_past [] zero ps h = subst (λ x. Read x []) (same_Some [] ps h) (refl, refl)
read_past [] (suc n) ps h = subst (λ x. Read x []) (same_Some [] ps h) (refl, refl)
read_past (c ∷ cs) (suc n) ps h = read_past cs n ps h
read_past (c ∷ cs) zero ps h =
    let p = refused_parts (is_stray c cs) (option_map (with_front c (piece_at c cs)) (pieces_past cs (reference_length (piece_at c cs)))) ps h in
    let q = map_parts (with_front c (piece_at c cs)) (pieces_past cs (reference_length (piece_at c cs))) ps p.1 in
    let r = read_past cs (reference_length (piece_at c cs)) q.0 q.1 in
    subst (λ x. Read x (c ∷ cs)) q.2 (front_read c cs (piece_at c cs) q.0 (front_of c cs p.0) r.0 r.1)

-- ---- pieces that are joined are found again

abbrev with_chars : List ℕ → List Piece → List Piece
with_chars [] ps = ps
with_chars (c ∷ s) ps = with_char c (with_chars s ps)

joined_chars : (c : ℕ) (s : List ℕ) (ps : List Piece) → begins_with_chars ps ≡ false → with_chars (c ∷ s) ps ≡ piece.Chars (c ∷ s) ∷ ps
joined_chars c [] [] h = refl
joined_chars c [] (piece.Chars t ∷ ps) h = absurd (true≢false h)
joined_chars c [] (piece.Input name ∷ ps) h = refl
joined_chars c [] (piece.InputPath name ∷ ps) h = refl
joined_chars c (d ∷ s) ps h = ap (with_char c) (joined_chars d s ps h)

-- a text that goes on with neither `{` nor `(`
record Calm (t : List ℕ) : Type 0 where
  pub brace : begins_with 123 t ≡ false
  pub opening : begins_with 40 t ≡ false

calm_text : (ps : List Piece) → begins_with_chars ps ≡ false → Calm (field_text ps)
calm_text [] h = record { brace = refl; opening = refl }
calm_text (piece.Chars s ∷ ps) h = absurd (true≢false h)
calm_text (piece.Input name ∷ ps) h = record { brace = refl; opening = refl }
calm_text (piece.InputPath name ∷ ps) h = record { brace = refl; opening = refl }

begins_calm : (x : ℕ) (s t : List ℕ) → begins_with x t ≡ false → begins_with x (s ++ t) ≡ begins_with x s
begins_calm x [] t h = h
begins_calm x (d ∷ s) t h = refl

chars_found : (s t : List ℕ) (ps : List Piece) → are_plain s ≡ true → Calm t → pieces_past t 0 ≡ Some ps → pieces_past (s ++ t) 0 ≡ Some (with_chars s ps)
chars_found [] t ps h calm k = k
chars_found (c ∷ s) t ps h calm k =
    let p = and_parts (not (is_refused c s) && not (opens c s)) (are_plain s) h in
    let q = and_parts (not (is_refused c s)) (not (opens c s)) p.0 in
    let refused_same : is_refused c (s ++ t) ≡ false = ap (λ b. c == 0 || c == 92 || (c == 36 && b)) (begins_calm 123 s t calm.brace) ∙ not-true (is_refused c s) q.0 in
    let opens_same : opens c (s ++ t) ≡ false = ap (λ b. c == 36 && b) (begins_calm 40 s t calm.opening) ∙ not-true (opens c s) q.1 in
    let stray : is_stray c (s ++ t) ≡ false = ap (λ b. b || (opens c (s ++ t) && not (is_some (reference_at (s ++ t))))) refused_same ∙ ap (λ b. b && not (is_some (reference_at (s ++ t)))) opens_same in
    let none : piece_at c (s ++ t) ≡ None = ap (λ b. cond b (reference_at (s ++ t)) None) opens_same in
    ap (λ b. cond b None (option_map (with_front c (piece_at c (s ++ t))) (pieces_past (s ++ t) (reference_length (piece_at c (s ++ t)))))) stray
    ∙ ap (λ o. option_map (with_front c o) (pieces_past (s ++ t) (reference_length o))) none
    ∙ ap (option_map (with_char c)) (chars_found s t ps p.1 calm k)

past_front : (xs t : List ℕ) → pieces_past (xs ++ t) (length xs) ≡ pieces_past t 0
past_front [] t = refl
past_front (x ∷ xs) t = past_front xs t

front_found : (p : Piece) (t : List ℕ) → is_chars p ≡ false → is_piece p ≡ true → begins_with 123 (reference_body p ++ t) ≡ false → begins_with 40 (reference_body p ++ t) ≡ true
    → pieces_past (piece_field p ++ t) 0 ≡ option_map (λ ps. p ∷ ps) (pieces_past t 0)
front_found p t k n brace opening =
    let s = reference_body p ++ t in
    let found : reference_at s ≡ Some p = reference_found p t k n in
    let stray : is_stray 36 s ≡ false = ap (λ b. b || (begins_with 40 s && not (is_some (reference_at s)))) brace ∙ ap (λ b. b && not (is_some (reference_at s))) opening ∙ ap (λ o. not (is_some o)) found in
    let here : piece_at 36 s ≡ Some p = ap (λ b. cond b (reference_at s) None) opening ∙ found in
    ap (λ x. pieces_past (x ++ t) 0) (reference_text p k)
    ∙ ap (λ b. cond b None (option_map (with_front 36 (piece_at 36 s)) (pieces_past s (reference_length (piece_at 36 s))))) stray
    ∙ ap (λ o. option_map (with_front 36 o) (pieces_past s (reference_length o))) here
    ∙ ap (option_map (λ ps. p ∷ ps)) (past_front (reference_body p) t)

pieces_found : (ps : List Piece) → are_pieces ps ≡ true → pieces_in (field_text ps) ≡ Some ps
pieces_found [] h = refl
pieces_found (piece.Chars [] ∷ ps) h = absurd (false≢true h)
pieces_found (piece.Chars (c ∷ s) ∷ ps) h =
    let p = and_parts (are_plain (c ∷ s) && not (begins_with_chars ps)) (are_pieces ps) h in
    let q = and_parts (are_plain (c ∷ s)) (not (begins_with_chars ps)) p.0 in
    let apart = not-true (begins_with_chars ps) q.1 in
    chars_found (c ∷ s) (field_text ps) ps q.0 (calm_text ps apart) (pieces_found ps p.1) ∙ ap Some (joined_chars c s ps apart)
pieces_found (piece.Input name ∷ ps) h =
    let p = and_parts (is_name name && true) (are_pieces ps) h in
    front_found (piece.Input name) (field_text ps) refl (and_parts (is_name name) true p.0).0 refl refl ∙ ap (option_map (λ qs. piece.Input name ∷ qs)) (pieces_found ps p.1)
pieces_found (piece.InputPath name ∷ ps) h =
    let p = and_parts (is_name name && true) (are_pieces ps) h in
    front_found (piece.InputPath name) (field_text ps) refl (and_parts (is_name name) true p.0).0 refl refl ∙ ap (option_map (λ qs. piece.InputPath name ∷ qs)) (pieces_found ps p.1)

-- ---- exactly the plain fields have pieces

is_some-map : {A B : Type 0} (f : A → B) (o : Option A) → is_some (option_map f o) ≡ is_some o
is_some-map f None = refl
is_some-map f (Some a) = refl

past_plain : (c : ℕ) (cs : List ℕ) (o : Option Piece) → piece_at c cs ≡ o → is_plain_field cs ≡ is_plain_field (drop (reference_length o) cs)
past_plain c cs None h = refl
past_plain c cs (Some p) h =
    let b = (front_reference c cs p h).1 in
    ap is_plain_field b.text
    ∙ quiet_field (reference_body p) b.rest (body_quiet p b.kind b.named)
    ∙ ap is_plain_field (sym (ap (drop (length (reference_body p))) b.text ∙ drop-append_seam (reference_body p) b.rest))

plain_past : (s : List ℕ) (n : ℕ) → is_plain_field (drop n s) ≡ is_some (pieces_past s n)
plain_past [] zero = refl
plain_past [] (suc n) = refl
plain_past (c ∷ cs) (suc n) = plain_past cs n
plain_past (c ∷ cs) zero =
    let o = piece_at c cs in
    by_test (is_stray c cs)
    (past_plain c cs o refl ∙ plain_past cs (reference_length o) ∙ sym (is_some-map (with_front c o) (pieces_past cs (reference_length o))))
  where
    by_test : (b : Bool) → is_plain_field cs ≡ is_some (option_map (with_front c (piece_at c cs)) (pieces_past cs (reference_length (piece_at c cs))))
        → not b && is_plain_field cs ≡ is_some (cond b None (option_map (with_front c (piece_at c cs)) (pieces_past cs (reference_length (piece_at c cs)))))
    by_test true h = refl
    by_test false h = h

pub fields_read : FieldsAreRead
fields_read = record { plain = λ s. plain_past s 0; text = λ s ps h. read_past s 0 ps h; pieces = pieces_found }
