-- Fields that are read and written piece by piece.
use Rattle.std.proofs.Common.{◌≡◌, ◌≢◌, ℕ, suc, ◌<◌, Bool, true, false, not, ◌==◌, ◌&&◌, ◌||◌, List, [], ◌∷◌, ◌++◌, length, drop, get_or, append_assoc, append-nil, codes, Option, Some, None, Err, arith, refl, sym, ap, ◌∙◌}
use Rattle.std.proofs.lemmas.Bool.{false≢true, true≢false, and_parts, and_from, or_parts, eqb-true, eq-eqb, not-true, or_from}
use Rattle.std.proofs.lemmas.Bool.Decides.{nat_tests}
use Rattle.std.proofs.lemmas.List.{append_cancel_right, append_cancel_left, length-append}
use Rattle.std.proofs.Math.Seq.{get_or-append_seam}
use Rattle.std.specs.Option.{is_some}
use Rattle.std.specs.Str.Pattern.{FindsTextSuffix, StripsSuffix}
use Rattle.wdl_base.specs.Names.{is_name, is_word_from}
use Rattle.wdl_base.specs.Plain.{has_nul}
use Rattle.library_calls.specs.declared.fields.FieldFault.{FieldFault}
use Rattle.library_calls.specs.declared.fields.FieldFault.TheVariants.{NotPlain, NoMemory as OutOfMemory}
use Rattle.cwl_model.specs.declared.tool.Piece.{Piece}
use Rattle.cwl_model.specs.declared.tool.Piece.TheVariants as piece
use Rattle.cwl_model.specs.Fields.{reference_body, piece_field, field_text, is_word_char, reference_at, begins_with, is_refused, opens, is_stray, is_plain_field, are_plain, is_piece, is_chars, are_pieces}
use Rattle.library_calls.specs.Fields.{holds_refused, chars_piece, NameReads, IsReference, ReferenceReads, PiecesRead}
use Rattle.cwl_model.proofs.Fields.{name_is_word, Begins, reference_is, reference_text, reference_joins}

-- ---- what std's search says

pub suffix_is : (p s x : List ℕ) → StripsSuffix (FindsTextSuffix p) s x → s ≡ x ++ p
suffix_is p s x h = h.1.1 ∙ ap (λ y. y ++ p) (sym h.2)

-- ---- one reference

name_has_no_dot : (x y : List ℕ) → is_name (x ++ 46 ∷ y) ≡ true → ⊥
name_has_no_dot x y h = no_word x (name_is_word (x ++ 46 ∷ y) h)
  where
    no_word : (w : List ℕ) → is_word_from (w ++ 46 ∷ y) ≡ true → ⊥
    no_word [] k = false≢true k
    no_word (c ∷ w) k = no_word w (and_parts (is_word_char c) (is_word_from (w ++ 46 ∷ y)) k).1

-- what stands between the parentheses of a reference
word_inside : (word name end : List ℕ) → 36 ∷ (codes "(inputs." ++ (name ++ (end ++ 41 ∷ []))) ≡ 36 ∷ 40 ∷ (word ++ 41 ∷ []) → word ≡ codes "inputs." ++ (name ++ end)
word_inside word name end h =
    append_cancel_right word (codes "inputs." ++ (name ++ end)) (41 ∷ []) (sym (ap (drop 2) h) ∙ ap (λ x. codes "inputs." ++ x) (sym (append_assoc name end (41 ∷ []))))

input_word : (word name : List ℕ) → IsReference word (piece.Input name) → word ≡ codes "inputs." ++ name
input_word word name is = word_inside word name [] is.text ∙ ap (λ x. codes "inputs." ++ x) (append-nil name)

path_word : (word name : List ℕ) → IsReference word (piece.InputPath name) → word ≡ codes "inputs." ++ (name ++ codes ".path")
path_word word name is = word_inside word name (codes ".path") is.text

pub no_inputs : (word : List ℕ) → ((rest : List ℕ) → word ≢ codes "inputs." ++ rest) → (p : Piece) → IsReference word p → ⊥
no_inputs word never (piece.Chars s) is = true≢false is.kind
no_inputs word never (piece.Input name) is = never name (input_word word name is)
no_inputs word never (piece.InputPath name) is = never (name ++ codes ".path") (path_word word name is)

-- a path's name that is none
pub no_path : (word path name : List ℕ) → word ≡ codes "inputs." ++ path → path ≡ name ++ codes ".path" → is_name name ≡ false → (p : Piece) → IsReference word p → ⊥
no_path word path name at end never (piece.Chars s) is = true≢false is.kind
no_path word path name at end never (piece.Input other) is =
    let same : other ≡ name ++ codes ".path" = append_cancel_left (codes "inputs.") other path (sym (input_word word other is) ∙ at) ∙ end in
    name_has_no_dot name (codes "path") (sym (ap is_name same) ∙ is.named)
no_path word path name at end never (piece.InputPath other) is =
    let same : other ++ codes ".path" ≡ name ++ codes ".path" = append_cancel_left (codes "inputs.") (other ++ codes ".path") path (sym (path_word word other is) ∙ at) ∙ end in
    true≢false (sym is.named ∙ ap is_name (append_cancel_right other name (codes ".path") same) ∙ never)

-- an input's name that is none
pub no_input : (word path : List ℕ) → word ≡ codes "inputs." ++ path → ((front : List ℕ) → path ≢ front ++ codes ".path") → is_name path ≡ false → (p : Piece) → IsReference word p → ⊥
no_input word path at plain never (piece.Chars s) is = true≢false is.kind
no_input word path at plain never (piece.Input other) is =
    true≢false (sym is.named ∙ ap is_name (append_cancel_left (codes "inputs.") other path (sym (input_word word other is) ∙ at)) ∙ never)
no_input word path at plain never (piece.InputPath other) is =
    plain other (sym (append_cancel_left (codes "inputs.") (other ++ codes ".path") path (sym (path_word word other is) ∙ at)))

pub name_fault : (word s : List ℕ) (e : FieldFault) → NameReads s (Err e) → (is_name s ≡ false → (p : Piece) → IsReference word p → ⊥) → ReferenceReads word (Err e)
name_fault word s NotPlain h none = none h
name_fault word s OutOfMemory h none = tt

-- ---- characters

pub refused_plain : (s : List ℕ) → holds_refused s ≡ false → has_nul s ≡ false
refused_plain [] h = refl
refused_plain (c ∷ cs) h =
    let p = or_parts (is_refused c cs) (holds_refused cs) h in
    let q = or_parts (c == 0 || c == 92) (c == 36 && begins_with 123 cs) p.0 in
    or_from (c == 0) (has_nul cs) (or_parts (c == 0) (c == 92) q.0).0 (refused_plain cs p.1)

-- what begins with a stray character, or has one later on, is no plain field
pub later_stray : (a t : List ℕ) → is_plain_field t ≡ false → is_plain_field (a ++ t) ≡ false
later_stray [] t h = h
later_stray (c ∷ a) t h = ap (λ b. not (is_stray c (a ++ t)) && b) (later_stray a t h) ∙ by_test (not (is_stray c (a ++ t)))
  where
    by_test : (b : Bool) → b && false ≡ false
    by_test true = refl
    by_test false = refl

refused_more : (c : ℕ) (s t : List ℕ) → is_refused c s ≡ true → is_refused c (s ++ t) ≡ true
refused_more c [] t h = by_tests (c == 0 || c == 92) (c == 36) h
  where
    by_tests : (a b : Bool) → a || (b && false) ≡ true → a || (b && begins_with 123 t) ≡ true
    by_tests true b k = refl
    by_tests false true k = absurd (false≢true k)
    by_tests false false k = absurd (false≢true k)
refused_more c (d ∷ s) t h = h

pub refused_stray : (s t : List ℕ) → holds_refused s ≡ true → is_plain_field (s ++ t) ≡ false
refused_stray [] t h = absurd (false≢true h)
refused_stray (c ∷ s) t h = by_test (is_refused c s) refl h (refused_stray s t)
  where
    by_test : (b : Bool) → is_refused c s ≡ b → b || holds_refused s ≡ true → (holds_refused s ≡ true → is_plain_field (s ++ t) ≡ false) → is_plain_field (c ∷ (s ++ t)) ≡ false
    by_test true e k more = ap (λ b. not (b || (opens c (s ++ t) && not (is_some (reference_at (s ++ t))))) && is_plain_field (s ++ t)) (refused_more c s t e)
    by_test false e k more = later_stray (c ∷ []) (s ++ t) (more k)

-- no `$(` begins in these characters
pub plain_chars : (s t : List ℕ) → ((k : ℕ) → k < length s → (r : List ℕ) → drop k (s ++ t) ≢ 36 ∷ 40 ∷ r) → holds_refused s ≡ false → are_plain s ≡ true
plain_chars [] t never h = refl
plain_chars (c ∷ s) t never h =
    let p = or_parts (is_refused c s) (holds_refused s) h in
    and_from (not (is_refused c s) && not (opens c s)) (are_plain s)
    (and_from (not (is_refused c s)) (not (opens c s)) (ap not p.0) (ap not (shut s (opens c s) refl (never 0 (omega arith)))))
    (plain_chars s t (λ k l r. never (suc k) (omega arith) r) p.1)
  where
    shut : (w : List ℕ) (b : Bool) → opens c w ≡ b → ((r : List ℕ) → c ∷ (w ++ t) ≢ 36 ∷ 40 ∷ r) → b ≡ false
    shut w false e none = refl
    shut [] true e none = absurd (false≢true (and_parts (c == 36) false e).1)
    shut (d ∷ w) true e none =
        let q = and_parts (c == 36) (d == 40) e in
        absurd (none (w ++ t) (ap (λ x. x ∷ d ∷ (w ++ t)) (eqb-true c 36 q.0) ∙ ap (λ x. 36 ∷ x ∷ (w ++ t)) (eqb-true d 40 q.1)))

-- ---- closing parentheses

abbrev pub lacks : ℕ → List ℕ → Bool
lacks c [] = true
lacks c (d ∷ ds) = not (d == c) && lacks c ds

pub lacks_of : (c : ℕ) (s : List ℕ) → ((i : ℕ) → i < length s → get_or s i 0 ≢ c) → lacks c s ≡ true
lacks_of c [] h = refl
lacks_of c (d ∷ ds) h = and_from (not (d == c)) (lacks c ds) (other (d == c) refl) (lacks_of c ds (λ i l. h (suc i) (omega arith)))
  where
    other : (b : Bool) → (d == c) ≡ b → not b ≡ true
    other true e = absurd (h 0 (omega arith) (eqb-true d c e))
    other false e = refl

lacks_append : (c : ℕ) (a b : List ℕ) → lacks c a ≡ true → lacks c b ≡ true → lacks c (a ++ b) ≡ true
lacks_append c [] b h k = k
lacks_append c (d ∷ a) b h k = let p = and_parts (not (d == c)) (lacks c a) h in and_from (not (d == c)) (lacks c (a ++ b)) p.0 (lacks_append c a b p.1 k)

word_char_open : (c : ℕ) → is_word_char c ≡ true → not (c == 41) ≡ true
word_char_open c h = grind (arith, nat_tests)

word_open : (w : List ℕ) → is_word_from w ≡ true → lacks 41 w ≡ true
word_open [] h = refl
word_open (c ∷ w) h = let p = and_parts (is_word_char c) (is_word_from w) h in and_from (not (c == 41)) (lacks 41 w) (word_char_open c p.0) (word_open w p.1)

-- what stands before the first such character
first_same : (c : ℕ) (a b s t : List ℕ) → lacks c a ≡ true → lacks c b ≡ true → a ++ c ∷ s ≡ b ++ c ∷ t → a ≡ b
first_same c [] [] s t h k e = refl
first_same c [] (y ∷ b) s t h k e = absurd (differs y (and_parts (not (y == c)) (lacks c b) k).0 (sym (ap (λ l. get_or l 0 0) e)))
  where
    differs : (y : ℕ) → not (y == c) ≡ true → y ≡ c → ⊥
    differs y n same = true≢false (sym (eq-eqb y c same) ∙ not-true (y == c) n)
first_same c (x ∷ a) [] s t h k e = absurd (differs x (and_parts (not (x == c)) (lacks c a) h).0 (ap (λ l. get_or l 0 0) e))
  where
    differs : (y : ℕ) → not (y == c) ≡ true → y ≡ c → ⊥
    differs y n same = true≢false (sym (eq-eqb y c same) ∙ not-true (y == c) n)
first_same c (x ∷ a) (y ∷ b) s t h k e =
    let p = and_parts (not (x == c)) (lacks c a) h in
    let q = and_parts (not (y == c)) (lacks c b) k in
    ap (λ z. z ∷ a) (ap (λ l. get_or l 0 0) e) ∙ ap (λ z. y ∷ z) (first_same c a b s t p.1 q.1 (ap (drop 1) e))

record Closes (p : Piece) : Type 0 where
  pub word : List ℕ
  pub body : reference_body p ≡ 40 ∷ (word ++ 41 ∷ [])
  pub free : lacks 41 word ≡ true

closes : (p : Piece) → is_chars p ≡ false → is_piece p ≡ true → Closes p
closes (piece.Chars s) k n = absurd (true≢false k)
closes (piece.Input name) k n = record { word = codes "inputs." ++ name; body = refl; free = word_open name (name_is_word name n) }
closes (piece.InputPath name) k n = record {
  word = codes "inputs." ++ (name ++ codes ".path");
  body = ap (λ x. codes "(inputs." ++ x) (sym (append_assoc name (codes ".path") (41 ∷ [])));
  free = lacks_append 41 name (codes ".path") (word_open name (name_is_word name n)) refl;
}

-- the front of a text that a reference begins
cut : (more : List ℕ) (p : Piece) → reference_at (40 ∷ more) ≡ Some p → (c : Closes p) × (b : Begins (40 ∷ more) p) × (more ≡ c.word ++ 41 ∷ b.rest)
cut more p h =
    let b = reference_is (40 ∷ more) p h in
    let c = closes p b.kind b.named in
    (c, b, ap (drop 1) (b.text ∙ ap (λ x. x ++ b.rest) c.body) ∙ append_assoc c.word (41 ∷ []) b.rest)

pub unclosed : (more : List ℕ) → ((i : ℕ) → i < length more → get_or more i 0 ≢ 41) → (p : Piece) → reference_at (40 ∷ more) ≡ Some p → ⊥
unclosed more never p h =
    let k = cut more p h in
    let w = k.0.word in
    never (length w) (omega (arith, ap length k.2, length-append w (41 ∷ k.1.rest))) (ap (λ l. get_or l (length w) 0) k.2 ∙ get_or-append_seam w 41 k.1.rest 0)

pub no_reference : (more word behind : List ℕ) → more ≡ word ++ 41 ∷ behind → lacks 41 word ≡ true → ((p : Piece) → IsReference word p → ⊥) → (p : Piece) → reference_at (40 ∷ more) ≡ Some p → ⊥
no_reference more word behind at free none p h =
    let k = cut more p h in
    let same : k.0.word ≡ word = first_same 41 k.0.word word k.1.rest behind k.0.free free (sym k.2 ∙ at) in
    none p (record {
      kind = k.1.kind;
      named = k.1.named;
      text = reference_text p k.1.kind ∙ ap (λ x. 36 ∷ x) k.0.body ∙ ap (λ x. 36 ∷ 40 ∷ (x ++ 41 ∷ [])) same;
    })

pub opens_stray : (more : List ℕ) → ((p : Piece) → reference_at (40 ∷ more) ≡ Some p → ⊥) → is_plain_field (36 ∷ 40 ∷ more) ≡ false
opens_stray more none = by_found (reference_at (40 ∷ more)) refl
  where
    by_found : (o : Option Piece) → reference_at (40 ∷ more) ≡ o → not (not (is_some o)) && is_plain_field (40 ∷ more) ≡ false
    by_found None e = refl
    by_found (Some p) e = absurd (none p e)

-- ---- the whole field

pub field_fault : (field : List ℕ) (e : FieldFault) → (e ≡ NotPlain → is_plain_field field ≡ false) → PiecesRead field (Err e)
field_fault field NotPlain h = h refl
field_fault field OutOfMemory h = tt

pub stray_at : (field text rest chars more : List ℕ) → text ++ rest ≡ field → rest ≡ chars ++ (codes "$(" ++ more) → is_plain_field (36 ∷ 40 ∷ more) ≡ false → is_plain_field field ≡ false
stray_at field text rest chars more is at h = ap is_plain_field (sym is) ∙ later_stray text rest (ap is_plain_field at ∙ later_stray chars (36 ∷ 40 ∷ more) h)

pub refused_at : (field text rest chars t : List ℕ) → text ++ rest ≡ field → rest ≡ chars ++ t → holds_refused chars ≡ true → is_plain_field field ≡ false
refused_at field text rest chars t is at h = ap is_plain_field (sym is) ∙ later_stray text rest (ap is_plain_field at ∙ refused_stray chars t h)

-- whether the last piece is characters; so it is before the first piece, if it says so
abbrev pub ends_open : Bool → List Piece → Bool
ends_open b [] = b
ends_open b (p ∷ ps) = ends_open (is_chars p) ps

joined : (b : Bool) (ps qs : List Piece) → are_pieces ps ≡ true → ends_open b ps ≡ false → are_pieces qs ≡ true → are_pieces (ps ++ qs) ≡ true
joined b [] qs h k m = m
joined b (p ∷ []) qs h k m = reference_joins p qs k (and_parts (is_piece p) (not (is_chars p && false)) (and_parts (is_piece p && not (is_chars p && false)) true h).0).0 m
joined b (p ∷ q ∷ ps) qs h k m =
    let front = is_piece p && not (is_chars p && is_chars q) in
    let g = and_parts front (are_pieces (q ∷ ps)) h in
    and_from front (are_pieces ((q ∷ ps) ++ qs)) g.0 (joined (is_chars p) (q ∷ ps) qs g.1 k m)

ends_with : (b : Bool) (ps : List Piece) (p : Piece) → ends_open b (ps ++ p ∷ []) ≡ is_chars p
ends_with b [] p = refl
ends_with b (q ∷ ps) p = ends_with (is_chars q) ps p

text_append : (ps qs : List Piece) → field_text (ps ++ qs) ≡ field_text ps ++ field_text qs
text_append [] qs = refl
text_append (p ∷ ps) qs = ap (λ x. piece_field p ++ x) (text_append ps qs) ∙ sym (append_assoc (piece_field p) (field_text ps) (field_text qs))

chars_text : (s : List ℕ) → field_text (chars_piece s) ≡ s
chars_text [] = refl
chars_text (c ∷ s) = append-nil (c ∷ s)

chars_pieces : (s : List ℕ) → are_plain s ≡ true → are_pieces (chars_piece s) ≡ true
chars_pieces [] h = refl
chars_pieces (c ∷ s) h = ap (λ b. b && true && true) h

chars_then : (s : List ℕ) (p : Piece) → are_plain s ≡ true → is_chars p ≡ false → is_piece p ≡ true → are_pieces (chars_piece s ++ p ∷ []) ≡ true
chars_then [] p h k n = reference_joins p [] k n refl
chars_then (c ∷ s) p h k n = ap (λ b. b && not (is_chars p) && are_pieces (p ∷ [])) h ∙ ap (λ b. not b && are_pieces (p ∷ [])) k ∙ reference_joins p [] k n refl

-- a turn of the loop
pub pieces_more : (ps new : List Piece) (p : Piece) (field rest chars more word behind : List ℕ) → are_pieces ps ≡ true → ends_open false ps ≡ false → field_text ps ++ rest ≡ field
    → rest ≡ chars ++ (codes "$(" ++ more) → more ≡ word ++ 41 ∷ behind → are_plain chars ≡ true → IsReference word p → new ≡ (ps ++ chars_piece chars) ++ p ∷ []
    → (are_pieces new ≡ true) × (ends_open false new ≡ false) × (field_text new ++ behind ≡ field)
pieces_more ps new p field rest chars more word behind own closed is at closing plain r grown =
    let qs = chars_piece chars ++ p ∷ [] in
    let all : new ≡ ps ++ qs = grown ∙ append_assoc ps (chars_piece chars) (p ∷ []) in
    let last : field_text (p ∷ []) ++ behind ≡ 36 ∷ 40 ∷ more =
    ap (λ x. x ++ behind) (append-nil (piece_field p) ∙ r.text) ∙ ap (λ x. 36 ∷ 40 ∷ x) (append_assoc word (41 ∷ []) behind ∙ sym closing) in
    let text : field_text qs ++ behind ≡ rest =
    ap (λ x. x ++ behind) (text_append (chars_piece chars) (p ∷ []) ∙ ap (λ x. x ++ field_text (p ∷ [])) (chars_text chars))
    ∙ append_assoc chars (field_text (p ∷ [])) behind
    ∙ ap (λ x. chars ++ x) last
    ∙ sym at in (
      ap are_pieces all ∙ joined false ps qs own closed (chars_then chars p plain r.kind r.named),
      ap (ends_open false) grown ∙ ends_with false (ps ++ chars_piece chars) p ∙ r.kind,
      ap (λ x. field_text x ++ behind) all ∙ ap (λ x. x ++ behind) (text_append ps qs) ∙ append_assoc (field_text ps) (field_text qs) behind ∙ ap (λ x. field_text ps ++ x) text ∙ is,
    )

-- behind the last reference
pub pieces_end : (ps new : List Piece) (field rest : List ℕ) → are_pieces ps ≡ true → ends_open false ps ≡ false → field_text ps ++ rest ≡ field → are_plain rest ≡ true → new ≡ ps ++ chars_piece rest
    → (are_pieces new ≡ true) × (field_text new ≡ field)
pieces_end ps new field rest own closed is plain grown = (
  ap are_pieces grown ∙ joined false ps (chars_piece rest) own closed (chars_pieces rest plain),
  ap field_text grown ∙ text_append ps (chars_piece rest) ∙ ap (λ x. field_text ps ++ x) (chars_text rest) ∙ is,
)
