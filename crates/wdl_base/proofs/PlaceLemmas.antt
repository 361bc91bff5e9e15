-- Texts of places: what a text that is read forward says of the place.
use Rattle.std.proofs.Common.{◌≡◌, ◌≢◌, ℕ, zero, suc, ◌^◌, ◌<◌, Bool, true, false, ◌==◌, ◌||◌, ◌&&◌, not, List, [], ◌∷◌, ◌++◌, length, get_or, refl, sym, ap, ◌∙◌, subst, arith, append_assoc, append-nil, codes, Result, Ok, Err}
use Rattle.std.proofs.lemmas.Bool.{false≢true, and_parts, and_from, ne_eqb}
use Rattle.std.proofs.lemmas.Bool.Decides.{nat_tests}
use Rattle.std.proofs.lemmas.Fmt.{decimal_is_IsNumeral, decimal_injective, decimal_digit, first_decimal, parse-decimal, decimal-digits_value}
use Rattle.std.proofs.lemmas.Str.Parse.{digit_from_value, numerals_by_value, tells_digits, without_leading_plus_none}
use Rattle.std.specs.Char.{is_ascii_alphabetic, is_ascii_alphanumeric}
use Rattle.std.specs.Fmt.{decimal}
use Rattle.std.specs.Result.{result_ok}
use Rattle.std.specs.Str.Parse.{AllDigits, IsNumeral, digits_value, ParsesUnsigned}
use Rattle.std.specs.Str.Pattern.{FindsTextPrefix, StripsPrefix}
use Rattle.wdl_base.specs.declared.place.Segment.{Segment}
use Rattle.wdl_base.specs.declared.place.Segment.TheVariants.{Call, Scatter, If, Index}
use Rattle.wdl_base.specs.declared.place_reading.PlaceFault.{PlaceFault}
use Rattle.wdl_base.specs.declared.place_reading.PlaceFault.TheVariants.{NotAPlace, NoMemory as OutOfMemory}
use Rattle.wdl_base.specs.Names.{is_word_from, is_word, is_name}
use Rattle.wdl_base.specs.Places.{segment_text, rest_text, place_text}
use Rattle.wdl_base.specs.PlaceReading.{starts_plainly, NumberReads, NumberedReads, IsSegment, IsPlace, SegmentReads, PlaceReads}

-- ---- numbers

-- a numeral, its first digit, and whether there are more
digits_start : (ds : List ℕ) → AllDigits 10 ds → 0 < length ds → (1 < length ds → 48 < get_or ds 0 0) → starts_plainly ds ≡ true
digits_start [] d some h = absurd (omega arith)
digits_start (b ∷ []) d some h = let k = digit_from_value b d.0 in grind (arith, nat_tests)
digits_start (b ∷ c ∷ bs) d some h = let k : 48 < b = h (omega arith) in grind (arith, nat_tests)

decimal_starts : (n : ℕ) → n < 2 ^ 64 → starts_plainly (decimal n) ≡ true
decimal_starts n h =
    let d = (decimal_is_IsNumeral n h).0 in
    digits_start (decimal n) d.1 d.0 (above n h)
  where
    above : (n : ℕ) → n < 2 ^ 64 → 1 < length (decimal n) → 48 < get_or (decimal n) 0 0
    above zero h m = let e : decimal zero ≡ 48 ∷ [] = decimal_digit 0 (omega arith) in let k = ap length e in absurd (omega arith)
    above (suc n) h m = first_decimal (suc n) (omega arith) h

pub not_plain : (s : List ℕ) → starts_plainly s ≡ false → (n : ℕ) → n < 2 ^ 32 → decimal n ≢ s
not_plain s f n h e = false≢true (sym f ∙ ap starts_plainly (sym e) ∙ decimal_starts n (omega arith))

no_plus : (s : List ℕ) → starts_plainly s ≡ true → get_or s 0 0 ≢ 43
no_plus [] h = absurd (false≢true h)
no_plus (b ∷ []) h = grind (arith, nat_tests)
no_plus (b ∷ c ∷ bs) h = grind (arith, nat_tests)

one_zero : (s : List ℕ) → starts_plainly s ≡ true → get_or s 0 0 ≡ 48 → length s ≡ 1
one_zero [] h e = absurd (false≢true h)
one_zero (b ∷ []) h e = refl
one_zero (b ∷ c ∷ bs) h e = absurd (grind (arith, nat_tests))

pub parsed : {E : Type 0} (s : List ℕ) (r : Result ℕ E) → starts_plainly s ≡ true → ParsesUnsigned 32 10 s r → NumberReads s (result_ok r)
parsed s (Ok n) h p =
    let d = subst (λ w. (IsNumeral 10 w × (digits_value 10 w < 2 ^ 32)) × (n ≡ digits_value 10 w)) (without_leading_plus_none s (no_plus s h)) p in
    let v = d.0.1 in
    (omega (arith, d.1, v), ap decimal d.1 ∙ decimal-digits_value (numerals_by_value _ tells_digits) s d.0.0.1 d.0.0.0 (one_zero s h) (omega (arith, v)))
parsed s (Err e) h p = λ n lt is. let k : Err e ≡ Ok n = parse-decimal 32 n s (Err e) lt (omega arith) (sym is) p in cc

-- ---- which bytes a segment's text has

abbrev lacks : ℕ → List ℕ → Bool
lacks c [] = true
lacks c (b ∷ bs) = not (b == c) && lacks c bs

lacks_first : (c b : ℕ) (bs : List ℕ) → lacks c (b ∷ bs) ≡ true → b ≢ c
lacks_first c b bs h e = let k = (and_parts (not (b == c)) (lacks c bs) h).0 in grind (arith, nat_tests)

lacks_rest : (c b : ℕ) (bs : List ℕ) → lacks c (b ∷ bs) ≡ true → lacks c bs ≡ true
lacks_rest c b bs h = (and_parts (not (b == c)) (lacks c bs) h).1

lacks_more : (c b : ℕ) (bs : List ℕ) → b ≢ c → lacks c bs ≡ true → lacks c (b ∷ bs) ≡ true
lacks_more c b bs n h = and_from (not (b == c)) (lacks c bs) (ap not (ne_eqb b c n)) h

lacks-append : (c : ℕ) (xs ys : List ℕ) → lacks c xs ≡ true → lacks c ys ≡ true → lacks c (xs ++ ys) ≡ true
lacks-append c [] ys h k = k
lacks-append c (x ∷ xs) ys h k = lacks_more c x (xs ++ ys) (lacks_first c x xs h) (lacks-append c xs ys (lacks_rest c x xs h) k)

lacks_by_index : (c : ℕ) (bs : List ℕ) → ((i : ℕ) → i < length bs → get_or bs i 0 ≢ c) → lacks c bs ≡ true
lacks_by_index c [] h = refl
lacks_by_index c (b ∷ bs) h = lacks_more c b bs (h 0 (omega arith)) (lacks_by_index c bs (λ i l. h (suc i) (omega arith)))

word_lacks : (c : ℕ) → (is_ascii_alphanumeric c || c == 95) ≡ false → (bs : List ℕ) → is_word_from bs ≡ true → lacks c bs ≡ true
word_lacks c n [] h = refl
word_lacks c n (b ∷ bs) h =
    let p = and_parts (is_ascii_alphanumeric b || b == 95) (is_word_from bs) h in
    lacks_more c b bs (λ e. false≢true (sym n ∙ ap (λ x. is_ascii_alphanumeric x || x == 95) (sym e) ∙ p.0)) (word_lacks c n bs p.1)

-- a name, whose first byte is a letter
pub name_word : (bs : List ℕ) → is_name bs ≡ true → is_word bs ≡ true
name_word bs h = (and_parts _ _ (and_parts _ _ h).0).1

name_lacks : (c : ℕ) → is_ascii_alphabetic c ≡ false → (is_ascii_alphanumeric c || c == 95) ≡ false → (bs : List ℕ) → is_name bs ≡ true → lacks c bs ≡ true
name_lacks c l n bs h = by_word bs (name_word bs h)
  where
    by_word : (bs : List ℕ) → is_word bs ≡ true → lacks c bs ≡ true
    by_word [] w = refl
    by_word (b ∷ bs) w =
        let p = and_parts (is_ascii_alphabetic b) (is_word_from bs) w in
        lacks_more c b bs (λ e. false≢true (sym l ∙ ap is_ascii_alphabetic (sym e) ∙ p.0)) (word_lacks c n bs p.1)

digits_lack : (c : ℕ) → c < 48 → (ds : List ℕ) → AllDigits 10 ds → lacks c ds ≡ true
digits_lack c l [] d = refl
digits_lack c l (b ∷ bs) d = lacks_more c b bs (λ e. omega (arith, digit_from_value b d.0)) (digits_lack c l bs d.1)

decimal_lacks : (c n : ℕ) → c < 48 → n < 2 ^ 32 → lacks c (decimal n) ≡ true
decimal_lacks c n l h = digits_lack c l (decimal n) (decimal_is_IsNumeral n (omega arith)).0.1

no_slash : (g : Segment) → IsSegment g → lacks 47 (segment_text g) ≡ true
no_slash (Call n) h = name_lacks 47 refl refl n h
no_slash (Scatter k) h = lacks-append 47 (codes "scatter-") (decimal k) refl (decimal_lacks 47 k (omega arith) h)
no_slash (If k) h = lacks-append 47 (codes "if-") (decimal k) refl (decimal_lacks 47 k (omega arith) h)
no_slash (Index i) h = decimal_lacks 47 i (omega arith) h

no_point : (g : Segment) → IsSegment g → lacks 46 (segment_text g) ≡ true
no_point (Call n) h = name_lacks 46 refl refl n h
no_point (Scatter k) h = lacks-append 46 (codes "scatter-") (decimal k) refl (decimal_lacks 46 k (omega arith) h)
no_point (If k) h = lacks-append 46 (codes "if-") (decimal k) refl (decimal_lacks 46 k (omega arith) h)
no_point (Index i) h = decimal_lacks 46 i (omega arith) h

-- ---- the kinds of segments

name_digit : (n ds : List ℕ) → is_name n ≡ true → IsNumeral 10 ds → ds ≢ n
name_digit [] ds h d e = false≢true (name_word [] h)
name_digit (b ∷ bs) ds h d e =
    let k = subst (AllDigits 10) e d.1 in
    let r = digit_from_value b k.0 in
    letter_digit b (and_parts (is_ascii_alphabetic b) (is_word_from bs) (name_word (b ∷ bs) h)).0 (omega arith)
  where
    letter_digit : (b : ℕ) → is_ascii_alphabetic b ≡ true → b < 58 → ⊥
    letter_digit b l m = absurd (grind (arith, nat_tests))

-- the segments whose texts begin with a word
abbrev Kind : (ℕ → Segment) → List ℕ → Type 0
Kind kind word = (g : Segment) → IsSegment g → (t : List ℕ) → segment_text g ≡ word ++ t → (n : ℕ) × (n < 2 ^ 32) × (decimal n ≡ t) × (g ≡ kind n)

only_scatter : Kind Scatter (codes "scatter-")
only_scatter (Call n) h t e = absurd (false≢true (ap (lacks 45) (sym e) ∙ name_lacks 45 refl refl n h))
only_scatter (Scatter k) h t e = (k, h, cc, refl)
only_scatter (If k) h t e = absurd (false≢true (ap (λ (l : List ℕ). get_or l 0 0 == 115) e))
only_scatter (Index i) h t e = let d = subst (AllDigits 10) e (decimal_is_IsNumeral i (omega arith)).0.1 in absurd (omega (arith, digit_from_value 115 d.0))

only_if : Kind If (codes "if-")
only_if (Call n) h t e = absurd (false≢true (ap (lacks 45) (sym e) ∙ name_lacks 45 refl refl n h))
only_if (Scatter k) h t e = absurd (false≢true (ap (λ (l : List ℕ). get_or l 0 0 == 105) e))
only_if (If k) h t e = (k, h, cc, refl)
only_if (Index i) h t e = let d = subst (AllDigits 10) e (decimal_is_IsNumeral i (omega arith)).0.1 in absurd (omega (arith, digit_from_value 105 d.0))

numbered : (kind : ℕ → Segment) (word s t : List ℕ) (r : Result Segment PlaceFault) → Kind kind word
    → ((n : ℕ) → n < 2 ^ 32 → IsSegment (kind n) × (segment_text (kind n) ≡ word ++ decimal n)) → s ≡ word ++ t → NumberedReads kind t r → SegmentReads s r
numbered kind word s t (Ok g) only is e p =
    let q = is p.0 p.1 in
    subst (λ x. IsSegment x × (segment_text x ≡ s)) (sym p.3) (q.0, q.1 ∙ ap (λ x. word ++ x) p.2 ∙ sym e)
numbered kind word s t (Err NotAPlace) only is e p = λ g h k. let q = only g h t (k ∙ e) in p q.0 q.1 q.2
numbered kind word s t (Err OutOfMemory) only is e p = tt

pub stripped : (word s t : List ℕ) → StripsPrefix (FindsTextPrefix word) s t → s ≡ word ++ t
stripped word s t p = p.1.1 ∙ ap (λ x. word ++ x) (sym p.2)

pub scatter_reads : (s t : List ℕ) (r : Result Segment PlaceFault) → StripsPrefix (FindsTextPrefix (codes "scatter-")) s t → NumberedReads Scatter t r → SegmentReads s r
scatter_reads s t r p = numbered Scatter (codes "scatter-") s t r only_scatter (λ n h. (h, refl)) (stripped (codes "scatter-") s t p)

pub if_reads : (s t : List ℕ) (r : Result Segment PlaceFault) → StripsPrefix (FindsTextPrefix (codes "if-")) s t → NumberedReads If t r → SegmentReads s r
if_reads s t r p = numbered If (codes "if-") s t r only_if (λ n h. (h, refl)) (stripped (codes "if-") s t p)

same_segment : (g h : Segment) → IsSegment g → IsSegment h → segment_text g ≡ segment_text h → g ≡ h
same_segment (Scatter k) h p q e = let r = only_scatter h q (decimal k) (sym e) in let i : r.0 ≡ k = decimal_injective r.0 k (omega arith) (omega arith) r.2 in sym (r.3 ∙ ap Scatter i)
same_segment (If k) h p q e = let r = only_if h q (decimal k) (sym e) in let i : r.0 ≡ k = decimal_injective r.0 k (omega arith) (omega arith) r.2 in sym (r.3 ∙ ap If i)
same_segment g (Scatter k) p q e = let r = only_scatter g p (decimal k) e in let i : r.0 ≡ k = decimal_injective r.0 k (omega arith) (omega arith) r.2 in r.3 ∙ ap Scatter i
same_segment g (If k) p q e = let r = only_if g p (decimal k) e in let i : r.0 ≡ k = decimal_injective r.0 k (omega arith) (omega arith) r.2 in r.3 ∙ ap If i
same_segment (Call n) (Call m) p q e = ap Call e
same_segment (Call n) (Index i) p q e = absurd (name_digit n (decimal i) p (decimal_is_IsNumeral i (omega arith)).0 (sym e))
same_segment (Index i) (Call n) p q e = absurd (name_digit n (decimal i) q (decimal_is_IsNumeral i (omega arith)).0 e)
same_segment (Index i) (Index j) p q e = ap Index (decimal_injective i j (omega arith) (omega arith) e)

-- ---- the segments of a text

-- nothing, or what begins with a slash
abbrev Stops : List ℕ → Type 0
Stops [] = Unit {0}
Stops (b ∷ bs) = b ≡ 47

one_split : (xs ys us vs : List ℕ) → lacks 47 xs ≡ true → lacks 47 ys ≡ true → Stops us → Stops vs → xs ++ us ≡ ys ++ vs → (xs ≡ ys) × (us ≡ vs)
one_split [] [] us vs w x s t e = (refl, e)
one_split [] (y ∷ ys) [] vs w x s t e = absurd (cc)
one_split [] (y ∷ ys) (u ∷ us) vs w x s t e = let k : y ≡ 47 = cc in absurd (lacks_first 47 y ys x k)
one_split (x ∷ xs) [] us [] w y s t e = absurd (cc)
one_split (x ∷ xs) [] us (v ∷ vs) w y s t e = let k : x ≡ 47 = cc in absurd (lacks_first 47 x xs w k)
one_split (x ∷ xs) (y ∷ ys) us vs w z s t e =
    let h : x ≡ y = cc in
    let k : xs ++ us ≡ ys ++ vs = cc in
    let p = one_split xs ys us vs (lacks_rest 47 x xs w) (lacks_rest 47 y ys z) s t k in
    let i = p.0 in
    (cc, p.1)

rest_stops : (p : List Segment) → Stops (rest_text p)
rest_stops [] = tt
rest_stops (g ∷ p) = refl

first_same : (g h : Segment) (p q : List Segment) → IsSegment g → IsSegment h → segment_text g ++ rest_text p ≡ segment_text h ++ rest_text q → (segment_text g ≡ segment_text h) × (rest_text p ≡ rest_text q)
first_same g h p q i j = one_split _ _ _ _ (no_slash g i) (no_slash h j) (rest_stops p) (rest_stops q)

rest_same : (p q : List Segment) → IsPlace p → IsPlace q → rest_text p ≡ rest_text q → p ≡ q
rest_same [] [] i j e = refl
rest_same [] (h ∷ q) i j e = absurd (cc)
rest_same (g ∷ p) [] i j e = absurd (cc)
rest_same (g ∷ p) (h ∷ q) i j e =
    let s = first_same g h p q i.0 j.0 (cc) in
    let k = same_segment g h i.0 j.0 s.0 in
    let m = rest_same p q i.1 j.1 s.1 in
    cc

no_point_text : (g : Segment) (p : List Segment) → IsSegment g → segment_text g ++ rest_text p ≢ codes "."
no_point_text g p i e = by_text (segment_text g) (rest_text p) (no_point g i) (rest_stops p) e
  where
    by_text : (xs us : List ℕ) → lacks 46 xs ≡ true → Stops us → xs ++ us ≡ codes "." → ⊥
    by_text [] [] l s e = absurd (cc)
    by_text [] (u ∷ us) l s e = let k : u ≡ 46 = cc in omega arith
    by_text (x ∷ xs) us l s e = let k : x ≡ 46 = cc in lacks_first 46 x xs l k

-- two places of one text are equal
pub same_place : (p q : List Segment) → IsPlace p → IsPlace q → place_text p ≡ place_text q → p ≡ q
same_place [] [] i j e = refl
same_place [] (h ∷ q) i j e = absurd (no_point_text h q j.0 (sym e))
same_place (g ∷ p) [] i j e = absurd (no_point_text g p i.0 e)
same_place (g ∷ p) (h ∷ q) i j e =
    let s = first_same g h p q i.0 j.0 e in
    let k = same_segment g h i.0 j.0 s.0 in
    let m = rest_same p q i.1 j.1 s.1 in
    cc

-- ---- reading forward

-- the segments, each with a slash behind it
abbrev pub front_text : List Segment → List ℕ
front_text [] = []
front_text (s ∷ more) = segment_text s ++ 47 ∷ front_text more

pub front-push : (p : List Segment) (g : Segment) → front_text (p ++ g ∷ []) ≡ front_text p ++ (segment_text g ++ 47 ∷ [])
front-push [] g = refl
front-push (s ∷ p) g = ap (λ x. segment_text s ++ 47 ∷ x) (front-push p g) ∙ sym (append_assoc (segment_text s) (47 ∷ front_text p) (segment_text g ++ 47 ∷ []))

rest-push : (p : List Segment) (g : Segment) → rest_text (p ++ g ∷ []) ≡ 47 ∷ (front_text p ++ segment_text g)
rest-push [] g = ap (λ x. 47 ∷ x) (append-nil (segment_text g))
rest-push (s ∷ p) g = ap (λ x. 47 ∷ (segment_text s ++ x)) (rest-push p g) ∙ ap (λ x. 47 ∷ x) (sym (append_assoc (segment_text s) (47 ∷ front_text p) (segment_text g)))

pub place-push : (p : List Segment) (g : Segment) → place_text (p ++ g ∷ []) ≡ front_text p ++ segment_text g
place-push [] g = append-nil (segment_text g)
place-push (s ∷ p) g = ap (λ x. segment_text s ++ x) (rest-push p g) ∙ sym (append_assoc (segment_text s) (47 ∷ front_text p) (segment_text g))

pub IsPlace-push : (p : List Segment) (g : Segment) → IsPlace p → IsSegment g → IsPlace (p ++ g ∷ [])
IsPlace-push [] g i j = (j, tt)
IsPlace-push (s ∷ p) g i j = (i.0, IsPlace-push p g i.1 j)

-- what is left of a place's text begins with a segment's text
Begins : List ℕ → Type 0
Begins rest = (h : Segment) × (r : List Segment) × IsSegment h × IsPlace r × (rest ≡ segment_text h ++ rest_text r)

peeled : (p : List Segment) (rest : List ℕ) (g : Segment) (q : List Segment) → IsPlace p → IsSegment g → IsPlace q → front_text p ++ rest ≡ segment_text g ++ rest_text q → Begins rest
unfolding Begins
peeled [] rest g q i j k e = (g, q, j, k, e)
peeled (s ∷ p) rest g q i j k e =
    let m = one_split (segment_text s) (segment_text g) (47 ∷ (front_text p ++ rest)) (rest_text q) (no_slash s i.0) (no_slash g j) refl (rest_stops q) (sym (append_assoc (segment_text s) (47 ∷ front_text p) rest) ∙ e) in
    further q k m.1 (λ h r a b f. peeled p rest h r i.1 a b f)
  where
    further : (q : List Segment) → IsPlace q → 47 ∷ (front_text p ++ rest) ≡ rest_text q
        → ((h : Segment) (r : List Segment) → IsSegment h → IsPlace r → front_text p ++ rest ≡ segment_text h ++ rest_text r → Begins rest) → Begins rest
    further [] k e more = absurd (cc)
    further (h ∷ q) k e more = more h q k.0 k.1 (cc)

refuses : (p : List Segment) (rest s first tail : List ℕ) → IsPlace p → front_text p ++ rest ≡ s → rest ≡ first ++ tail → lacks 47 first ≡ true → Stops tail → s ≢ codes "."
    → SegmentReads first (Err NotAPlace) → PlaceReads s (Err NotAPlace)
unfolding Begins
refuses p rest s first tail i e f l t n none [] j k = n (sym k)
refuses p rest s first tail i e f l t n none (g ∷ q) j k =
    let b = peeled p rest g q i j.0 j.1 (e ∙ sym k) in
    let m = one_split first (segment_text b.0) tail (rest_text b.1) l (no_slash b.0 b.2) t (rest_stops b.1) (sym f ∙ b.4) in
    none b.0 b.2 (sym m.0)

-- a segment with a slash behind it, and the last one
pub first_refuses : (p : List Segment) (rest s first more : List ℕ) (e : PlaceFault) → IsPlace p → front_text p ++ rest ≡ s → (rest ≡ first ++ 47 ∷ more) × ((i : ℕ) → i < length first → get_or first i 0 ≢ 47) → s ≢ codes "."
    → SegmentReads first (Err e) → PlaceReads s (Err e)
first_refuses p rest s first more NotAPlace i e f n none = refuses p rest s first (47 ∷ more) i e f.0 (lacks_by_index 47 first f.1) refl n none
first_refuses p rest s first more OutOfMemory i e f n none = tt

pub last_refuses : (p : List Segment) (rest s : List ℕ) (e : PlaceFault) → IsPlace p → front_text p ++ rest ≡ s → ((i : ℕ) → i < length rest → get_or rest i 0 ≢ 47) → s ≢ codes "."
    → SegmentReads rest (Err e) → PlaceReads s (Err e)
last_refuses p rest s NotAPlace i e f n none = refuses p rest s rest [] i e (sym (append-nil rest)) (lacks_by_index 47 rest f) tt n none
last_refuses p rest s OutOfMemory i e f n none = tt

-- a segment more
pub front_more : (p : List Segment) (g : Segment) (rest s first more : List ℕ) → front_text p ++ rest ≡ s → rest ≡ first ++ 47 ∷ more → segment_text g ≡ first → front_text (p ++ g ∷ []) ++ more ≡ s
front_more p g rest s first more e f k =
    ap (λ x. x ++ more) (front-push p g)
    ∙ append_assoc (front_text p) (segment_text g ++ 47 ∷ []) more
    ∙ ap (λ x. front_text p ++ x) (append_assoc (segment_text g) (47 ∷ []) more ∙ ap (λ x. x ++ 47 ∷ more) k ∙ sym f)
    ∙ e
