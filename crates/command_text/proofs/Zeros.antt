-- Holes in marked texts.
use Rattle.std.proofs.Common.{◌≡◌, ◌∙◌, sym, ap, ℕ, zero, suc, ◌+◌, ◌<◌, ◌==◌, false, true≢false, cond, List, [], ◌∷◌, ◌++◌, length, drop, get_or, subst, ◌≤◌, refl, arith, append-nil, zero-add}
use Rattle.std.proofs.lemmas.Bool.Decides.{nat_tests}
use Rattle.std.proofs.lemmas.List.Sums.{sum_by-append, sum_by-cons}
use Rattle.std.proofs.lemmas.List.{append_assoc, at_drop_more, length-append, length-drop}
use Rattle.std.proofs.lemmas.List.Prefix.{front_rest}
use Rattle.std.proofs.Math.Seq.{get_or-append_seam}
use Rattle.std.proofs.lemmas.Str.{IsCharBoundary-after_ascii, IsUtf8-drop}
use Rattle.std.proofs.Math.ListN.{drop_of_length-le}
use Rattle.std.specs.Str.{IsCharBoundary, IsUtf8}
use Rattle.wdl_base.specs.Plain.{has_nul}
use Rattle.wdl_base.specs.declared.template.Part.{Part}
use Rattle.wdl_base.specs.declared.template.Part.TheVariants.{Chars, Hole}
use Rattle.wdl_base.specs.Templates.{holes, marked, onto_text, template_of}
use Rattle.command_text.specs.Marks.{text_parts, zeros}

pub zeros-append : (xs ys : List ℕ) → zeros (xs ++ ys) ≡ zeros xs + zeros ys
zeros-append xs ys = sum_by-append (λ b. cond (b == 0) 1 0) xs ys

nonzero : (b : ℕ) → (suc b == 0) ≡ false
nonzero b = grind (arith, nat_tests)

rest_plain : (b : ℕ) (text : List ℕ) → has_nul (suc b ∷ text) ≡ false → has_nul text ≡ false
rest_plain b text h = rw (nonzero b) at h

pub rest_zeros : (b : ℕ) (text : List ℕ) → zeros (suc b ∷ text) ≡ zeros text
rest_zeros b text =
    sum_by-cons (λ x. cond (x == 0) 1 0) (suc b) text
    ∙ (ap (λ t. cond t 1 0 + zeros text) (nonzero b) ∙ zero-add (zeros text))

pub more_zeros : (text : List ℕ) → zeros (zero ∷ text) ≡ 1 + zeros text
more_zeros text = sum_by-cons (λ x. cond (x == 0) 1 0) zero text

-- a text holds no hole where it holds no NUL
pub plain_zeros : (text : List ℕ) → has_nul text ≡ false → zeros text ≡ 0
plain_zeros [] h = refl
plain_zeros (zero ∷ text) h = absurd (true≢false h)
plain_zeros (suc b ∷ text) h = rest_zeros b text ∙ plain_zeros text (rest_plain b text h)

pub zeros_plain : (text : List ℕ) → zeros text ≡ 0 → has_nul text ≡ false
zeros_plain [] h = refl
zeros_plain (zero ∷ text) h = absurd (omega (arith, more_zeros text))
zeros_plain (suc b ∷ text) h = rw (nonzero b) (zeros_plain text (sym (rest_zeros b text) ∙ h))

-- ---- appending

pub marked-append : (ps qs : List Part) → marked (ps ++ qs) ≡ marked ps ++ marked qs
marked-append [] qs = refl
marked-append (Chars text ∷ ps) qs =
    ap (λ m. text ++ m) (marked-append ps qs) ∙ sym (append_assoc text (marked ps) (marked qs))
marked-append (Hole k ∷ ps) qs = ap (λ m. 0 ∷ m) (marked-append ps qs)

pub holes-append : (ps qs : List Part) → holes (ps ++ qs) ≡ holes ps ++ holes qs
holes-append [] qs = refl
holes-append (Chars text ∷ ps) qs = holes-append ps qs
holes-append (Hole k ∷ ps) qs = ap (λ m. k ∷ m) (holes-append ps qs)

pub counted_chars : (part : Part) (text : List ℕ) → part ≡ Chars text → has_nul text ≡ false
    → zeros (marked (part ∷ [])) ≡ length (holes (part ∷ []))
counted_chars part text is plain = rw is (ap zeros (append-nil text) ∙ plain_zeros text plain)

-- ---- the template of a marked text

onto_parts : (b : ℕ) (text : List ℕ) (k : ℕ) (parts : List Part)
    → onto_text b (text_parts text ++ Hole k ∷ parts) ≡ text_parts (b ∷ text) ++ Hole k ∷ parts
onto_parts b [] k parts = refl
onto_parts b (x ∷ text) k parts = refl

onto_one : (b : ℕ) (text : List ℕ) → onto_text b (text_parts text) ≡ text_parts (b ∷ text)
onto_one b [] = refl
onto_one b (x ∷ text) = refl

pub template_hole : (front back : List ℕ) (k : ℕ) (numbers : List ℕ) → has_nul front ≡ false
    → template_of (front ++ 0 ∷ back) (k ∷ numbers) ≡ text_parts front ++ Hole k ∷ template_of back numbers
template_hole [] back k numbers h = refl
template_hole (zero ∷ front) back k numbers h = absurd (true≢false h)
template_hole (suc b ∷ front) back k numbers h =
    ap (onto_text (suc b)) (template_hole front back k numbers (rest_plain b front h))
    ∙ onto_parts (suc b) front k (template_of back numbers)

pub template_plain : (text : List ℕ) → has_nul text ≡ false → template_of text [] ≡ text_parts text
template_plain [] h = refl
template_plain (zero ∷ text) h = absurd (true≢false h)
template_plain (suc b ∷ text) h = ap (onto_text (suc b)) (template_plain text (rest_plain b text h)) ∙ onto_one (suc b) text

onto_holes : (b : ℕ) (parts : List Part) → holes (onto_text b parts) ≡ holes parts
onto_holes b [] = refl
onto_holes b (Chars text ∷ parts) = refl
onto_holes b (Hole k ∷ parts) = refl

-- each hole of the text gets its number
pub template_holes : (text numbers : List ℕ) → zeros text ≡ length numbers → holes (template_of text numbers) ≡ numbers
template_holes [] [] h = refl
template_holes [] (k ∷ numbers) h = absurd (omega arith)
template_holes (zero ∷ text) [] h = absurd (omega (arith, more_zeros text))
template_holes (zero ∷ text) (k ∷ numbers) h =
    ap (λ m. k ∷ m) (template_holes text numbers (omega (arith, more_zeros text)))
template_holes (suc b ∷ text) numbers h =
    onto_holes (suc b) (template_of text numbers)
    ∙ template_holes text numbers (sym (rest_zeros b text) ∙ h)

-- one hole more
pub template_step : (parts between after : List Part) (rest front back numbers : List ℕ) (i : ℕ) → rest ≡ front ++ 0 ∷ back
    → has_nul front ≡ false → i < length numbers → between ≡ parts ++ text_parts front
    → after ≡ between ++ Hole (get_or numbers i 0) ∷ [] → after ++ template_of back (drop (i + 1) numbers) ≡ parts ++ template_of rest (drop i numbers)
template_step parts between after rest front back numbers i split plain lt before pushed =
    let hole = get_or numbers i 0 in
    let more = drop (i + 1) numbers in
    let here : template_of rest (drop i numbers) ≡ text_parts front ++ Hole hole ∷ template_of back more =
    at_drop_more (template_of rest) numbers i 0 lt ∙ (ap (λ r. template_of r (hole ∷ more)) split ∙ template_hole front back hole more plain) in
    ap (λ p. p ++ template_of back more) (pushed ∙ ap (λ p. p ++ Hole hole ∷ []) before)
    ∙ (append_assoc (parts ++ text_parts front) (Hole hole ∷ []) (template_of back more)
    ∙ (append_assoc parts (text_parts front) (Hole hole ∷ template_of back more) ∙ ap (λ p. parts ++ p) (sym here)))

pub zeros_step : (rest front back numbers : List ℕ) (i : ℕ) → rest ≡ front ++ 0 ∷ back → has_nul front ≡ false
    → i < length numbers → zeros rest ≡ length (drop i numbers) → zeros back ≡ length (drop (i + 1) numbers)
zeros_step rest front back numbers i split plain lt counted =
    let whole = ap zeros split ∙ zeros-append front (0 ∷ back) in
    let none = plain_zeros front plain in
    let one = more_zeros back in
    omega (arith, whole, none, one, counted, length-drop i numbers, length-drop (i + 1) numbers)

-- after the last hole
pub template_end : (parts after : List Part) (rest numbers : List ℕ) (i : ℕ) → length numbers ≤ i → has_nul rest ≡ false
    → after ≡ parts ++ text_parts rest → after ≡ parts ++ template_of rest (drop i numbers)
template_end parts after rest numbers i high plain pushed =
    let none : drop i numbers ≡ [] = drop_of_length-le numbers high in
    pushed ∙ ap (λ p. parts ++ p) (sym (ap (template_of rest) none ∙ template_plain rest plain))

pub plain_end : (rest numbers : List ℕ) (i : ℕ) → length numbers ≤ i → zeros rest ≡ length (drop i numbers) → has_nul rest ≡ false
plain_end rest numbers i high counted = zeros_plain rest (omega (arith, counted, length-drop i numbers))

-- what stands after a hole is a text
pub utf8_after : (rest front back : List ℕ) → rest ≡ front ++ 0 ∷ back → IsUtf8 rest → IsUtf8 back
utf8_after rest front back split utf8 =
    let whole : rest ≡ (front ++ 0 ∷ []) ++ back = split ∙ sym (append_assoc front (0 ∷ []) back) in
    let len : length (front ++ 0 ∷ []) ≡ length front + 1 = length-append front (0 ∷ []) in
    let here : length front < length rest = omega (arith, ap length whole, length-append (front ++ 0 ∷ []) back, len) in
    let hole : get_or rest (length front) 0 ≡ 0 = ap (λ r. get_or r (length front) 0) split ∙ get_or-append_seam front 0 back 0 in
    let cut : IsCharBoundary rest (length front + 1) = IsCharBoundary-after_ascii rest (length front) utf8 here (omega (arith, hole)) in
    subst IsUtf8 (ap (λ n. drop n rest) (sym len) ∙ front_rest rest (front ++ 0 ∷ []) back whole) (IsUtf8-drop rest (length front + 1) utf8 cut)
