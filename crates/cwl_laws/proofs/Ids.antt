-- The ids of references and of steps.
use Rattle.std.proofs.Common.{◌≡◌, ℕ, ◌<◌, ◌^◌, ◌==◌, Bool, true, false, ◌&&◌, ◌||◌, List, [], ◌∷◌, ◌++◌, Option, Some, None, codes, decimal, sym, ap, ◌∙◌, refl}
use Rattle.std.specs.Char.{is_ascii_alphabetic, is_ascii_alphanumeric}
use Rattle.std.specs.Str.{bytes_eq}
use Rattle.std.proofs.lemmas.Bool.{false≢true, and_parts, or_parts}
use Rattle.std.proofs.lemmas.Slice.Eq.{bytes_eq-Decides}
use Rattle.wdl_base.specs.declared.name.Key.{Key}
use Rattle.wdl_base.specs.declared.place.Segment.TheVariants as segment
use Rattle.wdl_base.specs.Names.{is_name, is_word, is_word_from}
use Rattle.wdl_typed.specs.Declarations.{plain_key}
use Rattle.wdl_typed.specs.Scope.{same_key}
use Rattle.cwl_model.specs.Ids.{segment_of}
use Rattle.cwl_image.specs.Image.{id_of, joined_id}
use Rattle.cwl_laws.specs.Premises.{when_id}
use Rattle.cwl_laws.proofs.Files.{number_same}
use Rattle.cwl_laws.proofs.Segments.{call_reads, has_dash, if_reads, scatter_reads}
use Rattle.flow_soundness.proofs.NewNames.{same_key-refl as same_itself}
use Rattle.wdl_base.proofs.PlaceLemmas.{name_word as is_a_word}

-- ---- names

-- a character of a word is no dash
no_dash_at : (f : ℕ → Bool) (c : ℕ) → f 45 ≡ false → f c ≡ true → (c == 45) ≡ false
no_dash_at f c n h = by_test (c == 45) refl
  where
    by_test : (b : Bool) → (c == 45) ≡ b → b ≡ false
    by_test false e = refl
    by_test true e = absurd (false≢true (sym n ∙ ap f (sym (number_same c 45 e)) ∙ h))

word_from_plain : (s : List ℕ) → is_word_from s ≡ true → has_dash s ≡ false
word_from_plain [] h = refl
word_from_plain (c ∷ s) h =
    let p = and_parts (is_ascii_alphanumeric c || c == 95) (is_word_from s) h in
    ap (λ b. b || has_dash s) (no_dash_at (λ d. is_ascii_alphanumeric d || d == 95) c refl p.0) ∙ word_from_plain s p.1

word_plain : (s : List ℕ) → is_word s ≡ true → has_dash s ≡ false
word_plain [] h = refl
word_plain (c ∷ s) h =
    let p = and_parts (is_ascii_alphabetic c) (is_word_from s) h in
    ap (λ b. b || has_dash s) (no_dash_at is_ascii_alphabetic c refl p.0) ∙ word_from_plain s p.1

name_plain : (s : List ℕ) → is_name s ≡ true → has_dash s ≡ false
name_plain s h = word_plain s (is_a_word s h)

-- A name as an id is that of a call.
pub name_reads : (s : List ℕ) → is_name s ≡ true → segment_of s ≡ segment.Call s
name_reads s h = call_reads s (name_plain s h)

-- The ids of blocks are numbered.
pub blocks_read : (k : ℕ) → k < 2 ^ 32 → (segment_of (codes "scatter-" ++ decimal k) ≡ segment.Scatter k) × (segment_of (codes "if-" ++ decimal k) ≡ segment.If k)
blocks_read k h = (scatter_reads k h, if_reads k h)

-- ---- references

dash_in : (s t : List ℕ) → has_dash (s ++ 45 ∷ t) ≡ true
dash_in [] t = refl
dash_in (c ∷ s) t = right (c == 45) (has_dash (s ++ 45 ∷ t)) (dash_in s t)
  where
    right : (a b : Bool) → b ≡ true → (a || b) ≡ true
    right true b h = refl
    right false b h = h

-- texts without dashes before the first dash
parted : (a b s t : List ℕ) → has_dash a ≡ false → has_dash b ≡ false → a ++ 45 ∷ s ≡ b ++ 45 ∷ t → (a ≡ b) × (s ≡ t)
parted [] [] s t h k e = (refl, tail e)
  where
    tail : 45 ∷ s ≡ 45 ∷ t → s ≡ t
    tail e = cc
parted [] (c ∷ b) s t h k e = absurd (false≢true (sym (or_parts (c == 45) (has_dash b) k).0 ∙ ap (λ d. d == 45) (sym (first e))))
  where
    first : 45 ∷ s ≡ c ∷ (b ++ 45 ∷ t) → 45 ≡ c
    first e = cc
parted (c ∷ a) [] s t h k e = absurd (false≢true (sym (or_parts (c == 45) (has_dash a) h).0 ∙ ap (λ d. d == 45) (first e)))
  where
    first : c ∷ (a ++ 45 ∷ s) ≡ 45 ∷ t → c ≡ 45
    first e = cc
parted (c ∷ a) (d ∷ b) s t h k e =
    let r = parted a b s t (or_parts (c == 45) (has_dash a) h).1 (or_parts (d == 45) (has_dash b) k).1 (rest e) in
    (ap (λ z. z ∷ a) (first e) ∙ ap (λ zs. d ∷ zs) r.0, r.1)
  where
    first : c ∷ (a ++ 45 ∷ s) ≡ d ∷ (b ++ 45 ∷ t) → c ≡ d
    first e = cc

    rest : c ∷ (a ++ 45 ∷ s) ≡ d ∷ (b ++ 45 ∷ t) → a ++ 45 ∷ s ≡ b ++ 45 ∷ t
    rest e = cc

ids_same : (a : List ℕ) (o : Option (List ℕ)) (b : List ℕ) (p : Option (List ℕ)) → has_dash a ≡ false → has_dash b ≡ false → joined_id a o ≡ joined_id b p → (a ≡ b) × (o ≡ p)
ids_same a None b None h k e = (e, refl)
ids_same a None b (Some t) h k e = absurd (false≢true (sym h ∙ ap has_dash e ∙ dash_in b t))
ids_same a (Some s) b None h k e = absurd (false≢true (sym k ∙ ap has_dash (sym e) ∙ dash_in a s))
ids_same a (Some s) b (Some t) h k e = let r = parted a b s t h k e in (r.0, ap Some r.1)

-- References of one id are one.
pub id_same : (a b : Key) → is_name a.first ≡ true → is_name b.first ≡ true → bytes_eq (id_of a) (id_of b) ≡ true → a ≡ b
id_same a b h k e =
    let r = ids_same a.first a.second b.first b.second (name_plain a.first h) (name_plain b.first k) ((bytes_eq-Decides (id_of a) (id_of b)).0 e) in
    ap (λ (x : List ℕ). record { first = x; second = a.second }) r.0 ∙ ap (λ (x : Option (List ℕ)). record { first = b.first; second = x }) r.1

-- An item's id is that of no other reference.
pub item_apart : (item : List ℕ) (a : Key) → is_name item ≡ true → is_name a.first ≡ true → same_key (plain_key item) a ≡ false → bytes_eq item (id_of a) ≡ false
item_apart item a h k n = by_test (bytes_eq item (id_of a)) refl
  where
    by_test : (b : Bool) → bytes_eq item (id_of a) ≡ b → b ≡ false
    by_test false e = refl
    by_test true e =
        absurd (false≢true (sym n ∙ ap (same_key (plain_key item)) (sym (id_same (plain_key item) a h k e)) ∙ same_itself (plain_key item)))

-- No reference has the id of a condition's input.
pub when_apart : (a : Key) → is_name a.first ≡ true → bytes_eq when_id (id_of a) ≡ false
when_apart a h = by_form a.first a.second (is_a_word a.first h)
  where
    other : (c : ℕ) → is_ascii_alphabetic c ≡ true → (95 == c) ≡ false
    other c k = by_test (95 == c) refl
      where
        by_test : (b : Bool) → (95 == c) ≡ b → b ≡ false
        by_test false e = refl
        by_test true e = absurd (false≢true (ap is_ascii_alphabetic (number_same 95 c e) ∙ k))

    by_form : (s : List ℕ) (o : Option (List ℕ)) → is_word s ≡ true → bytes_eq when_id (joined_id s o) ≡ false
    by_form [] o k = absurd (false≢true k)
    by_form (c ∷ s) None k = ap (λ b. b && bytes_eq (codes "when") s) (other c (and_parts (is_ascii_alphabetic c) (is_word_from s) k).0)
    by_form (c ∷ s) (Some t) k = ap (λ b. b && bytes_eq (codes "when") (s ++ 45 ∷ t)) (other c (and_parts (is_ascii_alphabetic c) (is_word_from s) k).0)
