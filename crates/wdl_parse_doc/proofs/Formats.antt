-- A kind of part with its reader, and both laws on it: what is read is such a part, and each such part is read.
use Rattle.std.proofs.Common.{◌≡◌, ℕ, zero, suc, ◌<◌, ◌≤◌, true, false, List, [], ◌∷◌, ◌++◌, length, Option, Some, None, Ok, refl, ap, sym, ◌∙◌, subst, append_assoc, length-append, arith}
use Rattle.std.proofs.lemmas.List.{append-nil}
use Rattle.wdl_base.specs.declared.span.Span.{Span}
use Rattle.wdl_ast.specs.declared.token.Mark.{Mark}
use Rattle.wdl_ast.specs.declared.token.Token.{Token}
use Rattle.wdl_ast.specs.Words.{Words, keyword}
use Rattle.wdl_ast.specs.DocumentWords.{each, maybe}
use Rattle.token_reading.specs.declared.fault.Fault.{Fault}
use Rattle.wdl_parse_expr.specs.Context.{Points}
use Rattle.token_reading.specs.Outcome.{Outcome, Parser, then_, found, sees, eat_word, one_more}
use Rattle.token_reading.proofs.Steps.{ate_word, then_is, cond_true, cond_false}
use Rattle.token_reading.proofs.Says.{Says, Takes, carry, says_then, says_found, says_cond}
use Rattle.wdl_parse_doc.specs.Context.{Cause}
use Rattle.wdl_parse_parts.specs.Grammar.{Each, IfThere}
use Rattle.wdl_parse_parts.specs.Reading.Parts.{many_from, many, until}
use Rattle.wdl_parse_doc.specs.Reading.Tasks.{mapped}

-- what is said of a fault: its cause
abbrev pub Doc : Words → Fault → Type 0
Doc doc f = Points (Cause f.code) doc f.span

-- What is read where such a part stands is one. Of all the tokens of the document those that are read stand at the end.
abbrev pub SoundAt : {A : Type 0} → (Words → Type 0) → (A → Type 0) → (A → Words) → Parser A → Type 0
SoundAt stands P w p = (doc front ts : Words) → doc ≡ front ++ ts → stands front → Says (Doc doc) (Takes P w ts) (p ts)

pub record Format (A : Type 0) : Type 1 where
  pub is : A → Type 0
  pub words : A → Words
  pub read : Parser A
  -- what may stand behind it, so that it is read exactly
  pub before : Words → Type 0
  -- behind which tokens it stands
  pub stands : Words → Type 0
  pub sound : SoundAt stands is words read
  pub full : (x : A) → is x → (tail : Words) → before tail → read (words x ++ tail) ≡ Ok (x, tail)

-- what begins with a token is not empty
pub starts_some : (ws more : Words) (t : Token) → ws ≡ t ∷ more → 0 < length ws
starts_some ws more t e = let h : length ws ≡ suc (length more) = ap length e in omega (arith, h)

-- one part read behind those before
pub next : {A B : Type 0} (F : Format A) (R : B → Words → Type 0) (doc front ts : Words) → doc ≡ front ++ ts → (before rest : Words) (f : A → Parser B) → ts ≡ before ++ rest → F.stands (front ++ before)
    → ((x : A) (r : Words) → F.is x → ts ≡ (before ++ F.words x) ++ r → Says (Doc doc) R (f x r)) → Says (Doc doc) R (then_ (F.read rest) f)
next F R doc front ts g before rest f e here k = says_then (Doc doc) (Takes F.is F.words rest) R (F.read rest) f
    (F.sound doc (front ++ before) rest (g ∙ ap (λ z. front ++ z) e ∙ sym (append_assoc front before rest)) here)
    (λ x r t. k x r t.1 (e ∙ ap (λ z. before ++ z) t.0 ∙ sym (append_assoc before (F.words x) r)))

-- behind no more tokens
pub at_once : (S : Words → Type 0) (front : Words) → S front → S (front ++ [])
at_once S front s = subst S (sym (append-nil front)) s

-- behind some tokens, and some more
pub behind_both : (S : Words → Type 0) (front a b : Words) → S (front ++ (a ++ b)) → S ((front ++ a) ++ b)
behind_both S front a b s = subst S (sym (append_assoc front a b)) s

-- and found again
pub goes : {A B : Type 0} (F : Format A) (x : A) (tail : Words) (f : A → Parser B) → F.is x → F.before tail → then_ (F.read (F.words x ++ tail)) f ≡ f x tail
goes F x tail f p h = then_is (F.read (F.words x ++ tail)) f (x, tail) (F.full x p tail h)

-- ---- what begins with a word of its own

pub record Worded (A : Type 0) (w : List ℕ) : Type 1 where
  pub is : A → Type 0
  pub words : A → Words
  pub read : Span → Parser A
  pub before : Words → Type 0
  pub stands : Words → Type 0
  pub sound : (doc front : Words) (k : Span) (ts : Words) → doc ≡ front ++ keyword w k ∷ ts → stands front → Says (Doc doc) (Takes is words (keyword w k ∷ ts)) (read k ts)
  pub full : (x : A) → is x → (tail : Words) → before tail → (k : Span) × (rest : Words) × (words x ++ tail ≡ keyword w k ∷ rest) × (read k rest ≡ Ok (x, tail))

-- what an element that begins so says, and the others
pub says_worded : {A B : Type 0} (w : List ℕ) (W : Worded A w) (c : A → B) (R : B → Words → Type 0) (doc front ts : Words) → doc ≡ front ++ ts → W.stands front → (other : Outcome B)
    → ((x : A) (r : Words) → W.is x → ts ≡ W.words x ++ r → R (c x) r) → Says (Doc doc) R other → Says (Doc doc) R (found (eat_word w ts) (λ k rest. mapped c (W.read k rest)) other)
says_worded {A} {B} w W c R doc front ts e here other f g = says_found (Doc doc) R (eat_word w ts) _ _ (λ k h. go k.0 k.1 (ate_word w ts k h)) (λ _. g)
  where
    go : (k : Span) (rest : Words) → ts ≡ keyword w k ∷ rest → Says (Doc doc) R (mapped c (W.read k rest))
    go k rest q = says_then (Doc doc) (Takes W.is W.words ts) R (W.read k rest) _ (subst (λ z. Says (Doc doc) (Takes W.is W.words z) (W.read k rest)) (sym q) (W.sound doc front k rest (e ∙ ap (λ z. front ++ z) q) here)) (λ x r t. f x r t.1 t.0)

-- ---- lists of parts

pub record Parts (A : Type 0) : Type 1 where
  pub is : A → Type 0
  pub words : A → Words
  pub one : Parser (Option A)
  -- what may stand behind each
  pub follows : Words → Type 0
  -- behind which tokens one stands, so behind those of another one
  pub stands : Words → Type 0
  pub more : (x : A) → is x → (front : Words) → stands front → stands (front ++ words x)
  pub sound : (doc front ts : Words) → doc ≡ front ++ ts → stands front → Says (Doc doc) (λ x r. (ts ≡ maybe words x ++ r) × IfThere is x) (one ts)
  pub full : (x : A) → is x → (tail : Words) → follows tail → one (words x ++ tail) ≡ Ok (Some x, tail)
  pub starts : (x : A) → is x → (tail : Words) → follows (words x ++ tail)
  pub some : (x : A) → is x → 0 < length (words x)

module _ {A : Type 0} (P : Parts A) where
  abbrev Listed : Words → List A → Words → Type 0
  Listed ts = Takes (Each P.is) (each P.words) ts

  -- the parts that were added to those before
  abbrev Added : List A → Words → List A → Words → Type 0
  Added all ts xs r = (new : List A) × (xs ≡ all ++ new) × (ts ≡ each P.words new ++ r) × Each P.is new

  part_then : (n : ℕ) (all : List A) (doc front ts : Words) → doc ≡ front ++ ts → P.stands front → (x : Option A) (rest : Words)
      → ((all : List A) (front ts : Words) → doc ≡ front ++ ts → P.stands front → Says (Doc doc) (Added all ts) (many_from P.one n all ts))
      → ts ≡ maybe P.words x ++ rest → IfThere P.is x → Says (Doc doc) (Added all ts) (one_more x (λ y. many_from P.one n (all ++ y ∷ []) rest) (Ok (all, rest)))
  part_then n all doc front ts g here (Some x) rest more e p =
      carry (Doc doc) (Added (all ++ x ∷ []) rest) (Added all ts) _
      (λ xs r a. (x ∷ a.0, a.1 ∙ append_assoc all (x ∷ []) a.0, e ∙ ap (λ z. P.words x ++ z) a.2 ∙ sym (append_assoc (P.words x) (each P.words a.0) r), (p, a.3)))
      (more (all ++ x ∷ []) (front ++ P.words x) rest (g ∙ ap (λ z. front ++ z) e ∙ sym (append_assoc front (P.words x) rest)) (P.more x p front here))
  part_then n all doc front ts g here None rest more e p = ([], sym (append-nil all), e, tt)

  many_says : (n : ℕ) (all : List A) (doc front ts : Words) → doc ≡ front ++ ts → P.stands front → Says (Doc doc) (Added all ts) (many_from P.one n all ts)
  unfolding many_from
  many_says zero all doc front ts g here = ([], sym (append-nil all), refl, tt)
  many_says (suc n) all doc front ts g here = says_then (Doc doc) (λ x r. (ts ≡ maybe P.words x ++ r) × IfThere P.is x) (Added all ts) (P.one ts) _ (P.sound doc front ts g here)
      (λ x rest a. part_then n all doc front ts g here x rest (λ all front ts g here. many_says n all doc front ts g here) a.0 a.1)

  pub many_sound : SoundAt P.stands (Each P.is) (each P.words) (many P.one)
  many_sound doc front ts g here = carry (Doc doc) (Added [] ts) (Listed ts) (many P.one ts)
      (λ xs r a. (a.2 ∙ ap (λ z. each P.words z ++ r) (sym a.1), subst (Each P.is) (sym a.1) a.3)) (many_says _ [] doc front ts g here)

  -- each list begins so that it may follow
  pub each_follows : (xs : List A) → Each P.is xs → (tail : Words) → P.follows tail → P.follows (each P.words xs ++ tail)
  each_follows [] p tail h = h
  each_follows (x ∷ xs) p tail h = subst P.follows (sym (append_assoc (P.words x) (each P.words xs) tail)) (P.starts x p.0 (each P.words xs ++ tail))

  many_full : (n : ℕ) (all xs : List A) → Each P.is xs → (tail : Words) → P.follows tail → P.one tail ≡ Ok (None, tail) → length (each P.words xs) ≤ n
      → many_from P.one n all (each P.words xs ++ tail) ≡ Ok (all ++ xs, tail)
  unfolding many_from
  many_full zero all [] p tail h ends fits = ap (λ z. Ok (z, tail)) (sym (append-nil all))
  many_full zero all (x ∷ xs) p tail h ends fits = absurd (omega (arith, fits, P.some x p.0, length-append (P.words x) (each P.words xs)))
  many_full (suc n) all [] p tail h ends fits = then_is (P.one tail) _ (None, tail) ends ∙ ap (λ z. Ok (z, tail)) (sym (append-nil all))
  many_full (suc n) all (x ∷ xs) p tail h ends fits =
      let rest : Words = each P.words xs ++ tail in
      let shorter : length (each P.words xs) ≤ n = omega (arith, fits, P.some x p.0, length-append (P.words x) (each P.words xs)) in
      ap (many_from P.one (suc n) all) (append_assoc (P.words x) (each P.words xs) tail)
      ∙ then_is (P.one (P.words x ++ rest)) _ (Some x, rest) (P.full x p.0 rest (each_follows xs p.1 tail h))
      ∙ many_full n (all ++ x ∷ []) xs p.1 tail h ends shorter ∙ ap (λ z. Ok (z, tail)) (append_assoc all (x ∷ []) xs)

  pub many_is : (xs : List A) → Each P.is xs → (tail : Words) → P.follows tail → P.one tail ≡ Ok (None, tail) → many P.one (each P.words xs ++ tail) ≡ Ok (xs, tail)
  many_is xs p tail h ends = many_full (length (each P.words xs ++ tail)) [] xs p tail h ends (omega (arith, length-append (each P.words xs) tail))

  -- a list of parts is a part
  abbrev pub listed : Format (List A)
  listed = record {
    is = Each P.is;
    words = each P.words;
    read = many P.one;
    before = λ tail. P.follows tail × (P.one tail ≡ Ok (None, tail));
    stands = P.stands;
    sound = many_sound;
    full = λ xs p tail h. many_is xs p tail h.0 h.1;
  }

-- ---- lists up to a mark

module _ {A : Type 0} (F : Format A) (close : Mark) (stands : Words → Type 0) (here : (front : Words) → stands front → F.stands front) (more : (x : A) → F.is x → (front : Words) → stands front → stands (front ++ F.words x))
    (follows : Words → Type 0) (behind : (tail : Words) → follows tail → F.before tail)
    (starts : (x : A) → F.is x → (tail : Words) → follows (F.words x ++ tail)) (apart : (x : A) → F.is x → (tail : Words) → sees close (F.words x ++ tail) ≡ false)
    (some : (x : A) → F.is x → 0 < length (F.words x)) where
  pub until_sound : (doc front ts : Words) → doc ≡ front ++ ts → stands front → Says (Doc doc) (λ x r. (ts ≡ maybe F.words x ++ r) × IfThere F.is x) (until close F.read ts)
  unfolding until
  until_sound doc front ts g s = says_cond (Doc doc) (λ x r. (ts ≡ maybe F.words x ++ r) × IfThere F.is x) (sees close ts) _ _ (λ _. (refl, tt))
      (λ _. says_then (Doc doc) (Takes F.is F.words ts) (λ x r. (ts ≡ maybe F.words x ++ r) × IfThere F.is x) (F.read ts) _ (F.sound doc front ts g (here front s)) (λ x r t. t))

  pub until_full : (x : A) → F.is x → (tail : Words) → follows tail → until close F.read (F.words x ++ tail) ≡ Ok (Some x, tail)
  unfolding until
  until_full x p tail h = cond_false (sees close (F.words x ++ tail)) _ _ (apart x p tail) ∙ then_is (F.read (F.words x ++ tail)) _ (x, tail) (F.full x p tail (behind tail h))

  abbrev pub parts_until : Parts A
  parts_until = record { is = F.is; words = F.words; one = until close F.read; follows = follows; stands = stands; more = more; sound = until_sound; full = until_full; starts = starts; some = some }

-- none is left before the mark
pub until_ends : {A : Type 0} (close : Mark) (one : Parser A) (tail : Words) → sees close tail ≡ true → until close one tail ≡ Ok (None, tail)
unfolding until
until_ends close one tail h = cond_true (sees close tail) _ _ h
