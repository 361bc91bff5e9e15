-- Paths of files.
use Rattle.std.proofs.Common.{◌≡◌, ◌≢◌, ℕ, ◌==◌, Bool, true, false, cond, ◌&&◌, List, [], ◌∷◌, ◌++◌, Option, Some, None, MatchOption, refl, sym, ap, ◌∙◌, option_and_then, Bor, not, Ok, Err}
use Rattle.std.proofs.lemmas.Bool.{eqb-true, eq-eqb}
use Rattle.std.specs.Option.{option_copied}
use Rattle.std.specs.Str.Pattern.{FindsTextPrefix, LacksTextAt, StripsPrefix}
use Rattle.wdl_value.specs.Files.{stripped, bytes_text}
use Rattle.wdl_base.specs.declared.fault.EvalCode.TheVariants.{NotText}
use Rattle.wdl_base.specs.Plain.{has_nul}
use Rattle.std.specs.Str.{IsUtf8, is_utf8}
use Rattle.std.proofs.lemmas.Str.{IsUtf8-from_is_utf8, is_utf8-from_IsUtf8}

-- ---- what follows a text

stripped-append : (p r : List ℕ) → stripped p (p ++ r) ≡ Some r
stripped-append [] r = refl
stripped-append (c ∷ cs) r = ap (λ b. cond b (stripped cs (cs ++ r)) None) (eq-eqb c c refl) ∙ stripped-append cs r

pub stripped-two : (p q s : List ℕ) → stripped (p ++ q) s ≡ option_and_then (stripped q) (stripped p s)
stripped-two [] q s = refl
stripped-two (c ∷ p) q [] = refl
stripped-two (c ∷ p) q (d ∷ s) = elim (c == d) as (λ b. cond b (stripped (p ++ q) s) None ≡ option_and_then (stripped q) (cond b (stripped p s) None)) [ true ↦ stripped-two p q s | false ↦ refl ]

stripped-none : (p s : List ℕ) → ((r : List ℕ) → s ≢ p ++ r) → stripped p s ≡ None
stripped-none [] s h = absurd (h s refl)
stripped-none (c ∷ p) [] h = refl
stripped-none (c ∷ p) (d ∷ s) h = by_first (stripped-none p s) (c == d) refl
  where
    by_first : (((r : List ℕ) → s ≢ p ++ r) → stripped p s ≡ None) → (b : Bool) → (c == d) ≡ b → cond b (stripped p s) None ≡ None
    by_first rest true e = rest (λ r k. h r (ap (λ z. z ∷ s) (sym (eqb-true c d e)) ∙ ap (λ z. c ∷ z) k))
    by_first rest false e = refl

-- what a text without `p` at its front has left
pub stripped-is : (p s : List ℕ) (r : Option (Bor (List ℕ))) → MatchOption r ((rest : List ℕ) → s ≢ p ++ rest) (λ x. s ≡ p ++ x.now) → option_copied r ≡ stripped p s
stripped-is p s None h = sym (stripped-none p s h)
stripped-is p s (Some x) h = sym (ap (stripped p) h ∙ stripped-append p x.now)

-- the clause of `strip_prefix` at a text
pub prefix_text : (p s : List ℕ) (r : Option (Bor (List ℕ))) → MatchOption r (LacksTextAt p s 0) (λ x. StripsPrefix (FindsTextPrefix p) s x.now) → MatchOption r ((rest : List ℕ) → s ≢ p ++ rest) (λ x. s ≡ p ++ x.now)
prefix_text p s None h = h
prefix_text p s (Some x) h = h.1.1 ∙ ap (λ z. p ++ z) (sym h.2)

-- ---- texts of bytes

pub bytes_text-not : (bytes : List ℕ) → (IsUtf8 bytes → ⊥) → bytes_text bytes ≡ Err NotText
bytes_text-not bytes h = ap (λ b. cond (b && not (has_nul bytes)) (Ok bytes) (Err NotText)) (by_test (is_utf8 bytes) refl)
  where
    by_test : (b : Bool) → is_utf8 bytes ≡ b → b ≡ false
    by_test true e = absurd (h (IsUtf8-from_is_utf8 bytes e))
    by_test false e = refl

pub bytes_text-plain : (bytes : List ℕ) → IsUtf8 bytes → has_nul bytes ≡ false → bytes_text bytes ≡ Ok bytes
bytes_text-plain bytes h k =
    ap (λ b. cond (b && not (has_nul bytes)) (Ok bytes) (Err NotText)) (is_utf8-from_IsUtf8 bytes h) ∙ ap (λ b. cond (not b) (Ok bytes) (Err NotText)) k
