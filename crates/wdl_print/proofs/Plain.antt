-- What is written for the characters of a string, one behind the other; it holds no NUL where the string holds none.
use Rattle.std.proofs.Common.{◌≡◌, ℕ, ◌==◌, Bool, true, false, ◌||◌, List, [], ◌∷◌, ◌++◌, map, cond, refl, ap, sym, ◌∙◌, append_assoc}
use Rattle.std.proofs.lemmas.Bool.{or_parts}
use Rattle.std.proofs.lemmas.List.{append-nil}
use Rattle.std.proofs.lemmas.Str.{encodes-chars}
use Rattle.std.specs.Prelude.{encode_utf8, encode_utf8_all}
use Rattle.std.specs.Str.{IsUtf8, chars}
use Rattle.wdl_base.specs.Plain.{has_nul}
use Rattle.wdl_base.proofs.PlainLemmas.{has_nul-append}
use Rattle.wdl_ast.specs.declared.token.Quote.{Quote}
use Rattle.wdl_print.specs.TokenText.{escape, escaped, quote_byte}

-- one character more
pub escaped_more : (q : Quote) (cs : List ℕ) (c : ℕ) → escaped q (map (λ c. c) (cs ++ c ∷ [])) ≡ escaped q (map (λ c. c) cs) ++ escape q c
escaped_more q [] c = append-nil (escape q c)
escaped_more q (d ∷ cs) c = ap (λ x. escape q d ++ x) (escaped_more q cs c) ∙ sym (append_assoc (escape q d) (escaped q (map (λ c. c) cs)) (escape q c))

either : (b : Bool) (x y : List ℕ) → has_nul x ≡ false → has_nul y ≡ false → has_nul (cond b x y) ≡ false
either true x y h k = h
either false x y h k = k

one_plain : (q : Quote) (c : ℕ) → has_nul (encode_utf8 c) ≡ false → has_nul (escape q c) ≡ false
one_plain q c h =
    either (c == 92 || c == 126 || c == 36 || c == quote_byte q) (92 ∷ encode_utf8 c) _ h
    (either (c == 10) (92 ∷ 110 ∷ []) _ refl (either (c == 9) (92 ∷ 116 ∷ []) (encode_utf8 c) refl h))

parts : (x y : List ℕ) → has_nul (x ++ y) ≡ false → (has_nul x ≡ false) × (has_nul y ≡ false)
parts [] y h = (refl, h)
parts (b ∷ x) y h =
    let p = or_parts (b == 0) (has_nul (x ++ y)) h in
    let t = parts x y p.1 in
    (ap (λ t. t || has_nul x) p.0 ∙ t.0, t.1)

all_plain : (q : Quote) (cs : List ℕ) → has_nul (encode_utf8_all cs) ≡ false → has_nul (escaped q cs) ≡ false
all_plain q [] h = refl
all_plain q (c ∷ cs) h =
    let t = parts (encode_utf8 c) (encode_utf8_all cs) h in
    has_nul-append (escape q c) (escaped q cs) (one_plain q c t.0) (all_plain q cs t.1)

pub escaped_plain : (q : Quote) (s : List ℕ) → IsUtf8 s → has_nul s ≡ false → has_nul (escaped q (chars s)) ≡ false
escaped_plain q s u h = all_plain q (chars s) (ap has_nul (encodes-chars s u) ∙ h)
