-- A text without control characters is shown as it is.
use Rattle.std.proofs.Common.{◌≡◌, ℕ, false, List, [], ◌∷◌, ◌++◌, cond, refl, ap, ◌∙◌}
use Rattle.std.proofs.lemmas.Bool.{or_parts}
use Rattle.std.proofs.lemmas.Str.{encodes-chars}
use Rattle.std.specs.Char.{is_control}
use Rattle.std.specs.Char.Escape.{escape_default}
use Rattle.std.specs.List.{flat_map, list_any}
use Rattle.std.specs.Prelude.{encode_utf8, encode_utf8_all}
use Rattle.std.specs.Str.{IsUtf8, chars}
use Rattle.shown_text.specs.Shown.{shown_char, shown}

same_char : (c : ℕ) → is_control c ≡ false → shown_char c ≡ encode_utf8 c
same_char c h = ap (λ b. cond b (encode_utf8_all (escape_default c)) (encode_utf8 c)) h

same_chars : (cs : List ℕ) → list_any is_control cs ≡ false → flat_map shown_char cs ≡ encode_utf8_all cs
same_chars [] h = refl
same_chars (c ∷ cs) h =
    let p = or_parts (is_control c) (list_any is_control cs) h in
    ap (λ x. x ++ flat_map shown_char cs) (same_char c p.0) ∙ ap (λ x. encode_utf8 c ++ x) (same_chars cs p.1)

-- a text without control characters is exactly itself
pub shown_same : (s : List ℕ) → IsUtf8 s → list_any is_control (chars s) ≡ false → shown s ≡ s
unfolding shown
shown_same s u h = same_chars (chars s) h ∙ encodes-chars s u
