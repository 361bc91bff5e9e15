-- Bytes that are JSON.
use Rattle.std.proofs.Common.{◌≡◌, ℕ, Bool, true, false, cond, List, Some, None, refl, sym, ap, ◌∙◌}
use Rattle.std.proofs.lemmas.Str.{IsUtf8-from_is_utf8, is_utf8-from_IsUtf8}
use Rattle.std.specs.Str.{is_utf8, IsUtf8}
use Rattle.serde_json.specs.Data.{Data}
use Rattle.serde_json.specs.Read.{read}
use Rattle.wdl_json.specs.Inputs.{json_in}

pub some_json : (bytes : List ℕ) (d : Data) → IsUtf8 bytes → read bytes ≡ Some d → Some d ≡ json_in bytes
some_json bytes d u h = sym (ap (λ b. cond b (read bytes) None) (is_utf8-from_IsUtf8 bytes u) ∙ h)

pub no_json : (bytes : List ℕ) → (IsUtf8 bytes → read bytes ≡ None) → None ≡ json_in bytes
no_json bytes h = by_test (is_utf8 bytes) refl
  where
    by_test : (b : Bool) → is_utf8 bytes ≡ b → None ≡ cond b (read bytes) None
    by_test true e = sym (h (IsUtf8-from_is_utf8 bytes e))
    by_test false e = refl
