-- Reading the file of what was written.
use Rattle.std.proofs.Common.{◌≡◌, ℕ, ◌≤◌, Bool, true, false, cond, not, ◌&&◌, ◌||◌, nat_le, List, Some, Ok, Err, refl, sym, ap, ◌∙◌, arith}
use Rattle.std.proofs.lemmas.Bool.{false≢true}
use Rattle.std.proofs.lemmas.Bool.Decides.{nat_tests}
use Rattle.std.specs.Str.{is_utf8}
use Rattle.wdl_base.specs.declared.answer.Answer.{Answer}
use Rattle.wdl_base.specs.declared.body.Body.TheVariants.{Bytes}
use Rattle.wdl_base.specs.declared.fault.EvalCode.TheVariants.{NotText, TooLarge}
use Rattle.wdl_value.specs.declared.operator.Func.TheVariants as func
use Rattle.wdl_value.specs.declared.value.Value.{Value, Value-F}
use Rattle.wdl_value.specs.declared.value.Value.TheVariants as v
use Rattle.wdl_value.specs.Files.{file_body, body_text, file_text}
use Rattle.wdl_value.specs.Limits.{is_within, limited}
use Rattle.wdl_value.specs.Outcome.{Outcome, and_then}
use Rattle.wdl_base.specs.Plain.{has_nul}
use Rattle.wdl_value.specs.Reads.{lines_read, tsv_read, map_read}
use Rattle.wdl_value.specs.ValueText.{text_at, text_of}
use Rattle.wdl_files.specs.ReadBack.{ReadBack}
use Rattle.wdl_files.proofs.Within.{lines_within, tsv_within, map_within}
use Rattle.wdl_files.proofs.Written.{lines_back, tsv_back, map_back}

text_of-File : (path : List ℕ) → text_of (v.File path) ≡ path
text_of-File path = ap (λ (l : Value-F Value). text_at l) (v.outs-File path)

read_text : (dir path body : List ℕ) (answer : Answer) → is_utf8 body ≡ true → has_nul body ≡ false → file_body dir (Some answer) path ≡ Some (Bytes body) → file_text dir (Some answer) (text_of (v.File path)) ≡ Ok body
read_text dir path body answer u n is =
    ap (file_text dir (Some answer)) (text_of-File path) ∙ ap body_text is
    ∙ ap (λ b. cond (b && not (has_nul body)) (Ok body) (Err NotText)) u ∙ ap (λ b. cond (not b) (Ok body) (Err NotText)) n

read_value : (text : Outcome (List ℕ)) (f : List ℕ → Outcome Value) (body : List ℕ) (x : Value) → text ≡ Ok body → f body ≡ Ok x → limited x ≡ Ok x → and_then (and_then text f) limited ≡ Ok x
read_value text f body x t r l = ap (λ z. and_then (and_then z f) limited) t ∙ ap (λ z. and_then z limited) r ∙ l

at_most : (n m : ℕ) → nat_le n m ≡ true → n ≤ m
at_most n m h = grind (arith, nat_tests)

-- a value that keeps the limits, or does by another test
kept : (x : Value) (n : ℕ) → (n ≤ 65536 → limited x ≡ Ok x) → is_within x || nat_le n 65536 ≡ true → limited x ≡ Ok x
kept x n h k = by_test (is_within x) refl
  where
    by_test : (b : Bool) → is_within x ≡ b → limited x ≡ Ok x
    by_test true e = ap (λ b. cond b (Ok x) (Err TooLarge)) e
    by_test false e = h (at_most n 65536 (sym (ap (λ b. b || nat_le n 65536) e) ∙ k))

pub read_back : ReadBack
read_back structs func.WriteLines x h k l u n dir path answer is =
    read_value _ lines_read _ x (read_text dir path _ answer u n is) (lines_back structs x h k) (kept x _ (lines_within structs x h) l)
read_back structs func.WriteTsv x h k l u n dir path answer is =
    read_value _ tsv_read _ x (read_text dir path _ answer u n is) (tsv_back structs x h k) (kept x _ (tsv_within structs x h k) l)
read_back structs func.WriteMap x h k l u n dir path answer is =
    read_value _ map_read _ x (read_text dir path _ answer u n is) (map_back structs x h k) (kept x _ (map_within structs x h) l)
read_back structs f x h k l u n dir path answer is = absurd (false≢true k)
