-- An answer is known by its fields.
use Rattle.std.proofs.Common.{◌≡◌, true, ap, subst}
use Rattle.std.proofs.Math.Bool.{Bool-set}
use Rattle.wdl_base.specs.Answers.{is_answer}
use Rattle.wdl_base.specs.declared.answer.Answer.{Answer}

pub same_answer : (a b : Answer) → a.status ≡ b.status → a.out ≡ b.out → a.err ≡ b.err → a.files ≡ b.files → a ≡ b
same_answer a b status out err files =
    let kept = λ (k : is_answer a.out a.err a.files ≡ true).
    ap (λ k. record { status = a.status; out = a.out; err = a.err; files = a.files; kept = k }) (Bool-set (is_answer a.out a.err a.files) true a.kept k) in
    subst (λ x. (k : is_answer b.out b.err b.files ≡ true) → a ≡ record { status = x; out = b.out; err = b.err; files = b.files; kept = k }) status
    (subst (λ x. (k : is_answer x b.err b.files ≡ true) → a ≡ record { status = a.status; out = x; err = b.err; files = b.files; kept = k }) out
    (subst (λ x. (k : is_answer a.out x b.files ≡ true) → a ≡ record { status = a.status; out = a.out; err = x; files = b.files; kept = k }) err
    (subst (λ x. (k : is_answer a.out a.err x ≡ true) → a ≡ record { status = a.status; out = a.out; err = a.err; files = x; kept = k }) files kept)))
    b.kept
