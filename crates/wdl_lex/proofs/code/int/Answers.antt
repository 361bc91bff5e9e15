use Rattle.std.proofs.Common.{◌≡◌, ℕ, suc, ◌+◌, ◌-◌, ◌<◌, ◌≤◌, negsuc, Bool, true, false, not, cond, nat_lt, nat_le, ◌∙◌, ap, sym, subst, length, take, drop, Some, Ok, Err, Result, ℤ, pos, w64, arith}
use Rattle.std.proofs.lemmas.Bool.{cond-false, lt-ltb, leb-true}
use Rattle.std.proofs.lemmas.List.{length-take-le}
use Rattle.std.specs.Str.Parse.{digits_value}
use Rattle.wdl_ast.specs.declared.token.Kind.TheVariants as kind
use Rattle.wdl_ast.specs.Spelled.Classes.{Bytes, is_digit_of, are_digits, is_word_byte, first}
use Rattle.wdl_lex.specs.declared.fault.Flaw.{Flaw}
use Rattle.wdl_lex.specs.Reading.Code.{Found, flaw, checked}
use Rattle.wdl_lex.specs.Reading.Numbers.{digits_len, base_of, int_from, int_at}
use Rattle.wdl_lex.proofs.Digits.{digits_plain, plain_utf8, front_digits, ints_ok, ints_err}
use Rattle.wdl_lex.proofs.NumberLaws.{some_int_digits}
use Rattle.wdl_lex.proofs.code.int.Goals as goal
use mir.Val.{of_z, to_z, sel}

-- what was measured is the integer at the front
int_read : (z digits text : Bytes) (r : ℕ × ℕ) (len : ℕ) → r ≡ base_of z → digits ≡ drop r.1 z → len ≡ digits_len r.0 digits → text ≡ take len digits → int_at z ≡ (kind.Int (pos (digits_value r.0 text)), r.1 + len)
unfolding int_at
int_read z digits text r len b d n t =
    ap (λ (x : ℕ × ℕ). int_from x z) (sym b)
    ∙ ap (λ y. (kind.Int (pos (digits_value r.0 (take (digits_len r.0 y) y))), r.1 + digits_len r.0 y)) (sym d)
    ∙ ap (λ k. (kind.Int (pos (digits_value r.0 (take k digits))), r.1 + k)) (sym n)
    ∙ ap (λ x. (kind.Int (pos (digits_value r.0 x)), r.1 + len)) (sym t)

int_checked : (z : Bytes) (v end : ℕ) → int_at z ≡ (kind.Int (pos v), end) → is_word_byte (first (drop end z)) ≡ false → (t : Bool) → nat_le v 9223372036854775807 ≡ t → checked true z (Some (int_at z)) ≡ cond (not t) (Err (flaw 106 0 end)) (Ok (kind.Int (pos v), end))
int_checked z v end e w t q =
    ap (λ (x : Found). checked true z (Some x)) e ∙ cond-false (not (not (is_word_byte (first (drop end z))))) _ _ (ap (λ x. not (not x)) w) ∙ ap (λ x. cond (not x) (Err (flaw 106 0 end)) (Ok (kind.Int (pos v), end))) q

-- a value keeps its bits
kept : (v : ℕ) (i : ℤ) → i ≡ pos v → nat_le v 9223372036854775807 ≡ true → pos v ≡ to_z w64 (of_z w64 i)
kept v i e h =
    let small : nat_lt v 9223372036854775808 ≡ true = lt-ltb v 9223372036854775808 (let q = leb-true v 9223372036854775807 h in omega (arith, q)) in
    sym (ap (λ x. to_z w64 (of_z w64 x)) e ∙ ap (λ b. sel b (pos v) (negsuc (18446744073709551616 - suc v))) small)

digits_are : (z digits text : Bytes) (base len : ℕ) → len ≡ digits_len base digits → text ≡ take len digits → are_digits base text ≡ true
digits_are z digits text base len n t = ap (are_digits base) (t ∙ ap (λ k. take k digits) n) ∙ front_digits base digits

pub as_str-requires : goal.as_str-requires
as_str-requires c =
    plain_utf8 c.front.result.now (digits_plain c.base_of-base.result.0 c.front.result.now c.base_of-base.ensures.high (digits_are c.args.z.now c.behind-digits.result.now c.front.result.now c.base_of-base.result.0 c.digits_len-len.result c.digits_len-len.ensures.value c.front.ensures))

pub returns-in-Ok : goal.returns-in-Ok
returns-in-Ok c =
    let base : ℕ = c.base_of-base.result.0 in
    let end : ℕ = c.base_of-base.result.1 + c.digits_len-len.result in
    let v : ℕ = digits_value base c.front.result.now in
    let ds = digits_are c.args.z.now c.behind-digits.result.now c.front.result.now base c.digits_len-len.result c.digits_len-len.ensures.value c.front.ensures in
    let is = ints_ok base c.front.result.now c.as_str.result.now c.in-Ok.value c.base_of-base.ensures.high ds c.as_str.ensures c.in-Ok.ensures.value in
    let read = int_read c.args.z.now c.behind-digits.result.now c.front.result.now c.base_of-base.result c.digits_len-len.result c.base_of-base.ensures.value c.behind-digits.ensures c.digits_len-len.ensures.value c.front.ensures in
    let word : is_word_byte (first (drop end c.args.z.now)) ≡ false = ap (λ x. is_word_byte (first x)) (sym c.behind.ensures) ∙ ap is_word_byte (sym c.first.ensures) ∙ sym c.is_word_byte.ensures ∙ c.if-is_word_byte.false in
    int_checked c.args.z.now v end read word true is.1 ∙ ap (λ x. Ok (kind.Int x, end)) (kept v c.in-Ok.value is.0 is.1)

digits_some : (z digits text : Bytes) (r : ℕ × ℕ) (len : ℕ) → r ≡ base_of z → digits ≡ drop r.1 z → len ≡ digits_len r.0 digits → text ≡ take len digits → len ≤ length digits → is_digit_of 10 (first z) ≡ true → 0 < length text
digits_some z digits text r len b d n t fits h =
    let some = some_int_digits z h in
    let same : digits_len r.0 digits ≡ digits_len (base_of z).0 (drop (base_of z).1 z) = ap (digits_len r.0) d ∙ ap (λ (x : ℕ × ℕ). digits_len x.0 (drop x.1 z)) b in
    omega (arith, some, same, n, ap length t, length-take-le len digits fits)

fails : (r : Result Found Flaw) (end : ℕ) (s : Rattle.wdl_lex.specs.declared.fault.NoToken.NoToken) → r ≡ Err (flaw 106 0 end) → s ≡ Rattle.wdl_lex.specs.Reading.Code.flawed 106 end → Rattle.wdl_lex.specs.Reading.Code.Fails r s
fails r end s e q = subst (Rattle.wdl_lex.specs.Reading.Code.Fails r) (sym q) e

pub returns-in-Err : goal.returns-in-Err
returns-in-Err c =
    let base : ℕ = c.base_of-base.result.0 in
    let end : ℕ = c.base_of-base.result.1 + c.digits_len-len.result in
    let v : ℕ = digits_value base c.front.result.now in
    let ds = digits_are c.args.z.now c.behind-digits.result.now c.front.result.now base c.digits_len-len.result c.digits_len-len.ensures.value c.front.ensures in
    let read = int_read c.args.z.now c.behind-digits.result.now c.front.result.now c.base_of-base.result c.digits_len-len.result c.base_of-base.ensures.value c.behind-digits.ensures c.digits_len-len.ensures.value c.front.ensures in
    let word : is_word_byte (first (drop end c.args.z.now)) ≡ false = ap (λ x. is_word_byte (first x)) (sym c.behind.ensures) ∙ ap is_word_byte (sym c.first.ensures) ∙ sym c.is_word_byte.ensures ∙ c.if-is_word_byte.false in
    let some = digits_some c.args.z.now c.behind-digits.result.now c.front.result.now c.base_of-base.result c.digits_len-len.result c.base_of-base.ensures.value c.behind-digits.ensures c.digits_len-len.ensures.value c.front.ensures c.digits_len-len.ensures.within c.requires in
    let big = ints_err base c.front.result.now c.as_str.result.now c.base_of-base.ensures.high some ds c.as_str.ensures c.in-Err.ensures.value in
    fails _ end c.flawed-in-Err.result (int_checked c.args.z.now v end read word false big) c.flawed-in-Err.ensures
