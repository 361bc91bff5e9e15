use Rattle.std.proofs.Common.{◌≡◌, ℕ, Ok, Err, ap, sym, ◌∙◌, subst, to_z, of_z}
use Rattle.std.proofs.lemmas.Int.{to_z-of_z}
use mir.Syntax.{w64}
use mir.Val.{SFits}
use Rattle.wdl_value.specs.declared.value.Value.TheVariants as v
use Rattle.wdl_stdlib.proofs.Numerals.{signed_says, not_text_says}
use Rattle.wdl_stdlib.proofs.reads.signed.Goals as goal

pub returns-in_default : goal.returns-in_default
returns-in_default c d h = let e = not_text_says c.args.bytes.now c.in_default.ensures.cases.0 in cc

pub returns-in-Ok-parse : goal.returns-in-Ok-parse
returns-in-Ok-parse c =
    let n = c.in-Ok-parse.n in
    let read = c.in-Ok-parse.ensures.value.0 in
    let says = rw c.in-Ok.ensures.cases.0 at (signed_says {E = ℕ} c.in-Ok.numeral.now (Ok n) read) in
    let same : to_z w64 (of_z w64 n) ≡ n = to_z-of_z w64 n (subst (SFits w64) (sym read.1) read.0.1) in
    says ∙ ap (λ z. Ok (v.Int z)) (sym same)

pub returns-in-Err : goal.returns-in-Err
returns-in-Err c d h =
    let says = rw c.in-Ok.ensures.cases.0 at (signed_says {E = ℕ} c.in-Ok.numeral.now (Err 0) c.in-Err.ensures.value.0) in
    cc
