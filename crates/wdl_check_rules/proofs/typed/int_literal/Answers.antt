use Rattle.std.proofs.Common.{◌≡◌, ℤ, Bool, Some, None, Ok, ap, sym, ◌∙◌, if◌then◌else◌, to_z, of_z}
use Rattle.std.proofs.lemmas.Int.{to_z-of_z}
use mir.Syntax.{w64}
use Rattle.wdl_value.proofs.ValueTextLemmas.{is_int-fits}
use Rattle.wdl_value.specs.declared.ty.Ty.TheVariants as ty
use Rattle.wdl_value.specs.declared.value.Value.TheVariants as v
use Rattle.wdl_check_rules.specs.Checked.{or_bad}
use Rattle.wdl_check_rules.specs.Rules.{literal}
use Rattle.wdl_check_rules.proofs.typed.int_literal.Goals as goal

pub returns : goal.returns
returns c =
    let same : to_z w64 (of_z w64 c.args.value) ≡ c.args.value = to_z-of_z w64 c.args.value c.ranges.value in
    ap Ok c.literal.ensures ∙ ap (λ (n : ℤ). Ok (literal (v.Int n) ty.Int)) same
    ∙ sym (ap (λ (b : Bool). or_bad 106 c.args.span (if b then Some (literal (v.Int c.args.value) ty.Int) else None)) (is_int-fits c.args.value c.ranges.value))
