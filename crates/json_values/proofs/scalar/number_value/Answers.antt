use Rattle.std.proofs.Common.{option_and_then, rules, sym, ap, ◌∙◌}
use mir.Syntax.{w64}
use mir.Val.{SFits}
use Rattle.wdl_value.specs.declared.ty.Ty.{Ty, out-Ty}
use Rattle.wdl_value.specs.declared.ty.Ty.TheVariants as ty
use Rattle.serde_json.specs.View.{number_view}
use Rattle.json_values.specs.Reading.{int_of, number_read}
use Rattle.json_values.proofs.Numerals.{int_of-word}
use Rattle.json_values.proofs.scalar.number_value.Goals as goal

pub returns-in_ok-as_i64-in-Int : goal.returns-in_ok-as_i64-in-Int
returns-in_ok-as_i64-in-Int c =
    let fits : SFits w64 c.in_ok-as_i64-in-Int.field-0 = search rules in
    int_of-word c.in_ok-as_i64-in-Int.field-0 fits
    ∙ ap (option_and_then int_of) (sym c.in_ok-as_i64-in-Int.was ∙ c.as_i64.ensures)
    ∙ sym (ap (λ (k : Ty). number_read (number_view c.args.n.now) (out-Ty k)) c.in-Int.is ∙ ap (number_read (number_view c.args.n.now)) ty.outs-Int)
