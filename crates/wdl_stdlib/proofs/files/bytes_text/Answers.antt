use Rattle.std.proofs.Common.{◌≡◌, Ok, ap, sym, ◌∙◌}
use Rattle.wdl_base.specs.Plain.{has_nul}
use Rattle.wdl_stdlib.proofs.Names.{bytes_text-not, bytes_text-plain}
use Rattle.wdl_stdlib.proofs.files.bytes_text.Goals as goal

pub returns-in_default : goal.returns-in_default
returns-in_default c d h = let e = bytes_text-not c.args.bytes.now c.in_default.ensures.cases.0 in cc

pub returns-in-Ok-new : goal.returns-in-Ok-new
returns-in-Ok-new c =
    let same : c.in-Ok.text.now ≡ c.args.bytes.now = c.in-Ok.ensures.cases.0 in
    bytes_text-plain c.args.bytes.now c.in-Ok.ensures.cases.1 (sym (ap has_nul same) ∙ c.in-Ok-new.ensures.plain) ∙ ap Ok (sym (c.in-Ok-new.ensures.value ∙ same))
