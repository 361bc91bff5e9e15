use Rattle.std.proofs.Common.{◌∙◌, ap, sym}
use Rattle.wdl_base.specs.Plain.{has_nul}
use Rattle.command_text.proofs.Zeros.{counted_chars}
use Rattle.command_text.proofs.marked.Marked.push.Goals as goal

pub returns-in_ok-push_str-in-Chars-clause-counted : goal.returns-in_ok-push_str-in-Chars-clause-counted
returns-in_ok-push_str-in-Chars-clause-counted c =
    counted_chars c.args.part.now c.in-Chars.text c.in-Chars.is (ap has_nul (sym c.as_str.ensures.value) ∙ c.as_str.ensures.plain)
