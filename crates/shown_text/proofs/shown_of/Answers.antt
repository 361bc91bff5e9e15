use Rattle.std.proofs.Common.{ap, ◌∙◌}
use Rattle.wdl_base.specs.Plain.{has_nul}
use Rattle.shown_text.proofs.Plain.{shown_plain}
use Rattle.shown_text.proofs.shown_of.Goals as goal

pub from_string-requires : goal.from_string-requires
from_string-requires c = ap has_nul c.in_ok-shown_string.ensures ∙ shown_plain c.args.text.now c.utf8.text c.requires
