use Rattle.std.proofs.Common.{ap, sym, ◌∙◌}
use Rattle.wdl_base.specs.Plain.{has_nul}
use Rattle.wdl_words.proofs.Slashes.{directory_plain}
use Rattle.wdl_words.proofs.values.directory_of.Goals as goal

pub from_plain-requires : goal.from_plain-requires
from_plain-requires c =
    ap has_nul c.without_slashes-root.ensures ∙ directory_plain c.args.text.now (sym c.is_directory.ensures ∙ c.if-not-is_directory.false)
