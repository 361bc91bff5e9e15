use Rattle.std.proofs.Common.{◌≡◌, ◌==◌, false, length, Some, ap, ◌∙◌, rules, List, ℕ}
use Rattle.wdl_base.specs.Plain.{has_nul}
use Rattle.wdl_stdlib.proofs.FileNames.{join_named, join_plain}
use Rattle.wdl_stdlib.proofs.file_names.name_of.Goals as goal

pub from_string-requires : goal.from_string-requires
from_string-requires c =
    let some : (length c.args.parts.now == 0) ≡ false = search rules in
    ap has_nul c.in_ok-join.ensures.ok ∙ join_plain c.args.parts.now some c.requires

pub returns : goal.returns
returns c =
    let some : (length c.args.parts.now == 0) ≡ false = search rules in
    ap (λ (t : List ℕ). Some t) (c.from_string.ensures ∙ c.in_ok-join.ensures.ok) ∙ join_named c.args.parts.now some
