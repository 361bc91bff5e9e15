use Rattle.std.proofs.Common.{◌≡◌, false, rules}
use Rattle.library_calls.specs.Fields.{holds_refused}
use Rattle.library_calls.proofs.FieldLoops.{refused_plain}
use Rattle.library_calls.proofs.fields.push_chars.Goals as goal

pub from_plain-requires : goal.from_plain-requires
from_plain-requires c = let calm : holds_refused c.args.chars.now ≡ false = search rules in refused_plain c.args.chars.now calm
