use Rattle.std.proofs.Common.{rules}
use Rattle.struct_names.proofs.KnownLaws.{known_is}
use Rattle.struct_names.proofs.known.naming_of.Goals as goal

pub returns : goal.returns
returns c = known_is c.args.doc.now c.in_ok-locals.locals.items (search rules)
