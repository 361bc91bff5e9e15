use Rattle.std.proofs.Common.{arith}
use Rattle.std.proofs.lemmas.Str.Pattern.{split_parts}
use Rattle.wdl_paths.proofs.Slashes.{is_cut}
use Rattle.wdl_paths.proofs.segment.cut.Goals as goal

pub returns : goal.returns
returns c = is_cut c.args.text.now c.split_once.result (split_parts 47 c.args.text.now c.split_once.result c.split_once.ensures.cases (omega arith))
