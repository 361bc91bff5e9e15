use Rattle.std.proofs.Common.{map, string_bytes}
use Rattle.clap.specs.Words.{app_of, kind_of}
use Rattle.wdl_words.proofs.Found.{met, missed_in, simple_of}
use Rattle.wdl_words.proofs.commands.matches_in.Goals as goal

pub returns-in_err-try_get_matches_from : goal.returns-in_err-try_get_matches_from
returns-in_err-try_get_matches_from c =
    missed_in (app_of c.args.command) (map string_bytes c.args.words.now) c.from_residual.result
    (kind_of c.in_err-try_get_matches_from.field-0.0) c.from_residual.ensures.1
    (c.in_err-try_get_matches_from.ensures.kinds c.requires)

pub returns : goal.returns
returns c =
    met (app_of c.args.command) (map string_bytes c.args.words.now) _ (c.in_ok-try_get_matches_from.ensures.kinds c.requires)
    (c.in_ok-try_get_matches_from.ensures.matches (simple_of (app_of c.args.command) c.requires)).0
