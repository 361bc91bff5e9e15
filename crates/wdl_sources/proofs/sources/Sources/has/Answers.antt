use Rattle.std.proofs.Common.{ap, ◌∙◌, is_some}
use Rattle.wdl_base.specs.Names.{is_among}
use Rattle.wdl_sources.specs.Walks.{paths}
use Rattle.wdl_sources.proofs.PathLemmas.{at_path, found_path}
use Rattle.wdl_sources.proofs.sources.Sources.has.Goals as goal

pub returns : goal.returns
returns c =
    let entries = c.self.inside.by_path.entries in
    c.contains_key.ensures ∙ ap (λ p. is_some (at_path p entries)) c.as_str.ensures.value ∙ found_path c.args.path.now entries c.self.invariant
    ∙ ap (λ ss. is_among c.args.path.now (paths ss)) c.self.view_is
