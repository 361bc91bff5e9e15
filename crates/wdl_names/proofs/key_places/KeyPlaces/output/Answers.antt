use Rattle.std.proofs.Common.{ap, option_and_then, ◌∙◌}
use Rattle.std.specs.BTreeMap.{get_by_text}
use Rattle.wdl_names.specs.declared.name_places.NamePlaces.{NamePlaces}
use Rattle.wdl_names.proofs.key_places.KeyPlaces.output.Goals as goal

pub returns-in-Some : goal.returns-in-Some
returns-in-Some c =
    c.get.ensures ∙ ap (option_and_then (λ (names : NamePlaces). get_by_text names.places c.args.name.now)) c.in-Some.ensures
