use Rattle.std.proofs.Common.{option_map, ap, ◌∙◌}
use Rattle.serde_json.specs.Find.{get_member}
use Rattle.serde_json.specs.View.{view, members_view}
use Rattle.serde_json.proofs.Views.{view_of_ref, view-lookup}
use Rattle.wdl_json.proofs.member.member.Goals as goal

pub returns : goal.returns
returns c =
    view_of_ref c.get.result
    ∙ ap (option_map view) c.get.ensures.value
    ∙ view-lookup c.as_str.result.now c.args.members.now.entries
    ∙ ap (λ n. get_member n (members_view c.args.members.now.entries)) c.as_str.ensures.value
