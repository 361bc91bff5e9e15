use Rattle.std.proofs.Common.{ap, sym, ◌∙◌}
use Rattle.std.specs.List.{list_all}
use Rattle.wdl_typed.specs.KnownTypes.{is_shallow, some_structs}
use Rattle.wdl_depths.proofs.DepthLemmas.{is_shallow-next}
use Rattle.wdl_depths.proofs.shallow.is_shallow_next.Goals as goal

pub returns-in-Some : goal.returns-in-Some
returns-in-Some c =
    c.members_are_shallow.ensures
    ∙ ap (λ o. list_all (is_shallow c.args.level c.args.structs.now) (some_structs o)) c.in-Some.ensures
    ∙ sym (is_shallow-next c.args.level c.args.structs.now c.args.name.now)

pub returns-in-None : goal.returns-in-None
returns-in-None c =
    ap (λ o. list_all (is_shallow c.args.level c.args.structs.now) (some_structs o)) c.in-None.ensures
    ∙ sym (is_shallow-next c.args.level c.args.structs.now c.args.name.now)
