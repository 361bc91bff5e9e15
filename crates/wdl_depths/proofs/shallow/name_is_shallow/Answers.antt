use Rattle.std.proofs.Common.{false, get_or, ap, sym, ◌∙◌}
use Rattle.wdl_typed.specs.KnownTypes.{is_shallow}
use Rattle.wdl_depths.proofs.DepthLemmas.{level-found, level-missing}
use Rattle.wdl_depths.proofs.shallow.name_is_shallow.Goals as goal

pub returns-in-Some : goal.returns-in-Some
returns-in-Some c =
    ap (λ ts. get_or ts c.in-Some.place false) c.requires
    ∙ level-found (is_shallow c.args.level c.args.structs.now) c.args.name.now c.args.structs.now c.in-Some.place false c.in-Some.ensures.within c.in-Some.ensures.found

pub returns-in-None : goal.returns-in-None
returns-in-None c = level-missing c.args.level c.args.structs.now c.args.name.now (sym c.in-None.ensures.found)
