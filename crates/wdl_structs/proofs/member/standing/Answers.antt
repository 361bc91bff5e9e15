use Rattle.std.proofs.Common.{◌≡◌, sym, ap, ◌∙◌, subst, slice_get, Some, false}
use Rattle.wdl_base.specs.Names.{is_among}
use Rattle.wdl_library.specs.declared.doc.StructName.{StructName}
use Rattle.wdl_structs.specs.Tables.{Names}
use Rattle.wdl_structs.proofs.KeptLaws.{if_ok}
use Rattle.wdl_structs.proofs.UniqueLaws.{stand_read, stand_unknown}
use Rattle.wdl_structs.proofs.member.standing.Goals as goal

pub returns-in-Some : goal.returns-in-Some
returns-in-Some c =
    if_ok c.copy.result _ _
    (ap (λ (s : StructName). s.stands_for) (sym c.index-names-at.is) ∙ stand_read c.args.names.now c.in-Some.at c.args.name.now c.index-names-at.result c.requires.distinct
    (subst (λ (ns : Names). slice_get ns c.in-Some.at ≡ Some c.args.name.now) c.requires.names c.in-Some.ensures.some) c.index-names-at.is) c.copy.ensures

pub returns-in-None : goal.returns-in-None
returns-in-None c =
    if_ok c.copy-in-None.result _ _ (sym (stand_unknown c.args.names.now c.args.name.now (subst (λ (ns : Names). is_among c.args.name.now ns ≡ false) c.requires.names c.in-None.ensures.none))) c.copy-in-None.ensures
