use Rattle.std.proofs.Common.{Some, option_map, ap, sym, ◌∙◌}
use Rattle.wdl_value.specs.declared.ty.StructDef.{StructDef}
use Rattle.struct_members.proofs.FindLemmas.{members_of-find}
use Rattle.struct_members.proofs.members.members_of.Goals as goal

pub returns-in-Some : goal.returns-in-Some
returns-in-Some c =
    ap Some c.as_slice.ensures
    ∙ ap (option_map (λ (d : StructDef). d.members)) c.in-Some.ensures
    ∙ sym (members_of-find c.args.structs.now c.args.name.now)

pub returns-in-None : goal.returns-in-None
returns-in-None c =
    ap (option_map (λ (d : StructDef). d.members)) c.in-None.ensures ∙ sym (members_of-find c.args.structs.now c.args.name.now)
