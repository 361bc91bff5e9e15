use Rattle.std.proofs.Common.{◌≡◌, Bool, List, ap, subst, ◌∙◌, Some, map, slice_get, refl}
use Rattle.wdl_ast.specs.declared.document.StructMember.{StructMember}
use Rattle.wdl_library.specs.Names.{names_in}
use Rattle.wdl_library.specs.Structs.{member_of, stand_in}
use Rattle.wdl_structs.specs.Tables.{Names}
use Rattle.wdl_structs.specs.Kept.{IsKept}
use Rattle.wdl_structs.proofs.KeptLaws.{kept_section, differing_section}
use Rattle.wdl_structs.proofs.kept_members.keep_section.Goals as goal

pub returns-then-keep : goal.returns-then-keep
returns-then-keep c =
    let names = c.args.names.now in
    let t = c.args.section.now in
    kept_section c.args.parents.now c.args.start (names_in names) (stand_in names) t c.in-Some.at c.least.result c.in_ok-members.members c.args.kept.now c.keep.new.kept c.requires.here.distinct
    (subst (λ (ns : Names). slice_get ns c.in-Some.at ≡ Some t.name.name) c.requires.here.named c.in-Some.ensures.some) c.least.ensures.root
    (c.in_ok-members.ensures ∙ ap (λ (ms : List StructMember). map (member_of (stand_in names)) ms) c.as_slice.ensures)
    (subst (λ (b : Bool). IsKept c.args.kept.now c.least.result c.in_ok-members.members c.keep.new.kept b) c.if-keep.true c.keep.ensures)

pub returns : goal.returns
returns c =
    let names = c.args.names.now in
    let t = c.args.section.now in
    differing_section c.args.parents.now c.args.start (names_in names) (stand_in names) t c.in-Some.at c.least.result c.in_ok-members.members c.args.kept.now c.keep.new.kept t.name.span
    (subst (λ (ns : Names). slice_get ns c.in-Some.at ≡ Some t.name.name) c.requires.here.named c.in-Some.ensures.some) c.least.ensures.root
    (c.in_ok-members.ensures ∙ ap (λ (ms : List StructMember). map (member_of (stand_in names)) ms) c.as_slice.ensures)
    (subst (λ (b : Bool). IsKept c.args.kept.now c.least.result c.in_ok-members.members c.keep.new.kept b) c.if-keep.false c.keep.ensures) refl
