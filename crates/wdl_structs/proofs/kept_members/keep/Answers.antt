use Rattle.std.proofs.Common.{List, ap, sym, subst, ◌∙◌}
use Rattle.wdl_value.specs.declared.ty.Member.{Member}
use Rattle.wdl_structs.specs.Members.{same_members}
use Rattle.wdl_structs.specs.Kept.{Kept, Has}
use Rattle.wdl_structs.proofs.KeptLaws.{kept_found, kept_new}
use Rattle.wdl_structs.proofs.kept_members.keep.Goals as goal

pub returns-in-Some : goal.returns-in-Some
returns-in-Some c =
    kept_found c.args.kept.now c.args.at c.args.members c.in-Some.others.now c.same_members.result (subst (λ (k : Kept). Has k c.args.at c.in-Some.others.now) c.as_slice.ensures c.in-Some.ensures.some)
    (c.same_members.ensures ∙ ap (same_members c.in-Some.others.now) c.as_slice-in-Some.ensures)

pub returns : goal.returns
returns c = kept_new c.args.kept.now c.set.new.self c.args.at c.args.members c.requires (λ (x : List Member) h. c.in_default.ensures.none x (subst (λ (k : Kept). Has k c.args.at x) (sym c.as_slice.ensures) h)) c.set.ensures
