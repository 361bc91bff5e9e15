use Rattle.std.proofs.Common.{drop}
use Rattle.wdl_check_decls.proofs.ListLaws.{Leads}
use Rattle.wdl_check_rules.specs.Locals.{stands_for}
use Rattle.wdl_check_doc.specs.Outcomes.{all}
use Rattle.wdl_check_doc.specs.Structs.{member_typed}
use Rattle.wdl_check_doc.proofs.section.check_members.Given as goal

abbrev pub invariant-loop-member : goal.invariant-loop-member
invariant-loop-member l = Leads (all (member_typed (stands_for l.locals)) (drop l.member-index l.members)) (all (member_typed (stands_for l.locals)) l.members)
