use Rattle.std.proofs.Common.{◌≡◌, ◌++◌, drop, map}
use Rattle.wdl_ast.specs.declared.document.StructMember.{StructMember}
use Rattle.wdl_check_doc.proofs.section.idents_of.Given as goal

abbrev pub invariant-loop-member : goal.invariant-loop-member
invariant-loop-member l = map (λ n. n.now) l.idents.items ++ map (λ (m : StructMember). m.name) (drop l.member-index l.members) ≡ map (λ m. m.name) l.members
