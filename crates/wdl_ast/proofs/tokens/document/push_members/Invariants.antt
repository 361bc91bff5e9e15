use Rattle.std.proofs.Common.{◌≡◌, ◌++◌, drop}
use Rattle.wdl_ast.specs.DocumentWords.{each, struct_member_words}
use Rattle.wdl_ast.proofs.tokens.document.push_members.Given as goal

abbrev pub invariant-loop-member : goal.invariant-loop-member
invariant-loop-member l = l.out ++ each struct_member_words (drop l.member-index l.members) ≡ l.fn.out ++ each struct_member_words l.members
