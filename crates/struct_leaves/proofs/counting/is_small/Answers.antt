use Rattle.std.proofs.Common.{sym, ◌∙◌}
use Rattle.struct_leaves.proofs.CountLaws.{small}
use Rattle.struct_leaves.proofs.counting.is_small.Goals as goal

pub returns-in-Some : goal.returns-in-Some
returns-in-Some c = small c.args.structs.now c.args.input.now c.in-Some.field-0 (sym c.is_record.ensures ∙ c.if-not-is_record.false) c.in-Some.ensures
