use Rattle.std.proofs.Common.{◌≡◌, ◌++◌, [], length}
use Rattle.wdl_print.specs.Printed.{printed_from}
use Rattle.wdl_print.proofs.document.push_tokens.Given as goal

abbrev pub invariant-loop-left : goal.invariant-loop-left
invariant-loop-left l = l.text ++ printed_from l.opened l.left ≡ l.initial.text ++ printed_from [] l.tokens

abbrev pub decreases-loop-left : goal.decreases-loop-left
decreases-loop-left l = length l.left
