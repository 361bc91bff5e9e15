use Rattle.std.proofs.Common.{◌≡◌, true, take}
use Rattle.std.specs.List.{list_all}
use Rattle.wide_formed.specs.Forms.{input_named}
use Rattle.wide_formed.proofs.members.see_inputs.Given as goal

abbrev pub invariant-loop-input : goal.invariant-loop-input
invariant-loop-input l = list_all input_named (take l.input-index l.inputs) ≡ true
