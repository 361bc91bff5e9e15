use Rattle.std.proofs.Common.{◌≡◌, map, take}
use Rattle.input_form.specs.Form.{line_of}
use Rattle.input_form.proofs.form.lines_of.Given as goal

abbrev pub invariant-loop-input : goal.invariant-loop-input
invariant-loop-input l = l.lines.items ≡ map (line_of l.flow) (take l.input-index l.inputs)
