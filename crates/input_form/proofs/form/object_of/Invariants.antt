use Rattle.std.proofs.Common.{◌≡◌, ◌++◌, drop}
use Rattle.input_form.specs.Form.{more_text}
use Rattle.input_form.proofs.form.object_of.Given as goal

abbrev pub invariant-loop-line : goal.invariant-loop-line
invariant-loop-line l = l.text ++ more_text (drop l.line-index l.more) ≡ l.initial.text ++ more_text l.more
