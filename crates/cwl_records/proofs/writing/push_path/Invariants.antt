use Rattle.std.proofs.Common.{◌≡◌, ◌++◌, drop}
use Rattle.cwl_records.specs.WideWriting.{dotted}
use Rattle.cwl_records.proofs.writing.push_path.Given as goal

abbrev pub invariant-loop-name : goal.invariant-loop-name
invariant-loop-name l = l.text ++ dotted (drop l.name-index l.path) ≡ l.initial.text ++ dotted l.path
