use Rattle.std.proofs.Common.{◌≡◌, true, take}
use Rattle.std.specs.List.{list_all}
use Rattle.cwl_emit.specs.Formed.{is_plain}
use Rattle.cwl_formed.proofs.texts.see_all.Given as goal

abbrev pub invariant-loop-text : goal.invariant-loop-text
invariant-loop-text l = list_all is_plain (take l.text-index l.texts) ≡ true
