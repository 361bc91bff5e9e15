use Rattle.std.proofs.Common.{◌≡◌, ℕ, List, ◌||◌, drop}
use Rattle.json_values.specs.Reading.{is_declared}
use Rattle.wdl_names.proofs.KeySets.{any_key}
use Rattle.json_values.proofs.declared.names_of.Given as goal

abbrev pub invariant-loop-member : goal.invariant-loop-member
invariant-loop-member l = (q : List ℕ) → any_key q l.names.keys || is_declared q (drop l.member-index l.declared) ≡ is_declared q l.declared
