use Rattle.std.proofs.Common.{◌≡◌, ℕ, List, ◌||◌, drop}
use Rattle.std.specs.BTreeSet.{contains_text}
use Rattle.wdl_json.specs.Inputs.{is_input}
use Rattle.wdl_json.proofs.unknown.names_of.Given as goal

abbrev pub invariant-loop-input : goal.invariant-loop-input
invariant-loop-input l = (q : List ℕ) → contains_text l.names q || is_input l.flow (drop l.input-index l.inputs) q ≡ is_input l.flow l.inputs q
