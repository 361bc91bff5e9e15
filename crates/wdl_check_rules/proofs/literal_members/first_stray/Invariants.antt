use Rattle.std.proofs.Common.{◌≡◌, ◌&&◌, not, ℕ, List, [], drop, take}
use Rattle.std.specs.BTreeSet.{contains_text}
use Rattle.wdl_check_rules.specs.Checked.{first_stray}
use Rattle.wdl_check_rules.specs.Members.{is_member, is_listed}
use Rattle.wdl_check_rules.specs.Typed.{idents}
use Rattle.wdl_check_rules.proofs.literal_members.first_stray.Given as goal

abbrev pub invariant-loop-entry : goal.invariant-loop-entry
invariant-loop-entry l = record {
  left : (q : List ℕ) → contains_text l.left q ≡ (is_member l.members q && not (is_listed (idents (take l.entry-index l.entries)) q));
  same : first_stray l.members (idents (take l.entry-index l.entries)) (idents (drop l.entry-index l.entries)) ≡ first_stray l.members [] (idents l.entries);
}
