use Rattle.std.proofs.Common.{◌≡◌, drop, map}
use Rattle.wdl_check_flow.specs.Sections.{first_taken, taken}
use Rattle.wdl_check_flow.proofs.declared.+items.Given as goal

abbrev pub invariant-first_taken-loop-statement : goal.invariant-first_taken-loop-statement
invariant-first_taken-loop-statement l = record {
  taken : first_taken (map taken (drop l.statement-index l.body)) l.initial.words ≡ first_taken (map taken l.body) l.initial.words;
  words : l.words ≡ l.initial.words;
}
